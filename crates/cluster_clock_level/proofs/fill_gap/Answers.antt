use Rattle.cluster_clock_level.proofs.Settling.{fill-settles, under-here}
use Rattle.laws.specs.Prelude.{refl}
use Rattle.cluster_clock_level.proofs.fill_gap.Goals as goal

pub choice-c-requires : goal.choice-c-requires
choice-c-requires c = under-here _ _ _ c.requires.lies

pub returns : goal.returns
returns c = fill-settles _ _ _ _ _ c.requires _ _ (c.choice-c.ensures _ refl) _ c.choose-node.ensures _ _ c.sink.ensures c.set_place.ensures
