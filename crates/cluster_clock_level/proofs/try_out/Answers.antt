use Rattle.cluster_clock_level.proofs.Settling.{lift-settles, stay-settles, under-here}
use Rattle.laws.specs.Prelude.{refl}
use Rattle.cluster_clock_level.proofs.try_out.Goals as goal

pub choice-c-requires : goal.choice-c-requires
choice-c-requires c = under-here _ _ _ c.requires.lies

pub returns-then-not-lower : goal.returns-then-not-lower
returns-then-not-lower c = stay-settles _ _ _ _ _ c.requires _ _ (c.choice-c.ensures _ refl) _ c.choose-node.ensures _ _ c.lower.ensures c.if-not-lower.true-raw

pub returns : goal.returns
returns c = lift-settles _ _ _ _ _ c.requires _ _ (c.choice-c.ensures _ refl) _ c.choose-node.ensures _ _ c.lower.ensures c.if-not-lower.false-raw _ c.set_place.ensures
