use Rattle.cluster_clock_level.proofs.Beginning.{swap-last, swap-more}
use Rattle.cluster_clock_level.proofs.swap_in.Goals as goal

pub returns-then-bare : goal.returns-then-bare
returns-then-bare c = swap-last _ _ _ _ _ c.requires.0 c.requires.1 _ c.bare_at-bare.ensures _ _ c.set_place.ensures c.if-bare.true _ c.no_stage.ensures

pub returns : goal.returns
returns c = swap-more _ _ _ _ _ c.requires.0 c.requires.1 _ c.bare_at-bare.ensures _ _ c.set_place.ensures c.if-bare.false
