use Rattle.cluster_clock_level.proofs.Beginning.{take_last, take_more}
use Rattle.cluster_clock_level.proofs.take_from.Goals as goal

pub returns-then-bare : goal.returns-then-bare
returns-then-bare c = take_last _ _ _ _ _ c.requires.0 c.requires.1 _ c.bare_at-bare.ensures _ c.clear_place.ensures c.if-bare.true _ c.no_stage.ensures

pub returns : goal.returns
returns c = take_more _ _ _ _ _ c.requires.0 c.requires.1 _ c.bare_at-bare.ensures _ c.clear_place.ensures c.if-bare.false
