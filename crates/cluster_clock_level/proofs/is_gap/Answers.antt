use Rattle.cluster_clock_level.proofs.Testing.{gap_is}
use Rattle.cluster_clock_level.proofs.is_gap.Goals as goal

pub returns : goal.returns
returns c = gap_is _ _ _ _ c.requires.1
