use Rattle.cluster_clock_level.proofs.Testing.{put_is}
use Rattle.laws.specs.Prelude.{arith}
use Rattle.cluster_clock_level.proofs.put_ok.Goals as goal

pub returns : goal.returns
returns c = put_is _ _ _ _ (omega (arith, c.requires.some)) _ c.look-v.ensures _ c.node_ok-fine.ensures _ c.both_full-full.ensures
