use Rattle.cluster_clock_level.proofs.Testing.{wait-is}
use Rattle.laws.specs.Prelude.{arith}
use Rattle.cluster_clock_level.proofs.wait_ok.Goals as goal

pub returns : goal.returns
returns c = wait-is _ _ _ _ (omega (arith, c.requires.0.some)) _ c.look-v.ensures _ c.node_ok-fine.ensures _ _ _ _ c.bare_at-bare.ensures c.gives_ok-left.ensures c.gives_ok-right.ensures _ c.room_under-deeper.ensures
