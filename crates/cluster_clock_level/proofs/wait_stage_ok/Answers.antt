use Rattle.cluster_clock_level.proofs.Testing.{level-three, place-lacks, place-there, test-lacks}
use Rattle.laws.specs.Prelude.{arith}
use Rattle.cluster_clock_level.proofs.wait_stage_ok.Goals as goal

pub returns-then-a-n : goal.returns-then-a-n
returns-then-a-n c = test-lacks _ _ _ c.if-a-n.true

pub returns-then-k-place : goal.returns-then-k-place
returns-then-k-place c = place-lacks c.args.n c.args.a c.args.place c.args.k _ (omega arith) c.if-k-place.true

pub is_gap-is-requires : goal.is_gap-is-requires
is_gap-is-requires c = ((level-three c.args.k c.args.a c.args.n _ c.requires (omega arith)).0, omega arith)

pub wait_ok-fine-requires : goal.wait_ok-fine-requires
wait_ok-fine-requires c = level-three c.args.k c.args.a c.args.n _ c.requires (omega arith)

pub returns : goal.returns
returns c = place-there c.args.n c.args.a c.args.place c.args.k _ _ _ _ _ (omega arith) (omega arith) c.is_gap-is.ensures c.wait_ok-fine.ensures
