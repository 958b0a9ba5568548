use Rattle.cluster_clock_level.proofs.Testing.{next_here, test-lacks, test-there}
use Rattle.laws.specs.Prelude.{◌&&◌, ◌+◌, ◌∙◌, ap, arith, ℕ}
use Rattle.cluster_clock_model.specs.Prelude.{sane_at}
use Rattle.cluster_model.specs.Prelude.{node_in, roomy}
use Rattle.cluster_clock_level.proofs.put_stage_ok.Goals as goal

pub returns-then-next-n : goal.returns-then-next-n
returns-then-next-n c = test-lacks _ _ _ c.if-next-n.true

pub put_ok-requires : goal.put_ok-requires
put_ok-requires c = next_here c.args.k c.args.a c.args.n _ c.requires (omega arith)

pub returns : goal.returns
returns c = test-there c.args.n (c.args.a + c.args.a + 1) _ _ (omega arith) (c.put_ok.ensures ∙ ap (λ (r : ℕ). sane_at c.args.k r c.args.s.now ((c.args.a + c.args.a + 1) + c.args.n) && roomy r (node_in c.args.k c.args.s.now ((c.args.a + c.args.a + 1) + c.args.n))) c.room_under-deeper.ensures)
