-- `packed_way::rest_edge` meets its contract.
use Rattle.laws.specs.Prelude.{◌-◌, ◌∙◌, ◌≡◌, ap, arith, subst, ℕ}
use Rattle.std.specs.Prelude.{Some}
use Rattle.packed_model.specs.Node.{lhs, rhs}
use Rattle.packed_way.proofs.Walked.{edge-on, walk-last, walk-stays, walk-torn}
use Rattle.packed_way.specs.Sink.{Walk}
use Rattle.packed_way.specs.declared.Goes.{Goes}
use Rattle.packed_way.proofs.rest_edge.Goals as goal
use Rattle.packed_way.proofs.rest_edge.Goals.{in-Left, in-Right}

pub returns-in_err-edge_to : goal.returns-in_err-edge_to
returns-in_err-edge_to c = λ l h n held us reads w. rw c.from_residual.ensures (walk-torn c.args.heaps l c.args.x h c.args.s.now us n c.args.last c.args.p held reads c.loop.at _ c.edge_to.ensures (c.args.left - c.loop.counter) (omega arith) (c.loop.invariant.walk l h n held us reads w) c.in_err-edge_to.was)

pub returns-in-Nowhere : goal.returns-in-Nowhere
returns-in-Nowhere c = λ l h n held us reads w. walk-stays c.args.heaps l c.args.x h c.args.s.now us n c.args.last c.args.p held reads c.loop.at _ c.edge_to.ensures (c.args.left - c.loop.counter) (omega arith) (c.loop.invariant.walk l h n held us reads w) (c.in_ok-edge_to.was ∙ ap (λ (g : Goes). Some g) c.in-Nowhere.is)

pub loop-preserved : goal.loop-preserved
loop-preserved c = elim c.match-branch-2.branch [ in-Left w ↦ edge-on c.args.heaps c.args.left c.args.last c.args.p c.args.m c.args.x c.args.s.now c.loop.counter c.loop.at c.loop-test.true c.loop.invariant _ c.edge_to.ensures lhs (c.in_ok-edge_to.was ∙ ap (λ (g : Goes). Some g) w.in-Left.is) _ w.at-is | in-Right w ↦ edge-on c.args.heaps c.args.left c.args.last c.args.p c.args.m c.args.x c.args.s.now c.loop.counter c.loop.at c.loop-test.true c.loop.invariant _ c.edge_to.ensures rhs (c.in_ok-edge_to.was ∙ ap (λ (g : Goes). Some g) w.in-Right.is) _ w.at-is ]

pub returns : goal.returns
returns c = λ l h n held us reads w. let z : c.args.left - c.loop.counter ≡ 0 = omega arith in walk-last _ _ _ _ us n _ (subst (λ (k : ℕ). Walk c.args.heaps l c.args.x h us n k c.loop.at) z (c.loop.invariant.walk l h n held us reads w))
