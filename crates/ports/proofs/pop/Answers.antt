-- `ports::pop` meets its contract.
use Rattle.laws.specs.Prelude.{◌∙◌}
use Rattle.bucket_step.proofs.Depths.{all-gone}
use Rattle.ports_model.specs.Prelude.{popped}
use Rattle.ports.proofs.Returns.{pop-undeep}
use Rattle.ports.proofs.pop.Goals as goal

pub returns-then-d-s : goal.returns-then-d-s
returns-then-d-s c = c.pop_at.ensures ∙ (let inv = c.loop-d.invariant in λ i. popped (record { storeys = c.if-d-s.true i; nodes = c.args.s.nodes; ports = c.args.s.ports }) c.args.port (inv.0 i) (inv.1 i))

pub returns : goal.returns
returns c =
    let inv = c.loop-d.invariant in
    let a = c.args in
    rw (inv.0, inv.1) (pop-undeep a.s a.port a.bits.now a.words.now (all-gone a.s.storeys c.loop-d.d c.loop-d-test.false inv.2))
