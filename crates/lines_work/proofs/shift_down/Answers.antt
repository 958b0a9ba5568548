-- `lines_work::shift_down` meets its contract.
use Rattle.laws.specs.Prelude.{◌+◌, ◌-◌, ◌≡◌, arith, length-set}
use Rattle.lines_work.proofs.Shifts.{down-none, down-on}
use Rattle.lines_work.proofs.shift_down.Goals as goal

pub loop-b-preserved : goal.loop-b-preserved
loop-b-preserved c = (down-on _ c.loop-b.s c.loop-b.b _ (omega arith) c.loop-b.invariant.0, simp length-set c.loop-b.invariant.1)

pub returns : goal.returns
returns c = let z : c.args.a + c.args.n - c.loop-b.b ≡ 0 = omega arith in down-none _ _ _ _ z c.loop-b.invariant.0
