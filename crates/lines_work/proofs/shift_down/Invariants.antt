-- `lines_work::shift_down` meets its contract.
use Rattle.laws.specs.Prelude.{◌+◌, ◌-◌, ◌≡◌, length}
use Rattle.lines_work.specs.Shift.{down}
use Rattle.lines_work.proofs.shift_down.Given as goal

abbrev pub invariant-loop-b : goal.invariant-loop-b
invariant-loop-b l = (down l.s l.b (l.a + l.n - l.b) ≡ down l.initial.s l.a l.n) × (length l.s ≡ length l.initial.s)
