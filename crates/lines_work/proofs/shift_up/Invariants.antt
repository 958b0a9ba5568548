use Rattle.laws.specs.Prelude.{◌+◌, ◌≡◌, ◌≤◌, length}
use Rattle.lines_work.specs.Shift.{up}
use Rattle.lines_work.proofs.shift_up.Given as goal

abbrev pub invariant-loop-left : goal.invariant-loop-left
invariant-loop-left l = (up l.s l.b l.left ≡ up l.initial.s l.b l.n) × (l.b + l.left + 3 ≤ length l.s) × (length l.s ≡ length l.initial.s)
