-- `lines_work::scan` meets its contract.
use Rattle.laws.specs.Prelude.{◌*◌, ◌+◌, ◌-◌}
use Rattle.lines_work.proofs.Choices.{Scanning}
use Rattle.lines_work.proofs.scan.Given as goal

abbrev pub invariant-loop-i : goal.invariant-loop-i
invariant-loop-i l = Scanning l.s l.a l.c l.rank l.ok l.spot l.last (l.a + 3 * l.i) (l.c - l.i)
