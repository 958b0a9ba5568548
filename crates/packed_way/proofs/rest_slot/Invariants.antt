-- `packed_way::rest_slot` meets its contract.
use Rattle.laws.specs.Prelude.{◌≤◌}
use Rattle.packed_way.proofs.Walked.{Stands}
use Rattle.packed_way.proofs.rest_slot.Given as goal

abbrev pub invariant-loop-k : goal.invariant-loop-k
invariant-loop-k l = (l.k ≤ l.left) × Stands l.heaps l.left l.last l.p l.heap l.x l.s l.k l.w
