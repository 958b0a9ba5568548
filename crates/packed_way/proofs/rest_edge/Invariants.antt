-- `packed_way::rest_edge` meets its contract.
use Rattle.laws.specs.Prelude.{◌-◌}
use Rattle.packed_way.proofs.Walked.{Edge}
use Rattle.packed_way.proofs.rest_edge.Given as goal

abbrev pub invariant-loop : goal.invariant-loop
invariant-loop v = Edge v.heaps v.left v.last v.p v.m v.x v.s (v.left - v.counter) v.at
