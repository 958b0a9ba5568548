-- `ports_step::add_up` meets its contract.
use Rattle.ports_step.specs.Sums.{Summed}
use Rattle.ports_step.proofs.add_up.Given as goal

abbrev pub invariant-loop-p : goal.invariant-loop-p
invariant-loop-p l = Summed l.words l.free l.p l.t
