-- `ports_step::add_up` meets its contract.
use Rattle.laws.specs.Prelude.{◌≡◌, arith, subst, ℕ}
use Rattle.ports_step.specs.Sums.{Summed}
use Rattle.ports_step.proofs.Sums.{sums_none}
use Rattle.ports_step.proofs.add_up.Goals as goal

pub loop-p-init : goal.loop-p-init
loop-p-init c = sums_none _ _
