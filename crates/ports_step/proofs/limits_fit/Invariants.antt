-- `ports_step::limits_fit` meets its contract.
use Rattle.laws.specs.Prelude.{◌≡◌, leb}
use Rattle.ports_model.specs.Prelude.{all_to, ceiling_of, floor_of}
use Rattle.ports_step.specs.Sums.{Floors}
use Rattle.ports_step.proofs.limits_fit.Given as goal

abbrev pub invariant-loop-q : goal.invariant-loop-q
invariant-loop-q l = (l.orderly ≡ all_to l.q (λ q. leb (floor_of l.limits q) (ceiling_of l.limits q))) × Floors l.limits l.q l.sum
