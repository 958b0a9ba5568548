use Rattle.laws.specs.Prelude.{arith, length-set}
use Rattle.card_bucket_clock.proofs.tell_element.Goals as goal

pub bounds-out-1 : goal.bounds-out-1
bounds-out-1 c = simp length-set (omega (arith, c.requires))

pub bounds-out-2 : goal.bounds-out-2
bounds-out-2 c = simp length-set (omega (arith, c.requires))

pub bounds-out-3 : goal.bounds-out-3
bounds-out-3 c = simp length-set (omega (arith, c.requires))
