-- `ports_step::bit_words` meets its contract.
use Rattle.laws.specs.Prelude.{arith}
use Rattle.ports_step.proofs.Sums.{seat-small, tall-is}
use Rattle.ports_step.proofs.bit_words.Goals as goal

pub overflow_mul-result : goal.overflow_mul-result
overflow_mul-result c = omega (arith, seat-small c.args.s c.seat_of.result c.requires c.seat_of.ensures)

pub returns : goal.returns
returns c = record { is = tall-is c.args.s c.seat_of.result c.seat_of.ensures; within = (seat-small c.args.s c.seat_of.result c.requires c.seat_of.ensures).0 }
