-- `ports_step::store_words` meets its contract.
use Rattle.laws.specs.Prelude.{arith}
use Rattle.ports_step.proofs.Sums.{seat-small, long-is}
use Rattle.ports_step.proofs.store_words.Goals as goal

pub returns : goal.returns
returns c = record { is = long-is c.args.s c.seat_of.result c.seat_of.ensures; within = omega (arith, c.requires.few, seat-small c.args.s c.seat_of.result c.requires c.seat_of.ensures) }
