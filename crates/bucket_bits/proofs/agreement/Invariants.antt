-- `bucket_bits::agreement` meets its contract.
use Rattle.laws.specs.Prelude.{◌-◌}
use Rattle.bucket_bits.proofs.Up.{Climbing}
use Rattle.bucket_bits.proofs.agreement.Given as goal

abbrev pub invariant-loop : goal.invariant-loop
invariant-loop l = Climbing l.bits l.base l.storeys l.clears l.gone l.empty l.own l.c (l.storeys - l.counter) l.g l.i
