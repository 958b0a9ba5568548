-- `bucket_bits::lowest_rank` meets its contract.
use Rattle.bucket_bits.proofs.Down.{At}
use Rattle.bucket_bits.proofs.lowest_rank.Given as goal

abbrev pub invariant-loop : goal.invariant-loop
invariant-loop l = At l.bits l.base l.counter l.i
