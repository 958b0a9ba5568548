-- `bucket_bits::signal` meets its contract.
use Rattle.laws.specs.Prelude.{◌-◌, cond}
use Rattle.bucket_model.specs.Prelude.{edit, storeys_from, words_of}
use Rattle.bucket_bits.proofs.Up.{Rising}
use Rattle.bucket_bits.proofs.signal.Given as goal

abbrev pub invariant-loop : goal.invariant-loop
invariant-loop l = Rising l.on l.initial.bits (cond l.initial.more (edit l.on l.initial.bits (storeys_from l.base (l.storeys - 1)) (l.initial.i - words_of (l.storeys - 1))) l.initial.bits) l.base (l.storeys - 1) l.bits l.more (l.storeys - l.counter) l.i
