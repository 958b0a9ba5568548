use Rattle.bucket_clock_records.specs.Lent.{kinds_from, works_read}
use Rattle.laws.specs.Prelude.{◌≡◌}
use Rattle.bucket_clock_records.proofs.load.Given as goal

abbrev pub invariant-loop-i : goal.invariant-loop-i
invariant-loop-i l = (l.works ≡ works_read l.i l.records) × (l.ok ≡ kinds_from l.lent l.i l.records)
