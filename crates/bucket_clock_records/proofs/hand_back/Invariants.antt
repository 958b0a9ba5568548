use Rattle.bucket_clock_records.specs.Lent.{works_back}
use Rattle.laws.specs.Prelude.{◌≡◌}
use Rattle.bucket_clock_records.proofs.hand_back.Given as goal

abbrev pub invariant-loop-i : goal.invariant-loop-i
invariant-loop-i l = l.records ≡ works_back l.i l.works l.fn.records
