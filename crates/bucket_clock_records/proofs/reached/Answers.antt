use Rattle.bucket_clock_records.proofs.Records.{reach-no, reach-yes}
use Rattle.bucket_clock_records.proofs.reached.Goals as goal

pub returns-then-is_lent : goal.returns-then-is_lent
returns-then-is_lent c = reach-yes _ _ _ c.is_lent.ensures c.if-is_lent.true

pub returns : goal.returns
returns c = reach-no _ _ _ c.is_lent.ensures c.if-is_lent.false
