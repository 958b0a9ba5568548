use Rattle.bucket_clock_records.proofs.Records.{lends-is}
use Rattle.bucket_clock_records.proofs.is_lent.Goals as goal

pub returns : goal.returns
returns c = lends-is _ _
