use Rattle.laws.specs.Prelude.{replicate}
use Rattle.bucket_clock_model.specs.Desk.{fresh, record_count}
use Rattle.laws.specs.Prelude.{ap}
use Rattle.bucket_clock.proofs.fresh_records.Goals as goal

pub returns : goal.returns
unfolding fresh
returns c = ap (replicate record_count) c.no_work.ensures
