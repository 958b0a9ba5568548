use Rattle.bucket_clock_records.proofs.Records.{record_is}
use Rattle.bucket_clock_records.proofs.record_of.Goals as goal

pub returns-in-Idle : goal.returns-in-Idle
returns-in-Idle c = record_is c.args.g _ _ c.in-Idle.is c.bare.ensures

pub returns-in-Push : goal.returns-in-Push
returns-in-Push c = record_is c.args.g _ _ c.in-Push.is c.laden.ensures

pub returns-in-Pop : goal.returns-in-Pop
returns-in-Pop c = record_is c.args.g _ _ c.in-Pop.is c.bare-in-Pop.ensures

pub returns-in-Replace : goal.returns-in-Replace
returns-in-Replace c = record_is c.args.g _ _ c.in-Replace.is c.laden-in-Replace.ensures
