use Rattle.bucket_clock_records.proofs.Records.{back-ends, back-length, back_more, back_none}
use Rattle.bucket_clock_model.specs.Desk.{work_at}
use Rattle.laws.specs.Prelude.{◌∙◌, ap, arith, length}
use Rattle.bucket_clock_records.proofs.hand_back.Goals as goal

pub loop-i-init : goal.loop-i-init
loop-i-init c = back_none _ _

pub offset_bounds-works-i : goal.offset_bounds-works-i
offset_bounds-works-i c = omega (arith, c.loop-i-test.true, c.requires.few)

pub bounds-works-i : goal.bounds-works-i
bounds-works-i c = omega (arith, c.loop-i-test.true, c.requires.few)

pub offset_bounds-records-i : goal.offset_bounds-records-i
offset_bounds-records-i c = omega (arith, c.loop-i-test.true, c.requires.few)

pub bounds-records-i : goal.bounds-records-i
bounds-records-i c = omega (arith, c.loop-i-test.true, c.requires.long, ap length c.loop-i.invariant ∙ back-length c.loop-i.i c.args.works c.args.records.now)

pub loop-i-preserved : goal.loop-i-preserved
unfolding work_at
loop-i-preserved c = back_more _ _ _ _ c.loop-i.invariant _ c.record_of.ensures

pub shape_of-records : goal.shape_of-records
shape_of-records c = ap length c.loop-i.invariant ∙ back-length _ _ _

pub returns : goal.returns
returns c = back-ends _ _ _ _ _ (omega arith) c.loop-i-test.false c.loop-i.invariant
