use Rattle.bucket_clock_records.proofs.Records.{here, kinds-more, kinds-none, load-ends, reach-fits, works-more, works-none}
use Rattle.bucket_clock_model.specs.Desk.{record_count}
use Rattle.bucket_clock_records.specs.Lent.{BucketRecord, kind_in, waiting_of}
use Rattle.laws.specs.Prelude.{◌∙◌, ap, arith, length, leb, replicate}
use Rattle.bucket_clock_records.proofs.load.Goals as goal

pub loop-i-init : goal.loop-i-init
loop-i-init c = (ap (replicate record_count) c.no_work-works.ensures ∙ works-none _, kinds-none _ _)

pub offset_bounds-records-i : goal.offset_bounds-records-i
offset_bounds-records-i c = omega (arith, c.loop-i-test.true, c.reached-n.ensures, (reach-fits c.args.storeys (length c.args.records.now)).0)

pub bounds-records-i : goal.bounds-records-i
bounds-records-i c = omega (arith, c.loop-i-test.true, c.reached-n.ensures, (reach-fits c.args.storeys (length c.args.records.now)).1)

pub offset_bounds-works-i : goal.offset_bounds-works-i
offset_bounds-works-i c = omega (arith, c.loop-i-test.true, c.reached-n.ensures, (reach-fits c.args.storeys (length c.args.records.now)).0)

pub bounds-works-i : goal.bounds-works-i
bounds-works-i c = omega (arith, c.loop-i-test.true, c.reached-n.ensures, (reach-fits c.args.storeys (length c.args.records.now)).0)

pub loop-i-preserved : goal.loop-i-preserved
loop-i-preserved c = (works-more _ _ _ c.loop-i.invariant.0 _ (c.waiting_of.ensures ∙ ap waiting_of (here c.args.records.now c.loop-i.i (omega (arith, c.loop-i-test.true, c.reached-n.ensures, (reach-fits c.args.storeys (length c.args.records.now)).1)))), kinds-more _ _ _ _ c.loop-i.invariant.1 _ (c.is_kind-ok.ensures ∙ ap (λ (r : BucketRecord). leb (kind_in r) 3) (here c.args.records.now c.loop-i.i (omega (arith, c.loop-i-test.true, c.reached-n.ensures, (reach-fits c.args.storeys (length c.args.records.now)).1)))))

pub returns : goal.returns
returns c = load-ends _ _ _ _ _ c.is_lent-lent.ensures c.reached-n.ensures (omega arith) c.loop-i-test.false _ c.loop-i.invariant.0 _ c.loop-i.invariant.1
