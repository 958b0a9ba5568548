-- `cluster_records::memory::load` meets its contract.
use Rattle.laws.specs.Prelude.{[], ◌<◌, ◌∙◌, ◌≡◌, ap, arith, get_or, leb, length}
use Rattle.cluster_clock_model.specs.Prelude.{stage_count}
use Rattle.cluster_records.proofs.Back.{here, kinds-more, kinds-none, load-ends, stages-more, stages-none}
use Rattle.cluster_records.proofs.Records.{reach_few, reach-within}
use Rattle.cluster_records.specs.Lent.{ClusterRecord, kind_in, no_record, stage_of}
use Rattle.cluster_records.proofs.memory.load.Goals as goal
use Rattle.cluster_records.proofs.memory.load.Goals.{In-loop-i}

-- in a turn there is one more to be read
few : (c : In-loop-i) → c.loop-i.i < stage_count
few c =
    omega (arith, c.loop-i-test.true, c.reached-i-end.ensures, reach_few c.args.levels (length c.args.records.now))

long : (c : In-loop-i) → c.loop-i.i < length c.args.records.now
long c =
    omega (arith, c.loop-i-test.true, c.reached-i-end.ensures, reach-within c.args.levels (length c.args.records.now))

same : (c : In-loop-i) → let rs = c.args.records.now in get_or rs c.loop-i.i [] ≡ get_or rs c.loop-i.i no_record
same c = here c.args.records.now c.loop-i.i (long c)

pub loop-i-init : goal.loop-i-init
loop-i-init c = (c.fresh_records-stages.ensures ∙ stages-none _, kinds-none _)

pub offset_bounds-records-i : goal.offset_bounds-records-i
offset_bounds-records-i c = omega (arith, few c)

pub bounds-records-i : goal.bounds-records-i
bounds-records-i c = long c

pub offset_bounds-stages-i : goal.offset_bounds-stages-i
offset_bounds-stages-i c = omega (arith, few (goal.at.offset_bounds-stages-i c).In-loop-i)

pub loop-i-preserved : goal.loop-i-preserved
loop-i-preserved c =
    let inv = c.loop-i.invariant in
    let r = same (goal.at.loop-i-preserved c).In-loop-i in (
      stages-more _ _ _ inv.0 _ (c.stage_of.ensures ∙ ap stage_of r),
      kinds-more _ _ _ inv.1 _ (c.is_kind-ok.ensures ∙ ap (λ (r : ClusterRecord). leb (kind_in r) 3) r),
    )

pub returns : goal.returns
returns c =
    let inv = c.loop-i.invariant in
    let e : c.loop-i.i ≡ c.reached-i-end.result = omega arith in
    load-ends _ _ _ (e ∙ c.reached-i-end.ensures) _ inv.0 _ inv.1

pub bounds-stages-i : goal.bounds-stages-i
bounds-stages-i c = few (goal.at.bounds-stages-i c).In-loop-i
