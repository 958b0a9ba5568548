-- `cluster_records::memory::hand_back` meets its contract.
use Rattle.laws.specs.Prelude.{◌<◌, ◌∙◌, ap, arith, length, ◌≡◌, ℕ}
use Rattle.cluster_clock_model.specs.Prelude.{stage_count}
use Rattle.cluster_records.proofs.Back.{back-length, back_more, back_none}
use Rattle.cluster_records.specs.Lent.{stages_back}
use Rattle.cluster_records.proofs.memory.hand_back.Goals as goal
use Rattle.cluster_records.proofs.memory.hand_back.Goals.{In-loop-i}

-- in a round there is one more to be written
few : (c : In-loop-i) → c.loop-i.i < stage_count
few c = omega (arith, c.loop-i-test.true, c.requires.few)

long : (c : In-loop-i) → c.loop-i.i < length c.loop-i.records
long c =
    let same = ap length c.loop-i.invariant ∙ back-length c.loop-i.i c.args.ended.stages c.args.records.now in
    omega (arith, c.loop-i-test.true, c.requires.within, same)

pub loop-i-init : goal.loop-i-init
loop-i-init c = back_none _ _

pub offset_bounds-stages-i : goal.offset_bounds-stages-i
offset_bounds-stages-i c = omega (arith, few c)

pub bounds-stages-i : goal.bounds-stages-i
bounds-stages-i c = few c

pub record_of-requires : goal.record_of-requires
record_of-requires c = c.requires.fits _ c.loop-i-test.true

pub offset_bounds-records-i : goal.offset_bounds-records-i
offset_bounds-records-i c = omega (arith, few (goal.at.offset_bounds-records-i c).In-loop-i)

pub bounds-records-i : goal.bounds-records-i
bounds-records-i c = long (goal.at.bounds-records-i c).In-loop-i

pub loop-i-preserved : goal.loop-i-preserved
loop-i-preserved c = back_more _ _ _ _ c.loop-i.invariant _ c.record_of.ensures

pub shape_of-records : goal.shape_of-records
shape_of-records c = ap length c.loop-i.invariant ∙ back-length _ _ _

pub returns : goal.returns
returns c =
    let e : c.loop-i.i ≡ c.args.ended.count = omega arith in
    (c.loop-i.invariant ∙ ap (λ (k : ℕ). stages_back k c.args.ended.stages c.args.records.now) e, c.number.ensures)
