use Rattle.cluster_clock_level.proofs.Rounds.{end-pass, end-works, go-first, go-next, go-pends, go-small, go-works}
use Rattle.laws.specs.Prelude.{◌∙◌, arith}
use Rattle.cluster_clock_level.proofs.levels.run_levels.Goals as goal

pub loop-i-init : goal.loop-i-init
loop-i-init c = (omega arith, go-first _ _ _ _ _ c.requires (omega (arith, c.requires.records)))

pub offset_bounds-left-i : goal.offset_bounds-left-i
offset_bounds-left-i c = omega (arith, c.requires.records)

pub bounds-left-i : goal.bounds-left-i
bounds-left-i c = omega (arith, c.requires.records)

pub settle-next-requires : goal.settle-next-requires
settle-next-requires c = go-pends _ _ _ _ _ _ _ _ _ c.loop-i.invariant.1 c.loop-i-test.true

pub begin-load-requires : goal.begin-load-requires
begin-load-requires c = go-works _ _ _ _ _ _ _ _ _ c.loop-i.invariant.1 c.loop-i-test.true _ _ c.settle-next.ensures

pub offset_bounds-left-i-in-loop-i : goal.offset_bounds-left-i-in-loop-i
offset_bounds-left-i-in-loop-i c = omega (arith, c.requires.records)

pub bounds-left-i-in-loop-i : goal.bounds-left-i-in-loop-i
bounds-left-i-in-loop-i c = omega (arith, c.loop-i.invariant.1.spare)

pub overflow_add-a : goal.overflow_add-a
overflow_add-a c = let h = go-small _ _ _ _ _ _ _ _ _ c.loop-i.invariant.1 c.loop-i-test.true in omega (arith, h)

pub overflow_add-a-in-loop-i : goal.overflow_add-a-in-loop-i
overflow_add-a-in-loop-i c = let h = go-small _ _ _ _ _ _ _ _ _ c.loop-i.invariant.1 c.loop-i-test.true in omega (arith, h)

pub loop-i-preserved : goal.loop-i-preserved
loop-i-preserved c = (omega arith, go-next _ _ _ _ _ _ _ _ _ c.loop-i.invariant.1 c.loop-i-test.true _ _ c.settle-next.ensures _ _ c.begin-load.ensures (c.begin-load.auto.s ∙ c.settle-next.auto.s))

pub begin-requires : goal.begin-requires
begin-requires c = end-works _ _ _ _ _ _ _ _ _ c.loop-i.invariant.1 (omega arith)

pub shape_of-s : goal.shape_of-s
shape_of-s c = c.begin.auto.s ∙ c.loop-i.invariant.1.whole

pub returns : goal.returns
returns c = end-pass _ _ _ _ _ _ _ _ _ c.loop-i.invariant.1 (omega arith) _ _ c.begin.ensures
