use Rattle.cluster_clock_level.proofs.Rounds.{test-first, test-last, test-level, test-next}
use Rattle.laws.specs.Prelude.{arith}
use Rattle.cluster_clock_level.proofs.levels.stages_ok.Goals as goal

pub loop-i-init : goal.loop-i-init
loop-i-init c = (omega arith, test-first _ _ _ _ _ c.requires.0 c.requires.2)

pub offset_bounds-records-i : goal.offset_bounds-records-i
offset_bounds-records-i c = omega (arith, c.requires.1)

pub bounds-records-i : goal.bounds-records-i
bounds-records-i c = omega (arith, c.requires.1)

pub stage_ok-ok-requires : goal.stage_ok-ok-requires
stage_ok-ok-requires c = test-level _ _ _ _ _ _ _ _ _ c.loop-i.invariant.1 c.loop-i-test.true

pub overflow_add-a : goal.overflow_add-a
overflow_add-a c = let h = test-level _ _ _ _ _ _ _ _ _ c.loop-i.invariant.1 c.loop-i-test.true in omega (arith, h.nodes)

pub overflow_add-a-in-loop-i : goal.overflow_add-a-in-loop-i
overflow_add-a-in-loop-i c = let h = test-level _ _ _ _ _ _ _ _ _ c.loop-i.invariant.1 c.loop-i-test.true in omega (arith, h.nodes)

pub loop-i-preserved : goal.loop-i-preserved
loop-i-preserved c = (omega arith, test-next _ _ _ _ _ _ _ _ _ c.loop-i.invariant.1 c.loop-i-test.true _ _ c.stage_ok-ok.ensures c.room_under-limit.ensures)

pub returns : goal.returns
returns c = test-last _ _ _ _ _ _ _ _ _ c.loop-i.invariant.1 (omega arith)
