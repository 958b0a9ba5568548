-- `tree_clock_level::run_levels` meets its contract.
use Rattle.laws.specs.Prelude.{◌∙◌, arith, not-false, not-true, sym}
use Rattle.tree_clock_level.proofs.Rounds.{end-records, end-tests, end-words, going_end, going-here, level_in, next_small, root-place, run-levels-damaged, run-levels-idle, run-levels-root, run-levels-step, cycle_run-off, cycle_run-on, passing-as}
use Rattle.tree_clock_level.proofs.run_levels.Goals as goal
use Rattle.tree_clock_level.proofs.run_levels.Goals.{else-not-is_idle, then-not-is_idle+in-Some}

pub loop-i-init : goal.loop-i-init
loop-i-init c = run-levels-root _ _ _ c.requires.0 c.args.g c.requires.2 c.args.state _ _ _ _ c.step_of-root.ensures c.requires.1 c.second_level-at.ensures c.steps_of-n.ensures

pub next_level-next-requires : goal.next_level-next-requires
next_level-next-requires c = (c.requires.0.lies.order, (next_small _ _ _ _ _ _ _ _ _ _ _ _ _ _ (going-here _ _ _ _ _ _ _ _ _ _ _ _ _ _ c.loop-i.invariant c.loop-i-test.true)).1)

pub plan_level-requires : goal.plan_level-requires
plan_level-requires c = (level_in _ _ _ _ _ _ _ _ _ _ _ _ _ _ (going-here _ _ _ _ _ _ _ _ _ _ _ _ _ _ c.loop-i.invariant c.loop-i-test.true) _ c.next_level-next.ensures.room, sym c.is_idle.ensures ∙ not-true _ c.if-not-is_idle.true-raw)

pub returns-in_default : goal.returns-in_default
returns-in_default c =
    cycle_run-off _ _ _ c.requires.0 c.args.g c.requires.2 _ _ _ _ _
    (run-levels-damaged _ _ _ _ _ _ _ _ _ _ _ _ _ _ (going-here _ _ _ _ _ _ _ _ _ _ _ _ _ _ c.loop-i.invariant c.loop-i-test.true) _ c.next_level-next.ensures.room c.in_default.ensures)
    c.left_as.ensures

pub loop-i-preserved : goal.loop-i-preserved
loop-i-preserved c =
    let now = going-here _ _ _ _ _ _ _ _ _ _ _ _ _ _ c.loop-i.invariant c.loop-i-test.true in
    let steps = sym c.is_idle.ensures in
    elim c.if-not-is_idle.branch [ then-not-is_idle+in-Some w ↦ passing-as _ _ _ _ _ _ _ _ _ _ _ _ _ _ _ _ _ _ _ (run-levels-step _ _ _ _ _ _ _ _ _ _ _ _ _ _ now _ c.land-due.ensures _ c.next_level-next.ensures.room _ w.in-Some.ensures (steps ∙ not-true _ w.if-not-is_idle.true-raw) (omega (arith, c.loop-i.invariant.few, c.loop-i.invariant.spare, c.requires.0.records))) c.next_level-next.ensures.base c.next_level-next.ensures.nodes w.n-is w.writes-is w.load-is | else-not-is_idle w ↦ passing-as _ _ _ _ _ _ _ _ _ _ _ _ _ _ _ _ _ _ _ (run-levels-idle _ _ _ _ _ _ _ _ _ _ _ _ _ _ now _ c.land-due.ensures _ c.next_level-next.ensures.room _ c.no_work-load.ensures (steps ∙ not-false _ w.if-not-is_idle.false-raw)) c.next_level-next.ensures.base c.next_level-next.ensures.nodes w.n-is w.writes-is w.load-is ]

pub returns : goal.returns
returns c =
    let end = going_end _ _ _ _ _ _ _ _ _ _ _ _ _ _ c.loop-i.invariant (omega arith) in
    cycle_run-on _ _ _ c.requires.0 c.args.g c.requires.2 _ _ _ _ _ _ _ (end-tests _ _ _ _ _ _ _ _ _ _ _ _ _ end) (end-records _ _ _ _ _ _ _ _ _ _ _ _ _ end) (c.write_all.ensures ∙ end-words _ _ _ _ _ _ _ _ _ _ _ _ _ end) c.ran.ensures

pub step_of-root-requires : goal.step_of-root-requires
step_of-root-requires c = omega (arith, root-place c.args.order c.args.below c.args.s.now c.requires.0 c.args.g c.requires.2, c.requires.0.lies.few)
