-- `tree_clock_level::shaped::cycle_shaped` meets its contract.
use Rattle.tree_clock_level.proofs.Cycles.{cycle-damaged, cycle_runs, root_in, root-planned, rooted, cycle_run-still}
use Rattle.tree_clock_level.proofs.shaped.cycle_shaped.Goals as goal

-- where the root has been looked at
pub returns-in_default : goal.returns-in_default
returns-in_default c = cycle-damaged _ _ _ _ _ _ c.requires.0 c.requires.1 _ _ c.in_default.ensures c.left_as.ensures

pub returns-then-is_quiet : goal.returns-then-is_quiet
returns-then-is_quiet c =
    cycle_runs _ _ _ _ _ _ c.requires.0 c.requires.1 _ c.in-Some.ensures _ _ c.leaves_mark-mark.ensures
    (cycle_run-still _ _ _ _ _ _ _ _ _ _ _ c.is_nothing.ensures c.if-is_nothing.true c.is_quiet.ensures c.if-is_quiet.true c.ran.ensures)

pub run_levels-requires : goal.run_levels-requires
run_levels-requires c = (rooted _ _ _ c.requires.0, c.requires.1, root-planned _ _ _ _ c.args.state _ c.requires.0 c.requires.1 _ c.in-Some.ensures)

pub returns : goal.returns
returns c = cycle_runs _ _ _ _ _ _ c.requires.0 c.requires.1 _ c.in-Some.ensures _ _ c.leaves_mark-mark.ensures c.run_levels.ensures

pub rule_root-requires : goal.rule_root-requires
rule_root-requires c = root_in _ _ _ c.requires.0 _ c.requires.1

pub is_quiet-requires : goal.is_quiet-requires
is_quiet-requires c = (rooted c.args.order c.args.below c.args.store.now c.requires.0).records
