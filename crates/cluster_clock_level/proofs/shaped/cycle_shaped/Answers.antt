use Rattle.cluster_clock_level.proofs.Cycles.{shape-lies, shape-records, shape-root, cycle-damaged, cycle-ready, cycle-root, cycle_runs}
use Rattle.cluster_clock_level.proofs.shaped.cycle_shaped.Goals as goal

pub rule_root-requires : goal.rule_root-requires
rule_root-requires c = shape-root _ _ _ _ c.requires.0 c.requires.1

pub returns-in_default : goal.returns-in_default
returns-in_default c = cycle-root _ _ _ _ _ c.requires.0 c.requires.1 _ c.in_default.ensures _ _ c.left_as.ensures

pub stages_ok-requires : goal.stages_ok-requires
stages_ok-requires c = (shape-lies _ _ _ c.requires.0, shape-records _ _ _ c.requires.0, c.requires.1)

pub returns-then-not-stages_ok : goal.returns-then-not-stages_ok
returns-then-not-stages_ok c = cycle-damaged _ _ _ _ _ c.requires.0 c.requires.1 _ _ c.in-Some.ensures _ c.stages_ok.ensures c.if-not-stages_ok.true-raw _ _ c.left_as-then-not-stages_ok.ensures

pub run_levels-left-requires : goal.run_levels-left-requires
run_levels-left-requires c = cycle-ready _ _ _ _ _ c.requires.0 c.requires.1 _ _ c.in-Some.ensures _ c.stages_ok.ensures c.if-not-stages_ok.false-raw

pub returns : goal.returns
returns c = cycle_runs _ _ _ _ _ c.requires.0 c.requires.1 _ _ c.in-Some.ensures _ c.stages_ok.ensures c.if-not-stages_ok.false-raw _ _ c.run_levels-left.ensures
