-- `tree_clock_level::shaped::drain_shaped` meets its contract.
use Rattle.laws.specs.Prelude.{◌∙◌, arith, refl}
use Rattle.tree_clock_level.proofs.Drains.{drain-goes, drain-quiet, drain_runs, drain-spent, drain-stops}
use Rattle.tree_clock_level.proofs.Cycles.{rooted}
use Rattle.tree_clock_level.proofs.shaped.drain_shaped.Goals as goal

pub returns-then-is_quiet : goal.returns-then-is_quiet
returns-then-is_quiet c =
    drain_runs _ _ _ _ _ c.requires.0 _
    (drain-quiet _ _ _ _ refl _ _ _ c.is_quiet.ensures _ _ _ _ _ c.if-is_quiet.true c.report.ensures ∙ c.loop-run.invariant.1)

pub returns-then-is_refused : goal.returns-then-is_refused
returns-then-is_refused c =
    drain_runs _ _ _ _ _ c.requires.0 _
    (drain-stops _ _ _ _ refl _ _ _ c.is_quiet.ensures c.if-is_quiet.false _ (λ z. omega (arith, c.loop-run-test.true)) _ _ _ c.cycle_shaped-c.ensures _ c.is_refused.ensures _ _ _ _ c.if-is_refused.true c.report-then-is_refused.ensures ∙ c.loop-run.invariant.1)

pub loop-run-preserved : goal.loop-run-preserved
loop-run-preserved c = (
  c.cycle_shaped-c.auto.store ∙ c.loop-run.invariant.0,
  drain-goes _ _ _ _ refl _ _ _ c.is_quiet.ensures c.if-is_quiet.false _ (λ z. omega (arith, c.loop-run-test.true)) _ _ _ c.cycle_shaped-c.ensures _ c.is_refused.ensures _ c.if-is_refused.false (omega arith) ∙ c.loop-run.invariant.1,
)

pub returns : goal.returns
returns c =
    let r = c.report-2.ensures in
    drain_runs _ _ _ _ _ c.requires.0 _
    (drain-spent _ _ _ _ refl _ _ _ c.is_quiet-quiet.ensures _ _ _ _ _ (omega (arith, c.loop-run-test.false)) (r.0, omega (arith, r.1, c.loop-run-test.false), r.2, r.3) ∙ c.loop-run.invariant.1)

pub is_quiet-requires : goal.is_quiet-requires
is_quiet-requires c = (rooted c.args.order c.args.below c.args.store.now c.requires.0).records

pub is_quiet-quiet-requires : goal.is_quiet-quiet-requires
is_quiet-quiet-requires c = (rooted c.args.order c.args.below c.args.store.now c.requires.0).records
