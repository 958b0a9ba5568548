use Rattle.cluster_clock_level.proofs.Drains.{drain-goes, drain-quiet, drain_runs, drain-spent, drain-starts, drain-stops}
use Rattle.cluster_clock_level.proofs.Cycles.{shape-records}
use Rattle.laws.specs.Prelude.{◌∙◌, ap, arith, refl, suc, sym, ◌≡◌}
use Rattle.cluster_model.specs.Prelude.{shape_ok}
use Rattle.cluster_clock_level.proofs.shaped.drain_shaped.Goals as goal

pub loop-run-init : goal.loop-run-init
loop-run-init c = (omega arith, refl, drain-starts _ _ _ _ _)

pub is_quiet-requires : goal.is_quiet-requires
is_quiet-requires c = shape-records _ _ _ c.requires.0

pub shape_of-store-then-is_quiet : goal.shape_of-store-then-is_quiet
shape_of-store-then-is_quiet c = c.loop-run.invariant.1

pub returns-then-is_quiet : goal.returns-then-is_quiet
returns-then-is_quiet c = drain_runs _ _ _ _ _ c.requires.0 _ (drain-quiet _ _ _ _ _ _ c.is_quiet.ensures _ _ _ _ _ c.if-is_quiet.true c.report.ensures ∙ c.loop-run.invariant.2)

pub cycle_shaped-c-requires : goal.cycle_shaped-c-requires
cycle_shaped-c-requires c = (ap (shape_ok c.args.k (suc c.args.below)) c.loop-run.invariant.1 ∙ c.requires.0, c.requires.1)

pub shape_of-store-then-is_refused : goal.shape_of-store-then-is_refused
shape_of-store-then-is_refused c = c.cycle_shaped-c.auto.store ∙ c.loop-run.invariant.1

pub returns-then-is_refused : goal.returns-then-is_refused
returns-then-is_refused c = drain_runs _ _ _ _ _ c.requires.0 _ (drain-stops _ _ _ _ _ _ c.is_quiet.ensures c.if-is_quiet.false _ (λ z. omega (arith, c.loop-run-test.true)) _ _ _ c.cycle_shaped-c.ensures _ c.is_refused.ensures _ _ _ _ c.if-is_refused.true c.report-then-is_refused.ensures ∙ c.loop-run.invariant.2)

pub loop-run-preserved : goal.loop-run-preserved
loop-run-preserved c = (omega arith, c.cycle_shaped-c.auto.store ∙ c.loop-run.invariant.1, drain-goes _ _ _ _ _ _ c.is_quiet.ensures c.if-is_quiet.false _ (λ z. omega (arith, c.loop-run-test.true)) _ _ _ c.cycle_shaped-c.ensures _ c.is_refused.ensures _ c.if-is_refused.false (omega arith) ∙ c.loop-run.invariant.2)

pub is_quiet-quiet-requires : goal.is_quiet-quiet-requires
is_quiet-quiet-requires c = shape-records _ _ _ c.requires.0

pub shape_of-store : goal.shape_of-store
shape_of-store c = c.loop-run.invariant.1

pub returns : goal.returns
returns c =
    let e : c.loop-run.run ≡ c.args.budget = omega arith in
    let said = c.report-2.ensures in
    drain_runs _ _ _ _ _ c.requires.0 _ (drain-spent _ _ _ _ _ _ c.is_quiet-quiet.ensures _ _ _ _ _ (omega arith) (said.0, said.1 ∙ sym e, said.2, said.3) ∙ c.loop-run.invariant.2)
