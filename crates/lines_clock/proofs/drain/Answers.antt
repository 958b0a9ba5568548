use Rattle.laws.specs.Prelude.{◌∙◌, length, sym}
use Rattle.lines_clock.proofs.Drained.{drain-answered, drain-none, drain-one, drain-shape, drain-still, drain-torn}
use Rattle.lines_model.specs.Clock.{is_pending}
use Rattle.lines_model.specs.Layout.{shape_ok}
use Rattle.lines_work.proofs.Finds.{told-no, told-yes}
use Rattle.lines_clock.proofs.drain.Goals as goal

pub returns-then-not-shape_ok : goal.returns-then-not-shape_ok
returns-then-not-shape_ok c = drain-answered _ _ _ _ _ _ _ _ _ _ c.report.ensures (drain-shape c.args.k c.args.s.now c.args.due c.args.budget (told-no _ _ c.shape_ok.ensures c.if-not-shape_ok.true-raw))

pub returns-then-not-is_pending : goal.returns-then-not-is_pending
returns-then-not-is_pending c = drain-answered _ _ _ _ _ _ _ _ _ _ c.report-then-not-is_pending.ensures (drain-still c.args.k c.args.s.now c.args.due c.args.budget (told-yes _ (shape_ok c.args.k (length c.args.s.now)) c.shape_ok.ensures c.if-not-shape_ok.false-raw) (told-no _ _ c.is_pending.ensures c.if-not-is_pending.true-raw))

pub returns-then-budget-eq0 : goal.returns-then-budget-eq0
returns-then-budget-eq0 c = drain-answered _ _ _ _ _ _ _ _ _ _ c.report-then-budget-eq0.ensures (drain-none c.args.k c.args.s.now c.args.due c.args.budget (told-yes _ (shape_ok c.args.k (length c.args.s.now)) c.shape_ok.ensures c.if-not-shape_ok.false-raw) (told-yes _ (is_pending c.args.due) c.is_pending.ensures c.if-not-is_pending.false-raw) c.if-budget-eq0.true)

pub returns-then-is_refused : goal.returns-then-is_refused
returns-then-is_refused c = drain-answered _ _ _ _ _ _ _ _ _ _ c.report-then-is_refused.ensures (drain-torn c.args.k c.args.s.now c.args.due c.args.budget (told-yes _ (shape_ok c.args.k (length c.args.s.now)) c.shape_ok.ensures c.if-not-shape_ok.false-raw) (told-yes _ (is_pending c.args.due) c.is_pending.ensures c.if-not-is_pending.false-raw) c.if-budget-eq0.false _ _ _ c.cycle-o.ensures (sym c.is_refused.ensures ∙ c.if-is_refused.true))

pub returns : goal.returns
returns c = drain-answered _ _ _ _ _ _ _ _ _ _ c.report-2.ensures (drain-one c.args.k c.args.s.now c.args.due c.args.budget (told-yes _ (shape_ok c.args.k (length c.args.s.now)) c.shape_ok.ensures c.if-not-shape_ok.false-raw) (told-yes _ (is_pending c.args.due) c.is_pending.ensures c.if-not-is_pending.false-raw) c.if-budget-eq0.false _ _ _ c.cycle-o.ensures (sym c.is_refused.ensures ∙ c.if-is_refused.false))
