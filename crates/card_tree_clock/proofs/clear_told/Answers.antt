-- `card_tree_clock::clear_told` meets its contract.
use Rattle.card_tree_clock.proofs.Clocked.{clear-done, clear-refused, clear-unmarked}
use Rattle.laws.specs.Prelude.{BadShape, ◌∙◌, ap, false, Err}
use Rattle.tree_clock_model.specs.Prelude.{fresh}
use Rattle.tree_clock_model.specs.declared.State.{State}
use Rattle.tree_records.specs.Steps.{ended}
use Rattle.card_tree_clock.proofs.clear_told.Goals as goal

pub returns-then-mark-lt1 : goal.returns-then-mark-lt1
unfolding fresh
returns-then-mark-lt1 c = clear-unmarked _ _ _ _ _ c.if-mark-lt1.true _ (c.refused.ensures ∙ ap (λ (s : State). ended (Err BadShape) 0 false s 0) c.fresh_state.ensures)

pub returns-then-number-eq0 : goal.returns-then-number-eq0
returns-then-number-eq0 c = clear-done _ _ _ _ _ c.if-mark-lt1.false _ _ c.clear_beside-ended.ensures _ c.number.ensures c.if-number-eq0.true

pub returns-else-number-eq0 : goal.returns-else-number-eq0
returns-else-number-eq0 c = clear-refused _ _ _ _ _ c.if-mark-lt1.false _ _ c.clear_beside-ended.ensures _ c.number.ensures c.if-number-eq0.false
