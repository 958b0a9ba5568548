-- `card_lines::card_lines_push` meets its contract.
use Rattle.laws.specs.Prelude.{Element, Push, ◌∙◌, ap₂}
use Rattle.card_words.proofs.Store.{store-done}
use Rattle.lines_model.specs.Calls.{called}
use Rattle.lines_model.specs.declared.Rows.{Rows}
use Rattle.card_lines.proofs.card_lines_push.Goals as goal

pub returns : goal.returns
returns c =
    let a = c.args in
    store-done _ _ _ _ c.number.ensures
    (c.push.ensures ∙ ap₂ (λ (k : Rows) (x : Element). called k (Push x) a.store.now) c.rows_of-k.ensures c.element_of-x.ensures)
