-- `card_lines::card_lines_replace` meets its contract.
use Rattle.laws.specs.Prelude.{Element, Replace, ◌∙◌, ap₂}
use Rattle.card_words.proofs.Store.{store-short, store_told}
use Rattle.lines_model.specs.Calls.{called}
use Rattle.lines_model.specs.declared.Rows.{Rows}
use Rattle.card_lines.proofs.card_lines_replace.Goals as goal

pub returns-then-out-lt-OUT : goal.returns-then-out-lt-OUT
returns-then-out-lt-OUT c = store-short _ _ _ c.if-out-lt-OUT.true

pub returns : goal.returns
returns c =
    let a = c.args in
    store_told _ _ _ _ _ _ _ c.if-out-lt-OUT.false
    (c.replace-answer.ensures ∙ ap₂ (λ (k : Rows) (x : Element). called k (Replace x) a.store.now) c.rows_of-k.ensures c.element_of-x.ensures)
    c.tell.ensures
