-- `card_lines::card_lines_pop` meets its contract.
use Rattle.laws.specs.Prelude.{Pop, ◌∙◌, ap}
use Rattle.card_words.proofs.Store.{store-short, store_told}
use Rattle.lines_model.specs.Calls.{called}
use Rattle.lines_model.specs.declared.Rows.{Rows}
use Rattle.card_lines.proofs.card_lines_pop.Goals as goal

pub returns-then-out-lt-OUT : goal.returns-then-out-lt-OUT
returns-then-out-lt-OUT c = store-short _ _ _ c.if-out-lt-OUT.true

pub returns : goal.returns
returns c =
    let a = c.args in
    store_told _ _ _ _ _ _ _ c.if-out-lt-OUT.false (c.pop-answer.ensures ∙ ap (λ (k : Rows). called k Pop a.store.now) c.rows_of-k.ensures) c.tell.ensures
