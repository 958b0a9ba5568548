-- `card_lines::card_lines_clear` meets its contract.
use Rattle.laws.specs.Prelude.{◌∙◌, ap}
use Rattle.card_words.proofs.Store.{store-done}
use Rattle.lines_model.specs.Calls.{cleared}
use Rattle.lines_model.specs.declared.Rows.{Rows}
use Rattle.card_lines.proofs.card_lines_clear.Goals as goal

pub returns : goal.returns
returns c =
    let a = c.args in
    store-done _ _ _ _ c.number.ensures (c.clear.ensures ∙ ap (λ (k : Rows). cleared k a.store.now) c.rows_of-k.ensures)
