-- `card_lines::clock::card_lines_clock_clear` meets its contract.
use Rattle.laws.specs.Prelude.{◌∙◌, ap}
use Rattle.card_lines.proofs.Clocked.{clear_told}
use Rattle.lines_model.specs.declared.Rows.{Rows}
use Rattle.lines_records.specs.Lent.{lent_cleared}
use Rattle.card_lines.proofs.clock.card_lines_clock_clear.Goals as goal

pub returns : goal.returns
returns c =
    let a = c.args in
    clear_told a.kind a.lines a.places a.store.now a.records.now _ _ _ _ c.number.ensures
    (c.clear_lent.ensures ∙ ap (λ (k : Rows). lent_cleared k a.records.now a.store.now) c.rows_of-k.ensures)
