-- `card_lines::card_lines_held` meets its contract.
use Rattle.laws.specs.Prelude.{◌∙◌, ap}
use Rattle.card_words.proofs.Out.{count-short, count-told}
use Rattle.lines_model.specs.Calls.{held_count}
use Rattle.lines_model.specs.declared.Rows.{Rows}
use Rattle.card_lines.proofs.card_lines_held.Goals as goal

pub returns-then-out-lt1 : goal.returns-then-out-lt1
returns-then-out-lt1 c = count-short _ _ c.if-out-lt1.true

pub returns : goal.returns
returns c =
    let a = c.args in
    count-told _ _ _ _ _ c.if-out-lt1.false (c.held-count.ensures ∙ ap (λ (k : Rows). held_count k a.store.now) c.rows_of-k.ensures) c.tell_count.ensures
