-- `card_lines::clock::card_lines_clock_held` meets its contract.
use Rattle.laws.specs.Prelude.{◌∙◌, ap}
use Rattle.card_words.proofs.Out.{count-short, count-told}
use Rattle.lines_model.specs.Clock.{clock_held, machine}
use Rattle.lines_model.specs.declared.Due.TheVariants.{Rest}
use Rattle.lines_model.specs.declared.Rows.{Rows}
use Rattle.card_lines.proofs.clock.card_lines_clock_held.Goals as goal

pub returns-then-out-lt1 : goal.returns-then-out-lt1
returns-then-out-lt1 c = count-short _ _ c.if-out-lt1.true

pub returns : goal.returns
returns c =
    let a = c.args in
    count-told _ _ _ _ _ c.if-out-lt1.false (c.held-count.ensures ∙ ap (λ (k : Rows). clock_held k (machine a.store.now Rest)) c.rows_of-k.ensures)
    c.tell_count.ensures
