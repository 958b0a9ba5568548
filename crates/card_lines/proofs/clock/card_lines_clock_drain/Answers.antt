-- `card_lines::clock::card_lines_clock_drain` meets its contract.
use Rattle.laws.specs.Prelude.{◌∙◌, ap}
use Rattle.card_lines.proofs.Clocked.{drain-short, drain-told}
use Rattle.lines_model.specs.declared.Rows.{Rows}
use Rattle.lines_records.specs.Lent.{lent_drains}
use Rattle.card_lines.proofs.clock.card_lines_clock_drain.Goals as goal

pub returns-then-out-lt-DRAIN_OUT : goal.returns-then-out-lt-DRAIN_OUT
returns-then-out-lt-DRAIN_OUT c =
    let a = c.args in
    drain-short a.kind a.lines a.places a.store.now a.records.now a.out.now a.budget c.if-out-lt-DRAIN_OUT.true

pub returns : goal.returns
returns c =
    let a = c.args in
    drain-told a.kind a.lines a.places a.store.now a.records.now a.out.now a.budget c.if-out-lt-DRAIN_OUT.false _ _ _
    (c.drain_lent-d.ensures ∙ ap (λ (k : Rows). lent_drains k a.records.now a.store.now a.budget) c.rows_of-k.ensures) _
    c.tell_drain.ensures _ c.number.ensures
