-- `card_lines::clock::card_lines_clock_cycle` meets its contract.
use Rattle.laws.specs.Prelude.{◌∙◌, ap}
use Rattle.card_lines.proofs.Clocked.{cycle-refused, cycle-short, cycle-told}
use Rattle.lines_model.specs.declared.Rows.{Rows}
use Rattle.lines_records.specs.Lent.{lent_cycled}
use Rattle.card_lines.proofs.clock.card_lines_clock_cycle.Goals as goal

pub returns-then-request-gt3 : goal.returns-then-request-gt3
returns-then-request-gt3 c =
    let a = c.args in
    cycle-refused a.kind a.lines a.places a.store.now a.records.now a.out.now a.request a.rank a.tag a.length c.if-request-gt3.true _ c.refuse.ensures

pub returns-then-out-lt-OUT : goal.returns-then-out-lt-OUT
returns-then-out-lt-OUT c =
    let a = c.args in
    cycle-short a.kind a.lines a.places a.store.now a.records.now a.out.now a.request a.rank a.tag a.length c.if-out-lt-OUT.true

pub returns : goal.returns
returns c =
    let a = c.args in cycle-told a.kind a.lines a.places a.store.now a.records.now a.out.now a.request a.rank a.tag a.length c.if-request-gt3.false c.if-out-lt-OUT.false _
    c.request_of-q.ensures _ _ _
    (c.cycle_lent-answer.ensures ∙ ap (λ (k : Rows). lent_cycled k a.records.now a.store.now c.request_of-q.result) c.rows_of-k.ensures) _ _
    c.tell.ensures
