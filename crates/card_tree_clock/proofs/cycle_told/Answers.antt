-- `card_tree_clock::cycle_told` meets its contract.
use Rattle.laws.specs.Prelude.{◌≡◌, cond, rules}
use Rattle.card_tree_clock.proofs.Clocked.{cycle-done, cycle-refused, cycle-short}
use Rattle.card_words.proofs.Asked.{asked-some}
use Rattle.card_tree_clock.proofs.cycle_told.Goals as goal

pub returns-then-not-is_asked : goal.returns-then-not-is_asked
returns-then-not-is_asked c = cycle-refused _ _ _ _ _ _ _ _ _ _ _ _ c.is_asked.ensures c.if-not-is_asked.true-raw _ c.refuse.ensures _ c.none_ended.ensures

pub returns-then-out-lt-OUT : goal.returns-then-out-lt-OUT
returns-then-out-lt-OUT c = cycle-short _ _ _ _ _ _ _ _ _ _ _ c.if-out-lt-OUT.true _ c.none_ended-then-out-lt-OUT.ensures

pub bounds-mark-0 : goal.bounds-mark-0
bounds-mark-0 c = asked-some c.args.mark.now _ _ c.is_asked.ensures c.if-not-is_asked.false-raw

pub bounds-mark-0-2 : goal.bounds-mark-0-2
bounds-mark-0-2 c = asked-some c.args.mark.now _ _ c.is_asked.ensures c.if-not-is_asked.false-raw

pub returns : goal.returns
returns c =
    let on : c.from.result ≡ cond c.cycle_read-ended.result.state.mark 1 0 = search rules in
    cycle-done _ _ _ _ _ _ _ _ _ _ _ c.if-out-lt-OUT.false _ c.is_asked.ensures c.if-not-is_asked.false-raw _ c.request_of-q.ensures _ _ c.cycle_read-ended.ensures _ on _ c.tell.ensures.1
