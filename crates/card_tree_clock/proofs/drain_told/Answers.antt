-- `card_tree_clock::drain_told` meets its contract.
use Rattle.laws.specs.Prelude.{◌≡◌, ◌≤◌, arith, cond, rules}
use Rattle.card_tree_clock.proofs.Clocked.{drain-done, drain-few, drain-refused, drain-short}
use Rattle.card_words.proofs.Asked.{marked-some}
use Rattle.card_tree_clock.proofs.drain_told.Goals as goal

pub returns-then-out-lt-DRAIN_OUT : goal.returns-then-out-lt-DRAIN_OUT
returns-then-out-lt-DRAIN_OUT c = drain-short _ _ _ _ _ _ _ _ c.if-out-lt-DRAIN_OUT.true _ c.none_ended.ensures

pub returns-then-not-is_marked : goal.returns-then-not-is_marked
returns-then-not-is_marked c = drain-refused _ _ _ _ _ _ _ _ c.if-out-lt-DRAIN_OUT.false _ c.is_marked.ensures c.if-not-is_marked.true-raw _ c.tell_drain.ensures _ c.none_ended-then-not-is_marked.ensures

pub bounds-mark-0 : goal.bounds-mark-0
bounds-mark-0 c = marked-some c.args.mark.now _ c.is_marked.ensures c.if-not-is_marked.false-raw

pub bounds-mark-0-2 : goal.bounds-mark-0-2
bounds-mark-0-2 c = marked-some c.args.mark.now _ c.is_marked.ensures c.if-not-is_marked.false-raw

pub overflow_cast-ended : goal.overflow_cast-ended
overflow_cast-ended c = let few : c.drain_read-ended.result.cycles ≤ c.args.budget = drain-few _ _ _ _ _ _ _ _ c.drain_read-ended.ensures.1 in omega (arith, few)

pub returns : goal.returns
returns c =
    let on : c.from.result ≡ cond c.drain_read-ended.result.state.mark 1 0 = search rules in
    drain-done _ _ _ _ _ _ _ _ c.if-out-lt-DRAIN_OUT.false _ c.is_marked.ensures _ _ c.drain_read-ended.ensures c.if-not-is_marked.false-raw _ on _ c.tell_drain-2.ensures
