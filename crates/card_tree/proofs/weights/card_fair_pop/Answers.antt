-- `card_tree::weights::card_fair_pop` meets its contract.
use Rattle.card_tree.proofs.Fair.{fair-short, fair-told}
use Rattle.card_tree.proofs.weights.card_fair_pop.Goals as goal

pub returns-then-out-lt-OUT : goal.returns-then-out-lt-OUT
returns-then-out-lt-OUT c = fair-short _ _ _ _ c.if-out-lt-OUT.true

pub returns : goal.returns
returns c = fair-told _ _ _ _ _ _ _ _ _ c.if-out-lt-OUT.false c.pop-answer.ensures c.tell_served.ensures
