-- `card_tree::repair::card_tree_check` meets its contract.
use Rattle.card_tree.proofs.Mend.{check-short, check-told}
use Rattle.card_tree.proofs.repair.card_tree_check.Goals as goal

pub returns-then-out-lt-CHECK_OUT : goal.returns-then-out-lt-CHECK_OUT
returns-then-out-lt-CHECK_OUT c = check-short _ _ c.if-out-lt-CHECK_OUT.true

pub returns : goal.returns
returns c = check-told _ _ _ _ _ c.if-out-lt-CHECK_OUT.false c.check-c.ensures c.tell_check.ensures
