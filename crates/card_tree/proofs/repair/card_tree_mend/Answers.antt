-- `card_tree::repair::card_tree_mend` meets its contract.
use Rattle.card_tree.proofs.Mend.{mend-short, mend-told}
use Rattle.card_tree.proofs.repair.card_tree_mend.Goals as goal

pub returns-then-out-lt1 : goal.returns-then-out-lt1
returns-then-out-lt1 c = mend-short _ _ _ c.if-out-lt1.true

pub returns : goal.returns
returns c = mend-told _ _ _ _ _ _ _ c.if-out-lt1.false c.mend-a.ensures c.tell_mend.ensures
