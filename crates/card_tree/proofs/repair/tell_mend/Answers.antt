-- `card_tree::repair::tell_mend` meets its contract.
use Rattle.card_tree.proofs.repair.tell_mend.Goals as goal

pub returns : goal.returns
returns c = (c.mend_number.ensures, rw c.mend_skipped.ensures)
