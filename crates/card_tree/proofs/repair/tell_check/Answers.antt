-- `card_tree::repair::tell_check` meets its contract.
use Rattle.card_tree.proofs.repair.tell_check.Goals as goal

pub returns : goal.returns
returns c = (c.check_number.ensures, rw (c.check_yes.ensures, c.check_slot.ensures))
