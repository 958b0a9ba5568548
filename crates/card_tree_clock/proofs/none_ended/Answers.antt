-- `card_tree_clock::none_ended` meets its contract.
use Rattle.card_tree_clock.proofs.none_ended.Goals as goal

pub returns : goal.returns
returns c = c.refused.ensures
