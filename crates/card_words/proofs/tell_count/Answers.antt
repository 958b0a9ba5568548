-- `card_words::tell_count` meets its contract.
use Rattle.card_words.proofs.tell_count.Goals as goal

pub returns : goal.returns
returns c = (c.count_number.ensures, rw c.count_of.ensures)
