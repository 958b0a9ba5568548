-- `card_words::tell` meets its contract.
use Rattle.card_words.proofs.tell.Goals as goal

pub returns : goal.returns
returns c = (c.number.ensures, rw (← c.given.ensures) c.write_element.ensures)
