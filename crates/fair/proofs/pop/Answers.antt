-- `fair::pop` meets its contract.
use Rattle.fair.proofs.Notes.{pop-gone, pop-short}
use Rattle.fair.proofs.pop.Goals as goal

pub returns-then-state-lt-STATE_WORDS : goal.returns-then-state-lt-STATE_WORDS
returns-then-state-lt-STATE_WORDS c = pop-short _ _ _ _ c.if-state-lt-STATE_WORDS.true

pub returns : goal.returns
returns c = pop-gone _ _ _ _ _ _ _ _ c.if-state-lt-STATE_WORDS.false c.pop-answer.ensures c.set_clock.ensures
