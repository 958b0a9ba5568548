-- `strip::asks_something` meets its contract.
use borrow.Author.Rules.{rules}
use Rattle.strip.specs.Answers.{asks}
use Rattle.strip.proofs.asks_something.Goals as goal

pub returns : goal.returns
unfolding asks
returns c = search rules
