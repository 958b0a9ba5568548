-- `strip::lower` meets its contract.
use borrow.Author.Rules.{rules}
use Rattle.strip.specs.Answers.{key}
use Rattle.strip.proofs.lower.Goals as goal

pub returns : goal.returns
unfolding key
returns c = search rules
