-- `strip::is_refused` meets its contract.
use borrow.Author.Rules.{rules}
use Rattle.strip.specs.Answers.{is_refused}
use Rattle.strip.proofs.is_refused.Goals as goal

pub returns : goal.returns
unfolding is_refused
returns c = search rules
