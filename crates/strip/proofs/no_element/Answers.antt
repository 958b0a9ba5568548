-- `strip::no_element` meets its contract.
use borrow.Author.Rules.{rules}
use Rattle.strip.specs.Answers.{blank}
use Rattle.strip.proofs.no_element.Goals as goal

pub returns : goal.returns
unfolding blank
returns c = search rules
