-- `fair_table::step_of` meets its contract. The code's array is held, entry by entry, to the table in plain numbers, and that to the quotient rule.
use Rattle.laws.specs.Prelude.{rules}
use Rattle.fair_model.proofs.Laws.{steps-right}
use Rattle.fair_model.specs.Steps.{step_table}
use Rattle.fair_table.proofs.step_of.Goals as goal

pub returns : goal.returns
unfolding step_table
returns c = steps-right c.args.weight (search rules) (search rules)
