-- `strip::stays` meets its contract.
use mathlib.Core.Path.{◌∙◌, sym}
use Rattle.strip.specs.Words.{keep}
use Rattle.strip.proofs.stays.Goals as goal

pub returns-then-lower : goal.returns-then-lower
unfolding keep
returns-then-lower c = rw (← sym c.if-lower.true ∙ c.lower.ensures)

pub returns-else-lower : goal.returns-else-lower
unfolding keep
returns-else-lower c = rw (← sym c.if-lower.false ∙ c.lower.ensures)
