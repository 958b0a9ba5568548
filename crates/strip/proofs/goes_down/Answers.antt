-- `strip::goes_down` meets its contract.
use mathlib.Core.Path.{◌∙◌, sym}
use Rattle.strip.specs.Words.{pass}
use Rattle.strip.proofs.goes_down.Goals as goal

pub returns-then-lower : goal.returns-then-lower
unfolding pass
returns-then-lower c = rw (← sym c.if-lower.true ∙ c.lower.ensures)

pub returns-else-lower : goal.returns-else-lower
unfolding pass
returns-else-lower c = rw (← sym c.if-lower.false ∙ c.lower.ensures)
