-- `lines_clock::held` meets its contract.
use Rattle.laws.specs.Prelude.{◌∙◌}
use Rattle.lines_clock.proofs.Drained.{held-as}
use Rattle.lines_clock.proofs.held.Goals as goal

pub returns : goal.returns
returns c = c.held.ensures ∙ held-as _ _ _
