-- `lines_clock::clear` meets its contract.
use Rattle.laws.specs.Prelude.{◌∙◌, sym}
use Rattle.lines_clock.proofs.Drained.{clear-no, clear-yes}
use Rattle.lines_clock.proofs.clear.Goals as goal

pub returns-then-is_refused : goal.returns-then-is_refused
returns-then-is_refused c = clear-no _ _ _ _ _ c.clear-answer.ensures (sym c.is_refused.ensures ∙ c.if-is_refused.true)

pub returns : goal.returns
returns c = clear-yes _ _ _ _ _ c.clear-answer.ensures (sym c.is_refused.ensures ∙ c.if-is_refused.false)
