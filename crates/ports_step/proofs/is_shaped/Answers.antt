-- `ports_step::is_shaped` meets its contract.
use Rattle.laws.specs.Prelude.{◌∙◌, ◌≡◌, not-false, not-true, sym, true}
use Rattle.ports_step.specs.Sums.{Numbers, numbers_ok}
use Rattle.ports_step.proofs.Sums.{numbers-mean, shape-no, shape-yes}
use Rattle.ports_step.proofs.is_shaped.Goals as goal
use Rattle.ports_step.proofs.is_shaped.Goals.{Else-not-is_numbered}

-- places on the way, each from a later one
ok : (c : Else-not-is_numbered) → numbers_ok c.args.s ≡ true
ok c = sym c.is_numbered.ensures ∙ not-false c.is_numbered.result c.if-not-is_numbered.false-raw

pub returns-then-not-is_numbered : goal.returns-then-not-is_numbered
returns-then-not-is_numbered c = shape-no c.args.s _ _ (sym c.is_numbered.ensures ∙ not-true c.is_numbered.result c.if-not-is_numbered.true-raw)

pub returns : goal.returns
returns c = shape-yes c.args.s _ _ _ _ (ok (goal.at.returns c).Else-not-is_numbered) c.bit_words.ensures.is c.store_words.ensures.is
