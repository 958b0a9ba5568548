-- `card_words::request_of` meets its contract.
use Rattle.laws.specs.Prelude.{Push, Replace, ◌∙◌, ap}
use Rattle.card_words.proofs.Asked.{request-idle, request-pop, request-push, request-replace}
use Rattle.card_words.proofs.request_of.Goals as goal

pub returns-then-request-eq1 : goal.returns-then-request-eq1
returns-then-request-eq1 c = ap Push c.element_of-x.ensures ∙ request-push _ _ _ _ c.if-request-eq1.true

pub returns-then-request-eq2 : goal.returns-then-request-eq2
returns-then-request-eq2 c = request-pop _ _ _ _ c.if-request-eq1.false c.if-request-eq2.true

pub returns-then-request-eq3 : goal.returns-then-request-eq3
returns-then-request-eq3 c = ap Replace c.element_of-x.ensures ∙ request-replace _ _ _ _ c.if-request-eq1.false c.if-request-eq2.false c.if-request-eq3.true

pub returns : goal.returns
returns c = request-idle _ _ _ _ c.if-request-eq1.false c.if-request-eq2.false c.if-request-eq3.false
