use Rattle.laws.specs.Prelude.{arith, length, ltb, rules}
use Rattle.lines_work.proofs.Choices.{giver-one, giver-two}
use Rattle.lines_work.proofs.Finds.{room}
use Rattle.lines_work.proofs.giver_of.Goals as goal

pub first_where-requires-clause-words_in : goal.first_where-requires-clause-words_in
first_where-requires-clause-words_in c = omega (arith, room c.args.k (length c.args.s.now) c.requires)

pub returns-then-k-eq1 : goal.returns-then-k-eq1
returns-then-k-eq1 c = giver-one _ _ _ _ c.if-k-eq1.true (c.first_where.ensures (ltb 0) (λ i b h e. search rules))

pub returns : goal.returns
returns c = giver-two _ _ _ _ c.if-k-eq1.false c.lowest_line.ensures
