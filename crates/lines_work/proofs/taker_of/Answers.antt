use Rattle.laws.specs.Prelude.{arith, length, ltb, rules}
use Rattle.lines_work.proofs.Choices.{taker-one, taker-two}
use Rattle.lines_work.proofs.Finds.{room, small}
use Rattle.lines_work.proofs.taker_of.Goals as goal

pub line_of-requires : goal.line_of-requires
line_of-requires c = (small c.args.k (length c.args.s.now) c.requires).power

pub returns-then-k-eq1 : goal.returns-then-k-eq1
returns-then-k-eq1 c = taker-one _ _ _ _ c.if-k-eq1.true c.line_of.ensures

pub first_where-requires-clause-words_in : goal.first_where-requires-clause-words_in
first_where-requires-clause-words_in c = omega (arith, room c.args.k (length c.args.s.now) c.requires)

pub returns : goal.returns
returns c = taker-two _ _ _ _ c.if-k-eq1.false (c.first_where.ensures (λ i. ltb i c.args.k.places) (λ i b h e. search rules))
