use Rattle.card_bucket_clock.proofs.Told.{counts-none, counts-three, counts-two}
use Rattle.card_bucket_clock.proofs.card_bucket_clock_counts.Goals as goal

pub returns-then-storeys-eq2 : goal.returns-then-storeys-eq2
returns-then-storeys-eq2 c = counts-two _ c.if-storeys-eq2.true

pub returns-then-storeys-eq3 : goal.returns-then-storeys-eq3
returns-then-storeys-eq3 c = counts-three _ c.if-storeys-eq3.true

pub returns : goal.returns
returns c = counts-none _ c.if-storeys-eq2.false c.if-storeys-eq3.false
