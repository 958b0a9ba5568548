use Rattle.bucket_clock_step.proofs.Storeys.{take-far, take-is, take_none}
use Rattle.bucket_clock_step.proofs.storey.take_ok.Goals as goal

pub returns-then-words-way : goal.returns-then-words-way
returns-then-words-way c = take-far _ _ _ _ _ _ c.if-words-way.true

pub returns-then-word-eq0 : goal.returns-then-word-eq0
returns-then-word-eq0 c = take_none _ _ _ _ _ _ c.if-words-way.false c.if-word-eq0.true

pub returns : goal.returns
returns c = take-is _ _ _ _ _ _ c.if-words-way.false c.if-word-eq0.false _ c.lowest-low.ensures
