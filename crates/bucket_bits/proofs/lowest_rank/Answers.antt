-- `bucket_bits::lowest_rank` meets its contract.
use Rattle.laws.specs.Prelude.{◌<◌, arith}
use Rattle.bucket_model.specs.Prelude.{words_of}
use Rattle.bucket_bits.proofs.Numbers.{words-lt}
use Rattle.bucket_bits.proofs.Down.{down-open, down-shut, down-some}
use Rattle.bucket_bits.proofs.lowest_rank.Goals as goal
use Rattle.bucket_bits.proofs.lowest_rank.Goals.{After-loop, In-loop}

-- a word of the storeys, and the end of the way
below : (c : In-loop) → c.loop.i < words_of c.args.storeys
below c = down-some _ _ _ _ _ c.loop.invariant c.loop-test.true

small : (c : In-loop) → c.loop.i < 4294967296
small c = omega (arith, below c, words-lt c.args.storeys, c.requires.few)

pub overflow_add-word : goal.overflow_add-word
overflow_add-word c = omega (arith, below c, c.requires.long)

pub offset_bounds-bits-base : goal.offset_bounds-bits-base
offset_bounds-bits-base c = omega (arith, below c, c.requires.long)

pub bounds-bits-base : goal.bounds-bits-base
bounds-bits-base c = omega (arith, below (goal.at.bounds-bits-base c).In-loop, c.requires.long)

pub returns-then-word-eq0 : goal.returns-then-word-eq0
returns-then-word-eq0 c = down-shut _ _ _ _ _ c.loop.invariant c.loop-test.true c.if-word-eq0.true

pub overflow_mul-i : goal.overflow_mul-i
overflow_mul-i c = omega (arith, small (goal.at.overflow_mul-i c).In-loop)

pub overflow_add-i : goal.overflow_add-i
overflow_add-i c = omega (arith, small (goal.at.overflow_add-i c).In-loop)

pub overflow_add-i-in-loop : goal.overflow_add-i-in-loop
overflow_add-i-in-loop c = omega (arith, small (goal.at.overflow_add-i-in-loop c).In-loop, c.lowest.ensures.most)

pub loop-preserved : goal.loop-preserved
loop-preserved c = down-open _ _ _ _ _ c.loop.invariant c.loop-test.true _ c.lowest.ensures c.if-word-eq0.false
