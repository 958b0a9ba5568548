-- `bucket_bits::signal` meets its contract.
use Rattle.laws.specs.Prelude.{◌%◌, ◌+◌, ◌-◌, ◌/◌, ◌<◌, ◌∙◌, ◌≤◌, arith, cond, length, true}
use Rattle.bucket_model.specs.Prelude.{edit, storeys_from, words_of}
use Rattle.bucket_bits.specs.Climbs.{Switching}
use Rattle.bucket_bits.proofs.Numbers.{words-le}
use Rattle.bucket_bits.proofs.Up.{Rising, first-turns, rising-first, rising-goal, rising-from, rising-turns, rising-still, rising_step, rising-top}
use Rattle.bucket_bits.proofs.signal.Goals as goal
use Rattle.bucket_bits.proofs.signal.Goals.{After-slice_known-1, After-slice_known-2-1, Else-not-more}

-- the lowest storey's bit
lowest : (c : After-slice_known-1) → (0 < c.args.tower + c.args.rank) × Switching c.args.bits.now c.args.on c.args.changes (c.args.base + (c.args.tower + c.args.rank - 1) / 64) ((c.args.tower + c.args.rank - 1) % 64)
lowest c = first-turns c.args.on c.args.changes c.args.bits.now c.args.base c.args.storeys c.args.tower c.args.rank c.requires.tall c.requires.rank_in c.requires.signalling

pub switch-more-requires : goal.switch-more-requires
switch-more-requires c = (lowest (goal.at.switch-more-requires c).After-slice_known-1).1

-- .. written; the storeys above it
first : (c : After-slice_known-2-1) → Rising c.args.on c.args.bits.now (cond c.args.changes (edit c.args.on c.args.bits.now (storeys_from c.args.base c.args.storeys) c.args.rank) c.args.bits.now) c.args.base c.args.storeys c.switch-more.new.bits c.switch-more.result (c.args.storeys - 1) ((c.args.tower + c.args.rank - 1) / 64)
first c =
    rising-first c.args.on c.args.changes c.args.bits.now c.args.base c.args.storeys c.args.tower c.args.rank c.requires.tall c.requires.rank_in c.requires.signalling c.switch-more.new.bits c.switch-more.result c.switch-more.ensures.0 c.switch-more.ensures.1

long : (c : After-slice_known-2-1) → c.args.base + words_of (c.args.storeys - 1) ≤ length c.switch-more.new.bits
long c =
    omega (arith, (first c).1.long, c.requires.tall.long, words-le (c.args.storeys - 1) c.args.storeys (omega arith))

pub loop-init : goal.loop-init
loop-init c = rising-from _ _ _ _ _ _ _ _ _ (first c)

-- the number of a bit, and its word
turns : (c : Else-not-more) → (0 < c.loop.i) × Switching c.loop.bits c.args.on true (c.args.base + (c.loop.i - 1) / 64) ((c.loop.i - 1) % 64)
turns c = rising-turns _ _ _ _ _ _ c.loop.more (c.args.storeys - c.loop.counter) c.loop.i (long (goal.at.Else-not-more c).After-slice_known-2-1) c.if-not-more.false (omega (arith, c.loop-test.true)) c.loop.invariant

pub overflow_sub-bit : goal.overflow_sub-bit
overflow_sub-bit c = (turns c).0

pub switch-more-requires-in-loop : goal.switch-more-requires-in-loop
switch-more-requires-in-loop c = (turns (goal.at.switch-more-requires-in-loop c).Else-not-more).1

pub loop-preserved : goal.loop-preserved
loop-preserved c = rising_step _ _ _ _ _ _ _ _ _ (long (goal.at.loop-preserved c).After-slice_known-2-1) c.if-not-more.false (omega (arith, c.loop-test.true)) c.loop.invariant _ _ c.switch-more-in-loop.ensures.0 c.switch-more-in-loop.ensures.1 _ (omega (arith, c.loop-test.true))

pub returns : goal.returns
returns c = rising-top _ _ _ _ _ _ _ _ _ c.loop.invariant (omega (arith, c.loop-test.false)) ∙ rising-goal _ _ _ _ _ _ _ _ _ (first (goal.at.returns c).After-slice_known-2-1)

pub returns-then-not-more : goal.returns-then-not-more
returns-then-not-more c = rising-still _ _ _ _ _ _ _ _ _ c.loop.invariant c.if-not-more.true ∙ rising-goal _ _ _ _ _ _ _ _ _ (first (goal.at.returns-then-not-more c).After-slice_known-2-1)
