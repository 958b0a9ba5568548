-- `bucket_bits::agreement` meets its contract.
use Rattle.laws.specs.Prelude.{◌-◌, ◌<◌, ◌∙◌, arith, sym}
use Rattle.bucket_bits.specs.Climbs.{Climbable}
use Rattle.bucket_bits.proofs.Up.{climbing-room, climbing-shut, climbing-start, climbing-step}
use Rattle.bucket_bits.proofs.agreement.Goals as goal
use Rattle.bucket_bits.proofs.agreement.Goals.{In-loop}

pub loop-init : goal.loop-init
loop-init c = climbing-start _ _ _ _ _ _ _ _ _ (omega arith) c.requires.tall.words c.requires.gone_in c.requires.own_in c.requires.switchable

-- a storey is left; the numbers of both bits, and their words
some : (c : In-loop) → 0 < c.args.storeys - c.loop.counter
some c = omega (arith, c.loop-test.true)

room : (c : In-loop) → (0 < c.loop.g) × (0 < c.loop.i) × Climbable c.args.bits.now c.args.base c.loop.c.clears (c.loop.g - 1) (c.loop.i - 1)
room c = climbing-room _ _ _ _ _ _ _ _ _ _ _ c.requires.tall.long (some c) c.loop.invariant

pub climb_one-requires : goal.climb_one-requires
climb_one-requires c = (room c).2

pub loop-preserved : goal.loop-preserved
loop-preserved c = climbing-step _ _ _ _ _ _ _ _ _ _ _ c.requires.tall.long (some (goal.at.loop-preserved c).In-loop) _ (sym c.climb_one.ensures ∙ c.in_ok-c.was) _ (omega arith) c.loop.invariant

pub returns-in_err-c : goal.returns-in_err-c
returns-in_err-c c = rw c.from_residual.ensures (climbing-shut _ _ _ _ _ _ _ _ _ _ _ c.requires.tall.long (some (goal.at.returns-in_err-c c).In-loop) (sym c.climb_one.ensures ∙ c.in_err-c.was) c.loop.invariant)
