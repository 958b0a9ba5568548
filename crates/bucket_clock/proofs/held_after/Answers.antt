use Rattle.bucket_clock.proofs.Cycles.{after-pop, after_push, after_same, after-swap, pop-counts, push-counts}
use Rattle.laws.specs.Prelude.{arith}
use Rattle.bucket_clock.proofs.held_after.Goals as goal

pub overflow_add-result : goal.overflow_add-result
overflow_add-result c = omega (arith, push-counts c.args.n c.args.op _ c.args.held c.in-Push.is c.requires)

pub overflow_sub-result : goal.overflow_sub-result
overflow_sub-result c = omega (arith, pop-counts c.args.n c.args.op c.args.held c.in-Pop.is c.requires)

pub returns-in-Idle : goal.returns-in-Idle
returns-in-Idle c = after_same _ _ c.in-Idle.is

pub returns-in-Push : goal.returns-in-Push
returns-in-Push c = after_push _ _ _ c.in-Push.is

pub returns-in-Pop : goal.returns-in-Pop
returns-in-Pop c = after-pop _ _ c.in-Pop.is

pub returns-in-Replace : goal.returns-in-Replace
returns-in-Replace c = after-swap _ _ _ c.in-Replace.is
