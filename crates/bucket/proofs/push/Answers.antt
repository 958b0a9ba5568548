-- `bucket::push` meets its contract.
use Rattle.laws.specs.Prelude.{arith}
use Rattle.bucket_model.proofs.Laws.{push-bad}
use Rattle.bucket.proofs.Steps.{queue-placed}
use Rattle.bucket_step.proofs.Depths.{all-gone, undeep}
use Rattle.bucket.proofs.push.Goals as goal

pub push_laid-requires : goal.push_laid-requires
push_laid-requires c = queue-placed c.loop-d.d _ _ c.loop-d.auto.d (omega (arith, c.loop-d-test.true)) c.queue_of.ensures

pub returns : goal.returns
returns c =
    let inv = c.loop-d.invariant in
    rw (inv.0, inv.1) (push-bad _ _ _ c.args.e (undeep c.args.storeys c.args.n c.args.bits.now c.args.words.now (all-gone c.args.storeys c.loop-d.d c.loop-d-test.false inv.2)))
