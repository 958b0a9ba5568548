use Rattle.bucket_clock_model.specs.Desk.{work_at}
use Rattle.bucket_clock_step.proofs.Rounds.{go-end, go-held, go-here, go-last-ok, go-next, go-ok, here-is, ready-fits}
use Rattle.laws.specs.Prelude.{◌-◌, arith, length}
use Rattle.bucket_clock_step.proofs.stages.run_stages.Goals as goal

pub work_storey-requires : goal.work_storey-requires
work_storey-requires c = record { here = go-here c.args.k _ _ _ c.requires.ready _ _ _ _ _ _ c.loop-e.invariant (c.args.k.storeys - c.loop-e.e - 1) (omega (arith, c.loop-e-test.true)); passes = go-ok c.args.k _ _ _ c.requires.ready _ _ _ _ _ _ c.loop-e.invariant (c.args.k.storeys - c.loop-e.e - 1) (omega (arith, c.loop-e-test.true)) }

pub overflow_add-base : goal.overflow_add-base
overflow_add-base c = omega (arith, (here-is c.args.k (length c.args.bits.now) (length c.args.counts.now) (length c.args.words.now) c.requires.ready c.loop-e.e (c.args.k.storeys - c.loop-e.e - 1) (omega (arith, c.loop-e-test.true)) c.loop-e.base c.loop-e.width c.loop-e.invariant.base-is c.loop-e.invariant.width_is).floor.bits)

pub overflow_mul-width : goal.overflow_mul-width
overflow_mul-width c = omega (arith, (here-is c.args.k (length c.args.bits.now) (length c.args.counts.now) (length c.args.words.now) c.requires.ready c.loop-e.e (c.args.k.storeys - c.loop-e.e - 1) (omega (arith, c.loop-e-test.true)) c.loop-e.base c.loop-e.width c.loop-e.invariant.base-is c.loop-e.invariant.width_is).few)

pub loop-e-preserved : goal.loop-e-preserved
unfolding work_at
loop-e-preserved c = go-next c.args.k _ _ _ c.requires.ready _ _ _ _ _ _ c.loop-e.invariant (c.args.k.storeys - c.loop-e.e - 1) (omega (arith, c.loop-e-test.true)) _ _ c.work_storey.ensures

pub work_buckets-leaves-requires : goal.work_buckets-leaves-requires
work_buckets-leaves-requires c = record { fits = ready-fits _ _ _ _ c.requires.ready; passes = go-last-ok c.args.k _ _ _ c.requires.ready _ _ _ _ _ _ c.loop-e.invariant c.loop-e-test.false }

pub returns : goal.returns
returns c = record { is = go-end c.args.k _ _ _ c.requires.ready _ _ _ _ _ _ c.loop-e.invariant c.loop-e-test.false _ _ c.work_buckets-leaves.ensures; held = go-held c.args.k _ _ _ c.requires.ready _ _ _ _ _ _ c.loop-e.invariant c.loop-e-test.false _ c.work_buckets-leaves.ensures.0 }
