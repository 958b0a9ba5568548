use Rattle.bucket_clock_model.specs.Desk.{work_at}
use Rattle.bucket_clock_step.proofs.Rounds.{here-is, test-last, test-next}
use Rattle.laws.specs.Prelude.{◌-◌, arith}
use Rattle.bucket_clock_step.proofs.stages.stages_ok.Goals as goal

pub storey_ok-ok-requires : goal.storey_ok-ok-requires
storey_ok-ok-requires c = here-is c.args.k _ _ _ c.requires c.loop-e.e (c.args.k.storeys - c.loop-e.e - 1) (omega (arith, c.loop-e-test.true)) _ _ c.loop-e.invariant.base-is c.loop-e.invariant.width_is

pub loop-e-preserved : goal.loop-e-preserved
unfolding work_at
loop-e-preserved c = test-next _ _ _ _ _ _ _ _ c.loop-e.invariant (c.args.k.storeys - c.loop-e.e - 1) (omega (arith, c.loop-e-test.true)) _ c.storey_ok-ok.ensures

pub returns : goal.returns
returns c = test-last _ _ _ _ _ _ _ _ c.loop-e.invariant c.loop-e-test.false _ c.bucket_ok.ensures
