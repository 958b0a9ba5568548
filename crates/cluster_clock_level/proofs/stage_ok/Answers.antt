use Rattle.cluster_clock_level.proofs.Testing.{stage-fill, stage-none, stage-put, stage-swap}
use Rattle.cluster_clock_level.proofs.stage_ok.Goals as goal

pub returns-in-Nothing : goal.returns-in-Nothing
returns-in-Nothing c = stage-none _ _ _ _ _ c.in-Nothing.is

pub returns-in-Put : goal.returns-in-Put
returns-in-Put c = stage-put _ _ _ _ _ _ _ c.in-Put.is c.put_stage_ok.ensures

pub returns-in-Fill : goal.returns-in-Fill
returns-in-Fill c = stage-fill _ _ _ _ _ _ _ c.in-Fill.is c.wait_stage_ok.ensures

pub returns-in-Swap : goal.returns-in-Swap
returns-in-Swap c = stage-swap _ _ _ _ _ _ _ _ c.in-Swap.is c.wait_stage_ok-in-Swap.ensures
