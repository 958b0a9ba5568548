use Rattle.cluster_clock_level.proofs.Settling.{settle-fill, settle-none, settle-put, settle-swap}
use Rattle.laws.specs.Prelude.{◌+◌, subst}
use Rattle.cluster_clock_level.specs.Stage.{Pends}
use Rattle.cluster_clock_model.specs.declared.Due.{Due}
use Rattle.cluster_clock_level.proofs.settle.Goals as goal

pub fill_gap-requires : goal.fill_gap-requires
fill_gap-requires c = subst (λ (d : Due). Pends d c.args.k (c.args.a + c.args.q.node) c.args.s.now) c.in-Fill.is c.requires

pub try_out-requires : goal.try_out-requires
try_out-requires c = subst (λ (d : Due). Pends d c.args.k (c.args.a + c.args.q.node) c.args.s.now) c.in-Swap.is c.requires

pub returns-in-Nothing : goal.returns-in-Nothing
returns-in-Nothing c = settle-none _ _ _ _ c.in-Nothing.is

pub returns-in-Put : goal.returns-in-Put
returns-in-Put c = settle-put _ _ _ _ _ c.in-Put.is

pub returns-in-Fill : goal.returns-in-Fill
returns-in-Fill c = settle-fill _ _ _ _ _ c.in-Fill.is _ _ c.fill_gap.ensures

pub returns-in-Swap : goal.returns-in-Swap
returns-in-Swap c = settle-swap _ _ _ _ _ _ c.in-Swap.is _ _ c.try_out.ensures
