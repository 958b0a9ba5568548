use Rattle.cluster_clock_level.proofs.Beginning.{put-begins, rest-begins, swap_begins, take_begins}
use Rattle.laws.specs.Prelude.{◌+◌, subst}
use Rattle.cluster_clock_level.specs.Stage.{Works}
use Rattle.cluster_clock_level.specs.declared.Job.{Job}
use Rattle.cluster_clock_level.proofs.begin.Goals as goal

pub put_in-requires : goal.put_in-requires
put_in-requires c = subst (λ (b : Job). Works b c.args.k (c.args.a + c.args.t.node) c.args.t.place c.args.s.now) c.in-Put.is c.requires

pub take_from-requires : goal.take_from-requires
take_from-requires c = subst (λ (b : Job). Works b c.args.k (c.args.a + c.args.t.node) c.args.t.place c.args.s.now) c.in-Take.is c.requires

pub swap_in-requires : goal.swap_in-requires
swap_in-requires c = subst (λ (b : Job). Works b c.args.k (c.args.a + c.args.t.node) c.args.t.place c.args.s.now) c.in-Swap.is c.requires

pub returns-in-Rest : goal.returns-in-Rest
returns-in-Rest c = rest-begins _ _ _ _ _ _ c.in-Rest.is _ c.no_stage.ensures

pub returns-in-Put : goal.returns-in-Put
returns-in-Put c = put-begins _ _ _ _ _ _ _ _ _ c.in-Put.is c.put_in.ensures

pub returns-in-Take : goal.returns-in-Take
returns-in-Take c = take_begins _ _ _ _ _ _ _ _ c.in-Take.is c.take_from.ensures

pub returns-in-Swap : goal.returns-in-Swap
returns-in-Swap c = swap_begins _ _ _ _ _ _ _ _ _ c.in-Swap.is c.swap_in.ensures
