-- `cluster_records::stage_of` meets its contract.
use Rattle.laws.specs.Prelude.{Element, ◌∙◌, ap, arith}
use Rattle.cluster_clock_model.specs.Prelude.{stage}
use Rattle.cluster_clock_model.specs.declared.Due.TheVariants.{Put, Swap}
use Rattle.cluster_records.proofs.Records.{stage-fill, stage-nothing, stage-put, stage-swap}
use Rattle.cluster_records.specs.Lent.{at_node, at_place}
use Rattle.cluster_records.proofs.stage_of.Goals as goal

pub returns-in-1 : goal.returns-in-1
returns-in-1 c = ap (λ (x : Element). stage (Put x) (at_node c.args.r)) c.element_of-x.ensures ∙ stage-put _ c.in-1.is

pub returns-in-2 : goal.returns-in-2
returns-in-2 c = stage-fill _ c.in-2.is

pub returns-in-3 : goal.returns-in-3
returns-in-3 c = ap (λ (x : Element). stage (Swap (at_place c.args.r) x) (at_node c.args.r)) c.element_of-x.ensures ∙ stage-swap _ c.in-3.is

pub returns-in_default : goal.returns-in_default
returns-in_default c = stage-nothing _ (λ e. omega (arith, e)) (λ e. omega (arith, e)) (λ e. omega (arith, e)) _ c.no_stage.ensures
