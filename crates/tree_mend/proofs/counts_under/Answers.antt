-- `tree_mend::counts_under` meets its contract.
use Rattle.laws.specs.Prelude.{arith}
use Rattle.tree_mend.proofs.Steps.{under-fits, under-in, under_none, under_some}
use Rattle.tree_mend.proofs.counts_under.Goals as goal

pub returns-then-not-under : goal.returns-then-not-under
returns-then-not-under c = under_none c.args.order c.args.under c.args.s.now c.args.p c.if-not-under.true-raw

pub overflow_mul-p : goal.overflow_mul-p
overflow_mul-p c = omega (arith, under-fits c.args.order c.args.p c.args.under c.args.s.now c.requires)

pub sum_counts-requires : goal.sum_counts-requires
sum_counts-requires c = under-in _ _ _ _ c.requires c.if-not-under.false-raw

pub returns : goal.returns
returns c = under_some c.args.order c.args.under c.args.s.now c.args.p _ c.if-not-under.false-raw c.sum_counts.ensures
