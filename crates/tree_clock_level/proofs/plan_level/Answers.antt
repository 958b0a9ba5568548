-- `tree_clock_level::plan_level` meets its contract.
use Rattle.laws.specs.Prelude.{arith}
use Rattle.tree_clock_level.proofs.Rounds.{level-lacks, level-off, level-on, Numbers, numbers, place-less, plan-in}
use Rattle.tree_clock_level.proofs.plan_level.Goals as goal
use Rattle.tree_clock_level.proofs.plan_level.Goals.{Else-at-w}

-- where the level has the node
has-node : (c : Else-at-w) → Numbers c.args.order c.args.at.base c.args.at.nodes c.args.w.node
has-node c =
    let a = c.args in
    numbers a.order a.at.base a.at.nodes a.at.room a.under a.s.now c.requires.0 a.w c.if-at-w.false

pub returns-then-at-w : goal.returns-then-at-w
returns-then-at-w c =
    let a = c.args in
    level-lacks a.order a.at.base a.at.nodes a.at.room a.under a.s.now c.requires.0 a.w c.requires.1 c.if-at-w.true

pub plan_of-requires : goal.plan_of-requires
plan_of-requires c =
    let a = c.args in
    plan-in a.order a.at.base a.at.nodes a.at.room a.under a.s.now c.requires.0 a.w c.if-at-w.false

pub returns-in_err-v : goal.returns-in_err-v
returns-in_err-v c =
    let a = c.args in
    rw c.from_residual.ensures (level-off a.order a.at.base a.at.nodes a.at.room a.under a.s.now c.requires.0 a.w c.if-at-w.false c.in_err-v.ensures)

pub step_of-requires : goal.step_of-requires
step_of-requires c =
    let a = c.args in
    omega (arith, has-node (goal.at.step_of-requires c).Else-at-w, place-less a.order a.at.base a.at.nodes a.at.room a.under a.s.now c.requires.0 a.w c.if-at-w.false c.in_ok-v.v c.in_ok-v.ensures c.requires.1)

pub returns : goal.returns
returns c =
    let a = c.args in
    level-on a.order a.at.base a.at.nodes a.at.room a.under a.s.now c.requires.0 a.w c.if-at-w.false _ c.in_ok-v.ensures c.requires.1 _ c.step_of.ensures
