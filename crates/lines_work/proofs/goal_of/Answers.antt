use Rattle.lines_work.proofs.Choices.{goal-one, goal-two}
use Rattle.lines_work.proofs.goal_of.Goals as goal

pub returns-then-k-eq1 : goal.returns-then-k-eq1
returns-then-k-eq1 c = goal-one _ _ _ _ c.if-k-eq1.true c.line_of.ensures

pub returns : goal.returns
returns c = goal-two _ _ _ c.if-k-eq1.false
