-- `tree_plan::put_at` meets its contract.
use Rattle.tree_plan.proofs.Planning.{put-planned, put-planned-off}
use Rattle.tree_plan.proofs.put_at.Goals as goal

pub returns-in_err-c : goal.returns-in_err-c
returns-in_err-c c = λ under first. rw c.from_residual.ensures (put-planned-off _ _ first _ under _ _ c.in_err-c.ensures.order)

pub returns : goal.returns
returns c = λ under first. put-planned _ _ first _ under _ _ _ _ _ c.in_ok-c.ensures.order c.in_ok-c.ensures.chosen c.plan_put.ensures
