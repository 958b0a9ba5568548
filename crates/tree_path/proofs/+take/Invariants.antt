-- `tree_path::take` meets its contract.
use Rattle.tree_path.proofs.+take.Given as goal

abbrev pub decreases-take : goal.decreases-take
decreases-take l = l.left
