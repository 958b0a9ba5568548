-- `tree_path::swap` meets its contract.
use Rattle.tree_path.proofs.+swap.Given as goal

abbrev pub decreases-swap : goal.decreases-swap
decreases-swap l = l.left
