-- `tree_path::put` meets its contract.
use Rattle.tree_path.proofs.+put.Given as goal

abbrev pub decreases-put : goal.decreases-put
decreases-put l = l.left
