use Rattle.cluster.proofs.+swap.Given as goal

abbrev pub decreases-swap : goal.decreases-swap
decreases-swap l = l.left
