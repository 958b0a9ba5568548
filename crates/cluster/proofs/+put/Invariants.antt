use Rattle.cluster.proofs.+put.Given as goal

abbrev pub decreases-put : goal.decreases-put
decreases-put l = l.left
