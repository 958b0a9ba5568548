use Rattle.cluster.proofs.+take.Given as goal

abbrev pub decreases-take : goal.decreases-take
decreases-take l = l.left
