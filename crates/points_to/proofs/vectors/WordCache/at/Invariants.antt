use Rattle.points_to.proofs.vectors.WordCache.at.Given as goal

abbrev pub decreases-chain : goal.decreases-chain
decreases-chain l = l.place
