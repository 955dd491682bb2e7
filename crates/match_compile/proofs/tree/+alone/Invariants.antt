use Rattle.match_compile.proofs.tree.+alone.Given as goal

abbrev pub decreases-alone : goal.decreases-alone
decreases-alone l = l.depth
