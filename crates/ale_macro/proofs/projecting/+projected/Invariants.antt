use Rattle.ale_macro.proofs.projecting.+projected.Given as goal

abbrev pub decreases-projected : goal.decreases-projected
decreases-projected l = goal.size-projected l
