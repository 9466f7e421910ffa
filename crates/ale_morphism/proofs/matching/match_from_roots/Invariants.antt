use Rattle.ale_morphism.specs.Walking.{lists_of}
use Rattle.ale_morphism.proofs.WalkSteps.{IsWalk, left}
use Rattle.ale_morphism.proofs.matching.match_from_roots.Given as goal

abbrev pub invariant-nodes : goal.invariant-nodes
invariant-nodes l = IsWalk l.f l.g (lists_of l.walk)

abbrev pub decreases-nodes : goal.decreases-nodes
decreases-nodes l = left (lists_of l.walk)
