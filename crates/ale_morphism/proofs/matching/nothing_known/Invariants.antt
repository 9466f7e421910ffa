use Rattle.std.proofs.Common.{◌≡◌, replicate, None}
use Rattle.ale_morphism.proofs.matching.nothing_known.Given as goal

abbrev pub invariant-loop-node : goal.invariant-loop-node
invariant-loop-node l = l.images.items ≡ replicate l._node None
