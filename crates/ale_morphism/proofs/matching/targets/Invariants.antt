use Rattle.std.proofs.Common.{◌≡◌, take}
use Rattle.ale_morphism.specs.Walking.{targets}
use Rattle.ale_morphism.proofs.matching.targets.Given as goal

abbrev pub invariant-loop-image : goal.invariant-loop-image
invariant-loop-image l = l.map.items ≡ targets l.g (take l.image-index l.images)
