use Rattle.std.proofs.Common.{◌≡◌, drop}
use Rattle.ale_morphism.specs.Maps.{image}
use Rattle.ale_morphism.specs.MorphismTest.{keeps_apart}
use Rattle.ale_morphism.proofs.morphism.keeps_apart.Given as goal

abbrev pub invariant-loop-pair : goal.invariant-loop-pair
invariant-loop-pair l = keeps_apart (image l.map l.g) (drop l.pair-index l.pairs) ≡ keeps_apart (image l.map l.g) l.pairs
