use Rattle.std.proofs.Common.{◌≡◌, drop}
use Rattle.ale_morphism.specs.Maps.{image}
use Rattle.ale_morphism.specs.MorphismTest.{keeps_values}
use Rattle.ale_morphism.proofs.morphism.keeps_values.Given as goal

abbrev pub invariant-loop-value : goal.invariant-loop-value
invariant-loop-value l = keeps_values l.g (image l.map l.g) l.node (drop l.value-index l.values) ≡ keeps_values l.g (image l.map l.g) l.node l.values
