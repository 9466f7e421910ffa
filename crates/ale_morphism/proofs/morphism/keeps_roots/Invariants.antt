use Rattle.std.proofs.Common.{◌≡◌, drop}
use Rattle.ale_morphism.specs.Maps.{image}
use Rattle.ale_morphism.specs.MorphismTest.{keeps_roots}
use Rattle.ale_morphism.proofs.morphism.keeps_roots.Given as goal

abbrev pub invariant-loop-i : goal.invariant-loop-i
invariant-loop-i l = keeps_roots (image l.map l.g) (drop l.i l.from) (drop l.i l.to) ≡ keeps_roots (image l.map l.g) l.from l.to
