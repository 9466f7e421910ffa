use Rattle.std.proofs.Common.{◌≡◌, drop, map}
use Rattle.ale_declared.specs.Names.{numbered}
use Rattle.ale_declared.proofs.written.add_introduced.Given as goal

abbrev pub invariant-loop-intro : goal.invariant-loop-intro
invariant-loop-intro l = numbered l.features (map (λ i. i.0) (drop l.intro-index l.intros)) ≡ numbered l.initial.features (map (λ i. i.0) l.intros)
