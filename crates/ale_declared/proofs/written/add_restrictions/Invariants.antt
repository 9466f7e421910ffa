use Rattle.std.proofs.Common.{◌≡◌, drop, map}
use Rattle.ale_declared.specs.Names.{numbered}
use Rattle.ale_declared.proofs.written.add_restrictions.Given as goal

abbrev pub invariant-loop-intro : goal.invariant-loop-intro
invariant-loop-intro l = numbered l.types (map (λ i. i.1) (drop l.intro-index l.intros)) ≡ numbered l.initial.types (map (λ i. i.1) l.intros)
