use Rattle.std.proofs.Common.{◌≡◌, drop, map, ◌++◌}
use Rattle.ale_declared.specs.Names.{number}
use Rattle.ale_declared.proofs.written.push_introduced.Given as goal

abbrev pub invariant-loop-intro : goal.invariant-loop-intro
invariant-loop-intro l = l.mentions.items ++ map (λ i. record { at = l.at; feature = number l.features i.0; restriction = number l.types i.1 }) (drop l.intro-index l.intros) ≡ l.initial.mentions.items ++ map (λ i. record { at = l.at; feature = number l.features i.0; restriction = number l.types i.1 }) l.intros
