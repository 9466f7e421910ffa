use Rattle.std.proofs.Common.{◌≡◌, ◌++◌, map, drop}
use Rattle.ale_declared.specs.declared.decl.Mention.{Mention}
use Rattle.ale_signature.proofs.restrictions.types_at.Given as goal

abbrev pub invariant-loop-m : goal.invariant-loop-m
invariant-loop-m l = l.types.items ++ map (λ (m : Mention). m.at) (drop l.m-index l.mentions) ≡ map (λ (m : Mention). m.at) l.mentions
