use Rattle.std.proofs.Common.{◌≡◌, ◌++◌, drop}
use Rattle.ale_hierarchy.specs.Stages.{restricted}
use Rattle.ale_signature.proofs.restrictions.find_restrictions.Given as goal

abbrev pub invariant-loop-m : goal.invariant-loop-m
invariant-loop-m l = l.types.items ++ restricted l.order l.t (drop l.m-index l.mentions) ≡ restricted l.order l.t l.mentions
