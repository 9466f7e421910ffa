use Rattle.std.proofs.Common.{◌≡◌, map}
use Rattle.ale_declared.specs.Lists.{upto}
use Rattle.ale_morphism.specs.Visible.{some, is_bound_to}
use Rattle.ale_morphism.proofs.rooted.root_flags.Given as goal

abbrev pub invariant-loop-node : goal.invariant-loop-node
invariant-loop-node l = l.flags.items ≡ map (λ n. some (is_bound_to n) l.g.roots) (upto l.node)
