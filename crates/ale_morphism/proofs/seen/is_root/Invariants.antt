use Rattle.std.proofs.Common.{◌≡◌, drop}
use Rattle.ale_morphism.specs.Visible.{some, is_bound_to}
use Rattle.ale_morphism.proofs.seen.is_root.Given as goal

abbrev pub invariant-loop-root : goal.invariant-loop-root
invariant-loop-root l = some (is_bound_to l.node) (drop l.root-index l.roots) ≡ some (is_bound_to l.node) l.roots
