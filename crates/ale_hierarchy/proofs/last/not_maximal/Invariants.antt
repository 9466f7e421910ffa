use Rattle.std.proofs.Common.{◌≡◌, ℕ, ◌<◌, false}
use Rattle.ale_hierarchy.specs.Faults.{is_not_maximal}
use Rattle.ale_hierarchy.proofs.last.not_maximal.Given as goal

abbrev pub invariant-loop-t : goal.invariant-loop-t
invariant-loop-t l = (t : ℕ) → t < l.t → is_not_maximal l.order t ≡ false
