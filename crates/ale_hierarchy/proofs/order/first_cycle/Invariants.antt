use Rattle.std.proofs.Common.{◌≡◌, ℕ, ◌<◌, false}
use Rattle.ale_relation.specs.Rows.{holds}
use Rattle.ale_hierarchy.proofs.order.first_cycle.Given as goal

abbrev pub invariant-loop-t : goal.invariant-loop-t
invariant-loop-t l = (s : ℕ) → s < l.t → holds l.leads s s ≡ false
