use Rattle.std.proofs.Common.{◌≡◌, ℕ, zero, ◌+◌, List, [], ◌∷◌, length}
use Rattle.ale_order.specs.Groups.{AreGroups, IsCollecting}
use Rattle.ale_order.proofs.Grouping.{ungrouped}
use Rattle.ale_order.proofs.groups.collect.Given as goal

abbrev pub invariant-loop-callee : goal.invariant-loop-callee
invariant-loop-callee l = record {
  wide : length l.groups.items ≡ length l.fn.groups.items;
  collecting : (to_come : List ℕ) → AreGroups l.graph (length l.fn.groups.items) l.fn.groups.items (l.r ∷ to_come) → IsCollecting l.graph (l.r ∷ to_come) l.r l.fn.groups.items l.groups.items l.waiting zero [];
}

abbrev pub decreases-loop-callee : goal.decreases-loop-callee
decreases-loop-callee l = ungrouped l.groups.items + length l.waiting
