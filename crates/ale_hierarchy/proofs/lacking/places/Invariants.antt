use Rattle.std.proofs.Common.{◌≡◌, ℕ, ◌<◌, ◌&&◌, nat_lt, length, get_or}
use Rattle.ale_relation.specs.Rows.{holds}
use Rattle.ale_hierarchy.specs.Order.{is_above}
use Rattle.ale_hierarchy.proofs.lacking.places.Given as goal

abbrev pub invariant-loop-place : goal.invariant-loop-place
invariant-loop-place l = record {
  size : l.places.size ≡ length l.order.types;
  so_far : (x y : ℕ) → x < length l.order.types → y < length l.order.types → holds l.places x y ≡ (nat_lt y l.place && is_above l.order x (get_or l.types y 0));
}
