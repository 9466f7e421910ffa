use Rattle.std.proofs.Common.{◌≡◌, ℕ, ◌<◌, ◌||◌, ◌&&◌, nat_lt, eqb}
use Rattle.ale_relation.specs.Rows.{holds}
use Rattle.ale_hierarchy.specs.Order.{is_above}
use Rattle.ale_hierarchy.proofs.lacking.add_place.Given as goal

abbrev pub invariant-loop-a : goal.invariant-loop-a
invariant-loop-a l = record {
  size : l.places.size ≡ l.fn.places.size;
  so_far : (x y : ℕ) → x < l.fn.places.size → y < l.fn.places.size → holds l.places x y ≡ ((nat_lt x l.a && (eqb y l.place && is_above l.order x l.t)) || holds l.fn.places x y);
}
