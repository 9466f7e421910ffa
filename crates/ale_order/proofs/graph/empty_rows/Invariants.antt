use Rattle.std.proofs.Common.{◌≡◌, ℕ, [], length, map}
use Rattle.ale_order.specs.Calls.{row}
use Rattle.ale_order.proofs.graph.empty_rows.Given as goal

abbrev pub invariant-loop : goal.invariant-loop
invariant-loop l = record {
  wide : length l.rows.items ≡ l.counter;
  empty : (m : ℕ) → row (map (λ r. r.items) l.rows.items) m ≡ [];
}
