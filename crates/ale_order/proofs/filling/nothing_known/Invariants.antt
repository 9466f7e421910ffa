use Rattle.std.proofs.Common.{◌≡◌, ℕ, length, get_or, None}
use Rattle.ale_order.proofs.filling.nothing_known.Given as goal

abbrev pub invariant-loop : goal.invariant-loop
invariant-loop g l = record {
  wide : length l.table.items ≡ l.counter;
  none : (m : ℕ) → get_or l.table.items m None ≡ None;
}
