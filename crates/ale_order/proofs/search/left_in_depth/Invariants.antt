use Rattle.std.proofs.Common.{◌≡◌, ℕ, ◌<◌, true, false, [], get_or, length}
use Rattle.ale_order.specs.Searches.{IsSearch}
use Rattle.ale_order.proofs.search.left_in_depth.Given as goal

abbrev pub invariant-loop-start : goal.invariant-loop-start
invariant-loop-start l = record {
  wide : length l.seen.items ≡ l.size;
  in_order : IsSearch l.graph l.seen.items l.left [];
  done : (m : ℕ) → m < l.start → get_or l.seen.items m false ≡ true;
}
