use Rattle.std.proofs.Common.{◌≡◌, ℕ, true, false, get_or, length}
use Rattle.ale_order.specs.Searches.{IsSearch, due}
use Rattle.ale_order.proofs.search.search_from.Given as goal

abbrev pub invariant-loop-path : goal.invariant-loop-path
invariant-loop-path l = record {
  wide : length l.seen.items ≡ length l.fn.seen.items;
  in_order : IsSearch l.graph l.seen.items l.left l.path;
  start : get_or l.seen.items l.start false ≡ true;
  kept : (m : ℕ) → get_or l.fn.seen.items m false ≡ true → get_or l.seen.items m false ≡ true;
}

abbrev pub decreases-loop-path : goal.decreases-loop-path
decreases-loop-path l = due l.graph l.seen.items l.path
