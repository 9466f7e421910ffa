use Rattle.std.proofs.Common.{◌≡◌, ℕ, List, length}
use Rattle.ale_macro.specs.Sizes.{below}
use Rattle.ale_macro.proofs.depth.Depth.none.Given as goal

abbrev pub invariant-loop-made : goal.invariant-loop-made
invariant-loop-made l = (length l.places.items ≡ l.made) × ((xs : List ℕ) → below l.places.items xs ≡ 0)
