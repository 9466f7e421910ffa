use Rattle.std.proofs.Common.{◌≡◌, ℕ, List, length}
use Rattle.ale_macro.specs.Sizes.{weighted}
use Rattle.ale_macro.proofs.tally.Tally.none.Given as goal

abbrev pub invariant-loop-made : goal.invariant-loop-made
invariant-loop-made l = (length l.uses.items ≡ l.made) × ((xs : List ℕ) → weighted l.uses.items xs ≡ 0)
