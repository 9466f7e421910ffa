-- One pass of the closure, row by row.
use Rattle.std.proofs.Common.{◌≡◌, ℕ, Bool, ◌||◌, ◌&&◌, nat_lt}

-- at row `x` and column `y`, the pass through `m` has come to row `i`
abbrev pub Passed : (ℕ → ℕ → Bool) → (ℕ → ℕ → Bool) → ℕ → ℕ → ℕ → ℕ → Type 0
Passed old new m i x y = new x y ≡ (old x y || (nat_lt x i && (old x m && old m y)))
