use Rattle.std.specs.Prelude.{◌≡◌, ℕ, zero, suc, ◌+◌, ◌*◌, ◌/◌, ◌%◌, ◌<◌, ◌≤◌, ◌==◌, Bool, true, false, ◌&&◌, not, List, slice_index, if◌then◌else◌}
use Rattle.std.specs.Int.{bit_at}

-- a relation on the numbers below `size`, as the words of its rows, one row after another
pub record Rows : Type 0 where
  pub size : ℕ
  pub words : List ℕ

-- how many words of 64 bits make a row
abbrev pub row_width : ℕ → ℕ
row_width size = (size + 63) / 64

-- whether `a` stands to `b`: whether bit `b` of row `a` is set
unfoldable pub holds : Rows → ℕ → ℕ → Bool
holds rows a b = bit_at (slice_index rows.words (a * row_width rows.size + b / 64)) (b % 64) == 1

-- how many numbers below `n` pass the test
abbrev pub count_below : (ℕ → Bool) → ℕ → ℕ
count_below passes zero = 0
count_below passes (suc n) = count_below passes n + (if passes n then 1 else 0)

-- whether both `a` and `b` stand to `k`
abbrev pub both_hold : Rows → ℕ → ℕ → ℕ → Bool
both_hold rows a b k = holds rows a k && holds rows b k

-- whether they do and `c` does not
abbrev pub both_but : Rows → ℕ → ℕ → ℕ → ℕ → Bool
both_but rows a b c k = both_hold rows a b k && not (holds rows c k)

-- no number from `start` on and below `end` passes the test
abbrev pub HasNone : (ℕ → Bool) → ℕ → ℕ → Type 0
HasNone passes start end = (k : ℕ) → start ≤ k → k < end → passes k ≡ false

-- a number from `start` on and below `end` passes the test
abbrev pub HasSome : (ℕ → Bool) → ℕ → ℕ → Type 0
HasSome passes start end = (k : ℕ) × (start ≤ k) × (k < end) × (passes k ≡ true)

-- `k` is the first of those that pass
pub record IsFirst (passes : ℕ → Bool) (start end k : ℕ) : Type 0 where
  pub from : start ≤ k
  pub below : k < end
  pub passed : passes k ≡ true
  pub before : HasNone passes start k
