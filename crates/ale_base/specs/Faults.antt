-- Counts of faults: what it means that one rose, and that a call tells of it.
use Rattle.std.specs.Prelude.{ℕ, ◌+◌, ◌-◌, ◌^◌, ◌<◌, ◌≤◌, min}

-- one more, but a count at its last value stands still
abbrev pub next_count : ℕ → ℕ
next_count count = min (count + 1) (2 ^ 64 - 1)

-- the count rose: it is greater now than before, or it stands at its last value
abbrev pub Rose : ℕ → ℕ → Type 0
Rose before now = next_count before ≤ now

-- the count never falls; a call that answers with the fault made it rise, and a call that made it greater
-- answers with the fault
pub record ExactlyWhereRose (before now : ℕ) (fault : Type 0) : Type 0 where
  pub later : before ≤ now
  pub rose : fault → Rose before now
  pub greater : before < now → fault
