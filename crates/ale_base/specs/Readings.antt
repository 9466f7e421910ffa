-- What was taken of a file that is read.
use Rattle.std.specs.Prelude.{ℕ, ◌≤◌, List, Option, Some, length}
use Rattle.std.specs.Io.KnownBytes.{Consumes}

-- no more than `limit` bytes of the file were taken, and the rest is left
abbrev pub TookAtMost : ℕ → List ℕ → Option (List ℕ) → Type 0
TookAtMost limit all left = (taken : List ℕ) × (length taken ≤ limit) × Consumes (Some all) left taken
