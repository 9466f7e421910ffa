-- Those that a number calls, those that call it, and tables with a row of these for each number.
-- Source: this project's own.
use Rattle.std.specs.Prelude.{◌≡◌, ℕ, ◌==◌, List, [], ◌∷◌, ◌++◌, get_or, set, if◌then◌else◌}

-- the second of each pair whose first is `m`, in order: those that `m` calls
abbrev pub called : List (ℕ × ℕ) → ℕ → List ℕ
called [] m = []
called (c ∷ calls) m = if c.0 == m then c.1 ∷ called calls m else called calls m

-- the first of each pair whose second is `m`, in order: those that call `m`
abbrev pub callers : List (ℕ × ℕ) → ℕ → List ℕ
callers [] m = []
callers (c ∷ calls) m = if c.1 == m then c.0 ∷ callers calls m else callers calls m

-- the row of a number in a table
abbrev pub row : List (List ℕ) → ℕ → List ℕ
row table m = get_or table m []

-- the table with a value at the end of a row, if it has the row
abbrev pub with_value : List (List ℕ) → ℕ → ℕ → List (List ℕ)
with_value table at value = set table at (row table at ++ value ∷ [])

-- each number's row has those that it calls
abbrev pub HasCalled : List (List ℕ) → List (ℕ × ℕ) → Type 0
HasCalled table calls = (m : ℕ) → row table m ≡ called calls m

-- each number's row has those that call it
abbrev pub HasCallers : List (List ℕ) → List (ℕ × ℕ) → Type 0
HasCallers table calls = (m : ℕ) → row table m ≡ callers calls m
