-- Tables with an entry for each number, which rests on the entries of those that the number calls.
-- Source: this project's own.
use Rattle.std.specs.Prelude.{◌≡◌, ℕ, List, Option, Some, None, get_or}
use Rattle.ale_relation.specs.Has.{Has}

-- the table has an entry for the number
abbrev pub IsKnown : {T : Type 0} → List (Option T) → ℕ → Type 0
IsKnown {T} table k = (e : T) × (get_or table k None ≡ Some e)

-- the table has an entry for the number, one that is right beside this very table
abbrev pub HasRight : {T : Type 0} → (ℕ → List (Option T) → T → Type 0) → List (Option T) → ℕ → Type 0
HasRight {T} is_right table m = (e : T) × (get_or table m None ≡ Some e) × is_right m table e

-- what is right for a number rests on the entries of those alone that it calls
abbrev pub RestsOnCalled : {T : Type 0} → List (ℕ × ℕ) → (ℕ → List (Option T) → T → Type 0) → Type 0
RestsOnCalled {T} calls is_right =
    (m : ℕ) (table other : List (Option T)) (e : T) →
    ((k : ℕ) → Has calls (m, k) → get_or other k None ≡ get_or table k None) →
    is_right m table e →
    is_right m other e
