-- What the closure's working lists stand for: the class and type of each node, and the values of each class.
-- This project's own representation.
use Rattle.std.specs.Prelude.{ℕ, Bool, true, false, ◌&&◌, eqb, ltb, List, [], ◌∷◌, map, get_or, if◌then◌else◌}

-- a node past the list's end is a class of its own
abbrev pub class_in : List ℕ → ℕ → ℕ
class_in xs a = get_or xs a a

-- a node past the list's end has the most general type
abbrev pub type_in : List ℕ → ℕ → ℕ
type_in xs a = get_or xs a 0

abbrev pub values_in : List (List (ℕ × ℕ)) → ℕ → List (ℕ × ℕ)
values_in xs c = get_or xs c []

-- one class number in place of another
abbrev pub renamed : ℕ → ℕ → ℕ → ℕ
renamed high low x = if eqb x high then low else x

-- a value before those by higher features
abbrev pub insert_value : List (ℕ × ℕ) → ℕ → ℕ → List (ℕ × ℕ)
insert_value [] f m = (f, m) ∷ []
insert_value (v ∷ vs) f m = if ltb f v.0 then (f, m) ∷ v ∷ vs else v ∷ insert_value vs f m

-- both lists have the same features, and values of the same classes
abbrev pub same_lists : (ℕ → ℕ) → List (ℕ × ℕ) → List (ℕ × ℕ) → Bool
same_lists class [] [] = true
same_lists class [] (y ∷ ys) = false
same_lists class (x ∷ xs) [] = false
same_lists class (x ∷ xs) (y ∷ ys) = (eqb x.0 y.0 && eqb (class x.1) (class y.1)) && same_lists class xs ys

-- each value through a map
abbrev pub mapped : (ℕ → ℕ) → List (ℕ × ℕ) → List (ℕ × ℕ)
mapped g xs = map (λ v. (v.0, g v.1)) xs
