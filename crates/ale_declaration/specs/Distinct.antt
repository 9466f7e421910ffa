-- Whether names are distinct, one after another, with those that came before; and whether the variables of a right side are among
-- those of the left. Source: this project's own.
use Rattle.std.specs.Prelude.{ℕ, Bool, true, ◌&&◌, ◌||◌, not, if◌then◌else◌, List, [], ◌∷◌, codes}
use Rattle.std.specs.Str.{bytes_eq}
use Rattle.ale_declared.specs.Names.{is_named, numbered}
use Rattle.ale_declaration.specs.declared.declaration.LinePart.{LinePart}
use Rattle.ale_declaration.specs.declared.declaration.LinePart.TheVariants.{Piece, Slot}

-- the name is `_`, or is not among those that came before
abbrev pub is_new : List (List ℕ) → List ℕ → Bool
is_new seen x = bytes_eq x (codes "_") || not (is_named x seen)

abbrev pub with_new : List (List ℕ) → List ℕ → List (List ℕ)
with_new seen x = if bytes_eq x (codes "_") then seen else numbered seen (x ∷ [])

abbrev pub distinct_after : List (List ℕ) → List (List ℕ) → Bool
distinct_after seen [] = true
distinct_after seen (x ∷ xs) = is_new seen x && distinct_after (with_new seen x) xs

-- the variables of a side, as often as they stand in it
abbrev pub slots_in : List LinePart → List (List ℕ)
slots_in [] = []
slots_in (Piece n ∷ ps) = slots_in ps
slots_in (Slot x ∷ ps) = x ∷ slots_in ps

abbrev pub is_told_by : List (List ℕ) → LinePart → Bool
is_told_by names (Piece n) = true
is_told_by names (Slot x) = not (bytes_eq x (codes "_")) && is_named x names

abbrev pub is_bound_by : List (List ℕ) → List LinePart → Bool
is_bound_by names [] = true
is_bound_by names (p ∷ right) = is_told_by names p && is_bound_by names right
