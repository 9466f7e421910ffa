-- Names and their numbers. A name is a list of characters; names are numbered in order of first mention.
-- Source: this project's own profile.
use Rattle.std.specs.Prelude.{ℕ, suc, Bool, false, ◌||◌, Option, Some, None, List, [], ◌∷◌, ◌++◌, if◌then◌else◌, slice_index_or}
use Rattle.std.specs.Option.{option_map}
use Rattle.std.specs.Str.{bytes_eq}

-- the two names are the same
abbrev pub same_name : List ℕ → List ℕ → Bool
same_name x y = bytes_eq x y

-- the name is among the names
abbrev pub is_named : List ℕ → List (List ℕ) → Bool
is_named x [] = false
is_named x (y ∷ ys) = same_name x y || is_named x ys

-- the number of a name: its place among the names
abbrev pub number : List (List ℕ) → List ℕ → ℕ
number [] x = 0
number (y ∷ ys) x = if same_name x y then 0 else suc (number ys x)

-- the names that are there, and then each other name at its first mention
abbrev pub numbered : List (List ℕ) → List (List ℕ) → List (List ℕ)
numbered names [] = names
numbered names (x ∷ xs) = numbered (if is_named x names then names else names ++ x ∷ []) xs

-- the number of a name, where it is among the names
abbrev pub named : List (List ℕ) → List ℕ → Option ℕ
named [] x = None
named (y ∷ ys) x = if same_name x y then Some 0 else option_map suc (named ys x)

-- the name with this number
abbrev pub name_of : List (List ℕ) → ℕ → List ℕ
name_of names n = slice_index_or names n []
