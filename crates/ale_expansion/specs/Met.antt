-- The paths and the variables that were met, and the names of variables. Source: this project's own.
use Rattle.std.specs.Prelude.{◌≡◌, ℕ, suc, ◌<◌, List, [], ◌∷◌, get_or, length, map, nat_eq, codes, if◌then◌else◌}
use Rattle.ale_expansion.specs.declared.mark.Mark.{Mark}
use Rattle.ale_macro.specs.Expansions.{Origin}
use Rattle.ale_expansion.specs.Marks.{path_at, paths_of}

-- the paths by their numbers, and the variables by their slots
pub record MetData : Type 0 where
  pub paths : List (List ℕ)
  pub variables : List Origin

-- each call leads on from a path before it
abbrev pub LeadOn : ℕ → List Mark → Type 0
LeadOn n [] = Unit {0}
LeadOn n (m ∷ ms) = (m.path < n) × LeadOn (suc n) ms

-- their paths are among so many
abbrev pub AreBelow : ℕ → List Mark → Type 0
AreBelow n [] = Unit {0}
AreBelow n (m ∷ ms) = (m.path < n) × AreBelow n ms

-- no two are the same
abbrev pub AreDistinct : List (List ℕ) → Type 0
AreDistinct paths = (i j : ℕ) → i < length paths → j < length paths → path_at paths i ≡ path_at paths j → i ≡ j

-- of the calls that lead to paths and the variables
pub record IsMet (calls slots : List Mark) : Type 0 where
  pub lead : LeadOn 1 calls
  pub distinct : AreDistinct (paths_of calls)
  pub below : AreBelow (length (paths_of calls)) slots

-- the name of a variable that has none
abbrev pub no_name : List ℕ
no_name = codes "_"

-- the name that has this number in the declaration's own scope
abbrev pub name_at : List (List ℕ) → List ℕ → ℕ → List ℕ
name_at scope [] number = get_or scope number no_name
name_at scope (k ∷ path) number = no_name

-- the names of variables where the declaration's own scope has these names: only a variable of that scope has one
abbrev pub names_in : List (List ℕ) → List Origin → List (List ℕ)
names_in scope vs = map (λ v. name_at scope v.0 v.1) vs

-- the name of a variable whose path is told by its number
abbrev pub mark_name : List (List ℕ) → Mark → List ℕ
mark_name scope m = if nat_eq m.path 0 then get_or scope m.number no_name else no_name
