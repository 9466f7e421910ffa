-- Descriptions without macro calls and lists, and how large they are. A variable is told by where it comes from: by the
-- calls that lead to its scope, the innermost first, and by its number in that scope.
-- Source: the description language, Carpenter 1992, chapter 4; what counts as a part is this project's own profile.
use Rattle.std.specs.Prelude.{ℕ, suc, ◌+◌, max, ◌&&◌, nat_le, if◌then◌else◌, Option, Some, None, List, [], ◌∷◌, length}

abbrev pub Origin : Type 0
Origin = List ℕ × ℕ

mutual
  pub data Expansion : Type 0 where
    of_type : ℕ → Expansion
    variable : Origin → Expansion
    at : ℕ → Expansion → Expansion
    all : Expansions → Expansion
    any : Expansions → Expansion
    differs : Expansion → Expansion
    path_equation : List ℕ → List ℕ → Expansion

  pub data Expansions : Type 0 where
    none : Expansions
    more : Expansion → Expansions → Expansions

abbrev pub expansions_of : List Expansion → Expansions
expansions_of [] = none
expansions_of (e ∷ es) = more e (expansions_of es)

-- each type, variable, feature, conjunction, disjunction and inequation is a part, and two paths are one and one more
-- for each of their features
abbrev mutual
  pub parts : Expansion → ℕ
  parts (of_type t) = 1
  parts (variable v) = 1
  parts (at f e) = suc (parts e)
  parts (all es) = suc (parts_of_all es)
  parts (any es) = suc (parts_of_all es)
  parts (differs e) = suc (parts e)
  parts (path_equation p q) = suc (length p + length q)

  pub parts_of_all : Expansions → ℕ
  parts_of_all none = 0
  parts_of_all (more e es) = parts e + parts_of_all es

-- each feature, conjunction, disjunction and inequation adds one to what is inside it
abbrev mutual
  pub nesting : Expansion → ℕ
  nesting (of_type t) = 0
  nesting (variable v) = 0
  nesting (at f e) = suc (nesting e)
  nesting (all es) = suc (nesting_of_all es)
  nesting (any es) = suc (nesting_of_all es)
  nesting (differs e) = suc (nesting e)
  nesting (path_equation p q) = 0

  pub nesting_of_all : Expansions → ℕ
  nesting_of_all none = 0
  nesting_of_all (more e es) = max (nesting e) (nesting_of_all es)

-- its parts, where it is within the limits of a description; these are this project's own
abbrev pub within_limits : Expansion → Option ℕ
within_limits e = if nat_le (parts e) 100000 && nat_le (nesting e) 4000 then Some (parts e) else None
