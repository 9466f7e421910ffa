-- The variables of a declaration that were met so far: as they are written, and those that have slots. Source: variables in the
-- ALE 3.2 User's Guide; the slots are this project's own profile.
use Rattle.std.specs.Prelude.{ℕ, List, [], ◌∷◌, map, get_or}
use Rattle.ale_macro.specs.Expansions.{Origin}
use Rattle.ale_describe.specs.Variables.{anonymous}

pub record ScopeData : Type 0 where
  pub written : List (List ℕ)
  pub slots : List Origin

abbrev pub new_scope : ScopeData
new_scope = record { written = []; slots = [] }

-- the name of each slot: as the variable is written in the declaration, and `_` for one of a macro's own
abbrev pub name_of_slot : List (List ℕ) → Origin → List ℕ
name_of_slot written ([], v) = get_or written v anonymous
name_of_slot written (k ∷ path, v) = anonymous

abbrev pub slot_names : ScopeData → List (List ℕ)
slot_names scope = map (name_of_slot scope.written) scope.slots
