-- The variables of a scope that were met so far, by their names in order of their slots. A variable has the slot of its first
-- occurrence, and each `_` is a variable of its own.
-- Source: variables in the ALE 3.2 User's Guide; the numbers are this project's own profile.
use Rattle.std.specs.Prelude.{◌≡◌, ℕ, Bool, ◌||◌, not, if◌then◌else◌, Some, List, [], ◌∷◌, ◌++◌, length, codes}
use Rattle.ale_relation.specs.Has.{Has}
use Rattle.ale_declared.specs.Names.{same_name, is_named, number, named}

abbrev pub anonymous : List ℕ
anonymous = codes "_"

-- After the variables vs the variable x has slot k, and the variables with it are us.
pub data IsSlot (vs : List (List ℕ)) (x : List ℕ) : ℕ → List (List ℕ) → Type 0 where
  own : x ≡ anonymous → IsSlot vs x (length vs) (vs ++ x ∷ [])
  first : (x ≡ anonymous → ⊥) → (Has vs x → ⊥) → IsSlot vs x (length vs) (vs ++ x ∷ [])
  again : (k : ℕ) → (x ≡ anonymous → ⊥) → named vs x ≡ Some k → IsSlot vs x k vs

-- the same as functions
abbrev pub is_anonymous : List ℕ → Bool
is_anonymous x = same_name x anonymous

abbrev pub slot_of : List (List ℕ) → List ℕ → ℕ
slot_of vs x = if is_anonymous x then length vs else number vs x

abbrev pub with_variable : List (List ℕ) → List ℕ → List (List ℕ)
with_variable vs x = if is_anonymous x || not (is_named x vs) then vs ++ x ∷ [] else vs
