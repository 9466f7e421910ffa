-- The first fault of things that are looked at in order: before it all is right.
-- Source: this project's own.
use Rattle.std.specs.Prelude.{Option, Some, None, List, [], ◌∷◌}

-- `IsFault a f`: the thing a has the fault f
pub data IsFirst {A F : Type 0} (IsFault : A → F → Type 0) : List A → F → Type 0 where
  here : (a : A) (rest : List A) (f : F) → IsFault a f → IsFirst IsFault (a ∷ rest) f
  later : (a : A) (rest : List A) (f : F) → ((g : F) → IsFault a g → ⊥) → IsFirst IsFault rest f → IsFirst IsFault (a ∷ rest) f

-- none of them has a fault
abbrev pub AllRight : {A F : Type 0} → (A → F → Type 0) → List A → Type 0
AllRight IsFault [] = Unit {0}
AllRight IsFault (a ∷ rest) = ((f : _) → IsFault a f → ⊥) × AllRight IsFault rest

-- the same as a function
abbrev pub or_else : {F : Type 0} → Option F → Option F → Option F
or_else None other = other
or_else (Some f) other = Some f

abbrev pub first_of : {A F : Type 0} → (A → Option F) → List A → Option F
first_of fault [] = None
first_of fault (a ∷ rest) = or_else (fault a) (first_of fault rest)
