-- The types of the first step, by passes over the facts: each class is raised to whatever a fact asks of it.
-- Source: type inference by repeated passes, folklore.
use Rattle.std.specs.Prelude.{◌≡◌, ℕ, ◌<◌, Bool, true, Option, Some, None, List, [], ◌∷◌, length, slice_set, if◌then◌else◌}
use Rattle.ale_hierarchy.specs.Hierarchy.{Hierarchy}
use Rattle.ale_graph.specs.declared.fact.Fact.{Fact}
use Rattle.ale_graph.specs.declared.fact.Fact.TheVariants.{OfType, Value, Same, Differ}
use Rattle.ale_graph.specs.Types.{least_types}
use Rattle.ale_graph.specs.Drafts.{class_in, type_in}
use Rattle.ale_graph.specs.Keeping.{IsTypes}

-- the type of each class, and whether a pass has raised one
pub record Raising : Type 0 where
  pub types : List ℕ
  pub changed : Bool

-- the class's type becomes the join, where there is one
abbrev pub raise_to : ℕ → Option ℕ → Raising → Option Raising
raise_to c None r = None
raise_to c (Some v) r = Some (record { types = slice_set r.types c v; changed = true })

-- the class is of the type at least
abbrev pub raise : Hierarchy → ℕ → ℕ → Raising → Option Raising
raise h c t r = if h.is_above t (type_in r.types c) then Some r else raise_to c (h.join (type_in r.types c) t) r

-- the value is of the restricting type, where there is one
abbrev pub restrict : Hierarchy → ℕ → Option ℕ → Raising → Option Raising
restrict h c None r = Some r
restrict h c (Some t) r = raise h c t r

-- the value of class a by f is in class b
abbrev pub raise_value : Hierarchy → ℕ → ℕ → ℕ → Option Raising → Option Raising
raise_value h a f b None = None
raise_value h a f b (Some r) = restrict h b (h.approp f (type_in r.types a)) r

abbrev pub raise_fact : Hierarchy → (ℕ → ℕ) → Fact → Raising → Option Raising
raise_fact h class (OfType n t) r = raise h (class n) t r
raise_fact h class (Value n f m) r = raise_value h (class n) f (class m) (raise h (class n) (h.intro f) r)
raise_fact h class (Same a b) r = Some r
raise_fact h class (Differ a b) r = Some r

abbrev pub raise_facts : Hierarchy → (ℕ → ℕ) → List Fact → Raising → Option Raising
raise_facts h class [] r = Some r
raise_facts h class (x ∷ xs) r = elim (raise_fact h class x r) [ None ↦ None | Some q ↦ raise_facts h class xs q ]

-- what the code's lists and answer stand for: whether a pass has raised a type, or nothing
abbrev pub raising_of : List ℕ → Option Bool → Option Raising
raising_of types None = None
raising_of types (Some changed) = Some (record { types = types; changed = changed })

-- each type is one of the signature
abbrev pub AllInside : Hierarchy → List ℕ → Type 0
AllInside h types = (c : ℕ) → type_in types c < h.types

-- the least types of the classes
pub record HasTypes (h : Hierarchy) (facts : List Fact) (class types : List ℕ) : Type 0 where
  pub are : IsTypes h facts (class_in class) (type_in types)
  pub found : least_types h facts (length class) (class_in class) ≡ Some (type_in types)
  pub types_length : length types ≡ length class
