-- When two structures are the same up to the numbers of their nodes, as far as they are visible; and what texts tell
-- of structures. Source: alphabetic variants of feature structures, Carpenter 1992, chapter 3.
use Rattle.std.specs.Prelude.{◌≡◌, ◌⊎◌, ℕ, ◌<◌, ◌^◌, IsTrue, List, [], map, option_map, length}
use Rattle.ale_declared.specs.Declarations.{Declared}
use Rattle.ale_declared.specs.Lists.{Has}
use Rattle.ale_hierarchy.specs.Hierarchy.{IsLawful}
use Rattle.ale_hierarchy.specs.Order.{hierarchy}
use Rattle.ale_declared.specs.Numbering.{AreDistinct}
use Rattle.ale_graph.specs.Structures.{Structure, IsStructure, count, node_at, type_of, is_formed}
use Rattle.ale_morphism.specs.Visible.{Visible, visible}
use Rattle.ale_print.specs.Texts.{answer_text}

-- the two nodes differ, in whichever order the pair stands
abbrev pub Differs : Structure → ℕ → ℕ → Type 0
Differs s a b = Has s.differ (a, b) ⊎ Has s.differ (b, a)

-- the visible nodes of s are taken to those of t, with their types and values
pub record Carries (s t : Structure) (map_to : ℕ → ℕ) : Type 0 where
  pub visible : (n : ℕ) → Visible s n → Visible t (map_to n)
  pub type : (n : ℕ) → Visible s n → type_of t (map_to n) ≡ type_of s n
  pub values : (n : ℕ) → Visible s n → (node_at t (map_to n)).values ≡ map (λ v. (v.0, map_to v.1)) (node_at s n).values
  pub roots : t.roots ≡ map (option_map map_to) s.roots
  pub differ : (a b : ℕ) → Differs s a b → Differs t (map_to a) (map_to b)

-- Up to the numbers of nodes both have the same visible part: two maps, each of which undoes the other, carry the
-- one to the other.
pub record IsSame (s t : Structure) : Type 0 where
  pub there : ℕ → ℕ
  pub back : ℕ → ℕ
  pub carried : Carries s t there
  pub carried_back : Carries t s back
  pub undone : (n : ℕ) → Visible s n → back (there n) ≡ n
  pub undone_back : (n : ℕ) → Visible t n → there (back n) ≡ n

-- Each root has a name, or none has one.
abbrev pub IsNamed : List (List ℕ) → Structure → Type 0
IsNamed names s = (length names ≡ length s.roots) ⊎ (names ≡ [])

-- Of one signature and one list of names, two structures with one text are the same up to numbers of nodes. Structures
-- are as large as memory can hold.
abbrev pub TextsTell : Type 0
TextsTell =
    (d : Declared) (names : List (List ℕ)) (s t : Structure)
    → IsLawful (hierarchy d) → AreDistinct d.types
    → IsStructure (hierarchy d) s → IsStructure (hierarchy d) t → IsNamed names s → IsNamed names t
    → count s < 2 ^ 64 → count t < 2 ^ 64
    → answer_text d names s ≡ answer_text d names t → IsSame s t

-- A structure and its visible part have one text.
abbrev pub VisibleTexts : Type 0
VisibleTexts =
    (d : Declared) (names : List (List ℕ)) (s : Structure) → IsTrue (is_formed s) → answer_text d names s ≡ answer_text d names (visible s)
