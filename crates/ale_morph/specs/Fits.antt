-- What lines of morphology make of a word: slots stand for texts, and a line fits where its left side spells the word.
-- Source: morphological rules of lexical rules, ALE 3.2 User's Guide; which of several ways to fit is taken is
-- this project's own rule.
use Rattle.std.specs.Prelude.{◌≡◌, ℕ, ◌<◌, ◌≤◌, ◌⊎◌, Option, Some, None, List, [], ◌∷◌, ◌++◌, length}
use Rattle.ale_morph.specs.declared.line.Piece.{Piece}
use Rattle.ale_morph.specs.declared.line.Piece.TheVariants.{Letters, Slot}
use Rattle.ale_morph.specs.declared.line.Line.{Line}

-- a text for each slot
abbrev pub Texts : Type 0
Texts = ℕ → List ℕ

-- what a piece spells with these texts
abbrev pub part : Texts → Piece → List ℕ
part texts (Letters letters) = letters
part texts (Slot slot) = texts slot

-- what a side of a line spells, its pieces one after the other
abbrev pub spell : Texts → List Piece → List ℕ
spell texts [] = []
spell texts (piece ∷ pieces) = part texts piece ++ spell texts pieces

-- each slot of the pieces has a text of at least one character
abbrev pub AreFull : Texts → List Piece → Type 0
AreFull texts [] = Unit {0}
AreFull texts (Letters letters ∷ pieces) = AreFull texts pieces
AreFull texts (Slot slot ∷ pieces) = (1 ≤ length (texts slot)) × AreFull texts pieces

-- with these texts the left side of a line spells the word
pub record Fits (left : List Piece) (word : List ℕ) (texts : Texts) : Type 0 where
  pub full : AreFull texts left
  pub spells : spell texts left ≡ word

-- at the first slot, in the order in which they stand, where the lengths differ, if there is one, the first
-- texts have the shorter one; a slot that stands again is no such place, since it differed where it first stood
abbrev pub NoLonger : Texts → Texts → List Piece → Type 0
NoLonger texts others [] = Unit {0}
NoLonger texts others (Letters letters ∷ pieces) = NoLonger texts others pieces
NoLonger texts others (Slot slot ∷ pieces) =
    (length (texts slot) < length (others slot))
    ⊎ ((length (texts slot) ≡ length (others slot)) × NoLonger texts others pieces)

-- of the ways in which the left side fits the word, the one that is taken
pub record IsTaken (left : List Piece) (word : List ℕ) (texts : Texts) : Type 0 where
  pub fits : Fits left word texts
  pub least : (others : Texts) → Fits left word others → NoLonger texts others left

-- the first line that fits spells its right side with the texts that are taken; nothing, where no line fits
abbrev pub Becomes : List Line → List ℕ → Option (List ℕ) → Type 0
Becomes [] word made = made ≡ None
Becomes (line ∷ lines) word made =
    ((texts : Texts) × IsTaken line.left word texts × (made ≡ Some (spell texts line.right)))
    ⊎ (((texts : Texts) → Fits line.left word texts → ⊥) × Becomes lines word made)
