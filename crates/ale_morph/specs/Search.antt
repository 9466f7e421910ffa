-- The same as a function: slot by slot, shorter texts first.
-- Source: search by backtracking, folklore.
use Rattle.std.specs.Prelude.{ℕ, eqb, Option, Some, None, List, [], ◌∷◌, ◌++◌, if◌then◌else◌}
use Rattle.ale_morph.specs.declared.line.Piece.{Piece}
use Rattle.ale_morph.specs.declared.line.Piece.TheVariants.{Letters, Slot}
use Rattle.ale_morph.specs.declared.line.Line.{Line}
use Rattle.ale_morph.specs.Fits.{Texts, spell}

-- a slot and its text
pub record Filling : Type 0 where
  pub slot : ℕ
  pub text : List ℕ

-- the text of a slot, where it has one
abbrev pub text_in : List Filling → ℕ → Option (List ℕ)
text_in [] slot = None
text_in (f ∷ fs) slot = if eqb f.slot slot then Some f.text else text_in fs slot

abbrev pub text_or_none : Option (List ℕ) → List ℕ
text_or_none None = []
text_or_none (Some text) = text

-- the text of each slot that has one, and no characters for the others
abbrev pub texts_of : List Filling → Texts
texts_of fs slot = text_or_none (text_in fs slot)

-- what stands behind the prefix, where the characters begin with it
abbrev pub behind : List ℕ → List ℕ → Option (List ℕ)
behind [] cs = Some cs
behind (p ∷ ps) [] = None
behind (p ∷ ps) (c ∷ cs) = if eqb c p then behind ps cs else None

abbrev pub or_else : {A : Type 0} → Option A → Option A → Option A
or_else None later = later
or_else (Some x) later = Some x

abbrev pub and_then : {A B : Type 0} → (A → Option B) → Option A → Option B
and_then f None = None
and_then f (Some x) = f x

-- the first answer, with the text one character longer each time, and what is left behind it
abbrev pub first_longer : {A : Type 0} → (List ℕ → List ℕ → Option A) → List ℕ → List ℕ → Option A
first_longer answer text [] = None
first_longer answer text (c ∷ cs) =
    or_else (answer (text ++ c ∷ []) cs) (first_longer answer (text ++ c ∷ []) cs)

-- with the text that a slot has, or else with the shortest that gives an answer
abbrev pub at_slot : {A : Type 0} → (List ℕ → List ℕ → Option A) → (List ℕ → Option A) → Option (List ℕ) → List ℕ → Option A
at_slot free held None rest = first_longer free [] rest
at_slot free held (Some text) rest = and_then held (behind text rest)

-- the slots that have texts, and with them those of the pieces, where the pieces can spell the characters
abbrev pub fill : List Filling → List Piece → List ℕ → Option (List Filling)
fill fs [] [] = Some fs
fill fs [] (c ∷ cs) = None
fill fs (Letters letters ∷ pieces) rest = and_then (λ left. fill fs pieces left) (behind letters rest)
fill fs (Slot slot ∷ pieces) rest =
    at_slot (λ text left. fill (record { slot = slot; text = text } ∷ fs) pieces left) (λ left. fill fs pieces left)
    (text_in fs slot) rest

abbrev pub spell_with : List Piece → Option (List Filling) → Option (List ℕ)
spell_with right None = None
spell_with right (Some fs) = Some (spell (texts_of fs) right)

-- what the line makes of the word
abbrev pub made_by : Line → List ℕ → Option (List ℕ)
made_by line word = spell_with line.right (fill [] line.left word)

-- what the lines make of the word
abbrev pub becomes : List Line → List ℕ → Option (List ℕ)
becomes [] word = None
becomes (line ∷ lines) word = or_else (made_by line word) (becomes lines word)
