-- What a search with a stack keeps, and how many steps are left.
-- Source: this project's own.
use Rattle.std.specs.Prelude.{◌≡◌, ℕ, suc, ◌+◌, ◌≤◌, true, false, Option, Some, None, List, [], ◌∷◌, ◌++◌, length, drop}
use Rattle.ale_morph.specs.declared.line.Piece.{Piece}
use Rattle.ale_morph.specs.declared.line.Piece.TheVariants.{Letters, Slot}
use Rattle.ale_morph.specs.Search.{Filling, text_in, behind, or_else, first_longer, fill}
use Rattle.ale_morph.specs.Bound.{stands}
use Rattle.ale_morph.specs.Stack.{Open, fillings, State, Step, found, fails, goes}

-- what the other pieces make of what is left behind a text of the slot
abbrev pub with_text : List Filling → ℕ → List Piece → List ℕ → List ℕ → Option (List Filling)
with_text fs slot others text left = fill (record { slot = slot; text = text } ∷ fs) others left

-- what comes of longer texts of an open slot
abbrev pub of_longer : List Filling → Open → Option (List Filling)
of_longer fs o = first_longer (with_text fs o.slot o.others) o.text o.left

-- what comes of longer texts, of the slot that was filled last first
abbrev pub of_stack : List Open → Option (List Filling)
of_stack [] = None
of_stack (o ∷ os) = or_else (of_longer (fillings os) o) (of_stack os)

-- what comes of the first pieces is what comes of the second, and where nothing comes of the second at any later place,
-- nothing comes of the first at any
pub record Reaches (fs : List Filling) (pieces : List Piece) (rest : List ℕ) (later : List Piece) (left : List ℕ) : Type 0 where
  pub same : fill fs pieces rest ≡ fill fs later left
  pub nowhere : ((n : ℕ) → fill fs later (drop n left) ≡ None) → (n : ℕ) → fill fs pieces (drop n rest) ≡ None

-- the slot was free, and its shorter texts failed
pub record IsOpen (fs : List Filling) (o : Open) : Type 0 where
  pub free : text_in fs o.slot ≡ None
  pub single : o.once ≡ true → stands o.slot o.others ≡ false
  pub failed : (shorter more : List ℕ) → shorter ++ more ≡ o.text → 1 ≤ length shorter → 1 ≤ length more → with_text fs o.slot o.others shorter (more ++ o.left) ≡ None

-- each slot of the stack is open, and the search came from the pieces of a line and a word to where it stands
abbrev pub AreOpen : List Piece → List ℕ → List Open → List Piece → List ℕ → Type 0
AreOpen side word [] pieces rest = Reaches [] side word pieces rest
AreOpen side word (o ∷ os) pieces rest =
    Reaches (fillings (o ∷ os)) o.others o.left pieces rest × IsOpen (fillings os) o × AreOpen side word os (Slot o.slot ∷ o.others) (o.text ++ o.left)

-- what comes of where the search stands, or else of longer texts, is what comes of the whole
pub record IsUnderway (side : List Piece) (word : List ℕ) (st : State) : Type 0 where
  pub whole : or_else (fill (fillings st.stack) st.pieces st.rest) (of_stack st.stack) ≡ fill [] side word
  pub open_slots : AreOpen side word st.stack st.pieces st.rest

-- what a step has come to
abbrev pub Tells : List Piece → List ℕ → Step → Type 0
Tells side word (found os) = fill [] side word ≡ Some (fillings os)
Tells side word fails = fill [] side word ≡ None
Tells side word (goes st) = IsUnderway side word st

-- how many steps longer texts take
abbrev pub steps_longer : (List ℕ → List ℕ → ℕ) → List ℕ → List ℕ → ℕ
steps_longer steps text [] = 0
steps_longer steps text (c ∷ cs) = suc (steps (text ++ c ∷ []) cs + steps_longer steps (text ++ c ∷ []) cs)

abbrev pub steps_behind : (List ℕ → ℕ) → Option (List ℕ) → ℕ
steps_behind steps None = 0
steps_behind steps (Some left) = steps left

abbrev pub steps_slot : (List ℕ → List ℕ → ℕ) → (List ℕ → ℕ) → Option (List ℕ) → List ℕ → ℕ
steps_slot free held None rest = steps_longer free [] rest
steps_slot free held (Some text) rest = steps_behind held (behind text rest)

-- how many steps the pieces take, if each text is tried
abbrev pub steps : List Filling → List Piece → List ℕ → ℕ
steps fs [] rest = 0
steps fs (Letters letters ∷ pieces) rest = suc (steps_behind (λ left. steps fs pieces left) (behind letters rest))
steps fs (Slot slot ∷ pieces) rest =
    suc (steps_slot (λ text left. steps (record { slot = slot; text = text } ∷ fs) pieces left) (λ left. steps fs pieces left) (text_in fs slot) rest)

abbrev pub steps_with : List Filling → ℕ → List Piece → List ℕ → List ℕ → ℕ
steps_with fs slot others text left = steps (record { slot = slot; text = text } ∷ fs) others left

-- how many the longer texts of the stack take
abbrev pub steps_stack : List Open → ℕ
steps_stack [] = 0
steps_stack (o ∷ os) = steps_longer (steps_with (fillings os) o.slot o.others) o.text o.left + steps_stack os

-- how many are left
abbrev pub steps_left : Step → ℕ
steps_left (found os) = 0
steps_left fails = 0
steps_left (goes st) = suc (steps (fillings st.stack) st.pieces st.rest + steps_stack st.stack)
