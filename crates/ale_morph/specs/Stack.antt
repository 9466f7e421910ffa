-- The search in steps, with a stack of the slots that were free in place of recursion: the slot that was filled last stands first.
-- Source: search by backtracking, folklore; that a slot which stands once need not grow where the pieces behind it fail at
-- every later place is known from the matching of wild cards.
use Rattle.std.specs.Prelude.{ℕ, Bool, false, not, ◌&&◌, Option, Some, None, List, [], ◌∷◌, ◌++◌, if◌then◌else◌}
use Rattle.ale_morph.specs.declared.line.Piece.{Piece}
use Rattle.ale_morph.specs.declared.line.Piece.TheVariants.{Letters, Slot}
use Rattle.ale_morph.specs.declared.status.Status.{Status}
use Rattle.ale_morph.specs.declared.status.Status.TheVariants.{Found, Fails, Goes}
use Rattle.ale_morph.specs.Search.{Filling, text_in, behind}
use Rattle.ale_morph.specs.Bound.{stands}

-- a slot that was free, whether it stands nowhere in the pieces behind it, these, its text, and the characters behind it
pub record Open : Type 0 where
  pub slot : ℕ
  pub once : Bool
  pub others : List Piece
  pub text : List ℕ
  pub left : List ℕ

abbrev pub filling : Open → Filling
filling o = record { slot = o.slot; text = o.text }

abbrev pub fillings : List Open → List Filling
fillings [] = []
fillings (o ∷ os) = filling o ∷ fillings os

-- a stack in code holds the slot that was filled last at its end
abbrev pub turned : {A : Type 0} → List A → List A → List A
turned [] rest = rest
turned (x ∷ xs) rest = turned xs (x ∷ rest)

abbrev pub top_first : List Open → List Open
top_first os = turned os []

-- the slot before it has a text
abbrev pub opened : ℕ → List Piece → List ℕ → Open
opened slot others rest = record { slot = slot; once = not (stands slot others); others = others; text = []; left = rest }

-- with one character more, if there is one
abbrev pub grown : Open → List ℕ → Option Open
grown o [] = None
grown o (c ∷ cs) = Some (record { slot = o.slot; once = o.once; others = o.others; text = o.text ++ c ∷ []; left = cs })

-- the longer text to try, where the pieces behind it failed, and if hopeless, fail at every later place too
abbrev pub longer : Bool → Open → Option Open
longer hopeless o = if hopeless && o.once then None else grown o o.left

abbrev pub put_on : Option Open → List Open → List Open → List Open
put_on None os later = later
put_on (Some o) os later = o ∷ os

-- the last slot that can have a longer text has it; a slot that stands once and cannot is as hopeless at every later place
abbrev pub resume : Bool → List Open → List Open
resume hopeless [] = []
resume hopeless (o ∷ os) = put_on (longer hopeless o) os (resume o.once os)

-- where the search stands
pub record State : Type 0 where
  pub stack : List Open
  pub pieces : List Piece
  pub rest : List ℕ

pub data Step : Type 0 where
  found : List Open → Step
  fails : Step
  goes : State → Step

abbrev pub from_top : List Open → Step
from_top [] = fails
from_top (o ∷ os) = goes (record { stack = o ∷ os; pieces = o.others; rest = o.left })

abbrev pub go_behind : List Open → List Piece → Option (List ℕ) → Step
go_behind os pieces None = from_top (resume false os)
go_behind os pieces (Some left) = goes (record { stack = os; pieces = pieces; rest = left })

abbrev pub go_slot : List Open → ℕ → List Piece → List ℕ → Option (List ℕ) → Step
go_slot os slot pieces rest None = from_top (resume false (opened slot pieces rest ∷ os))
go_slot os slot pieces rest (Some text) = go_behind os pieces (behind text rest)

-- one piece more
abbrev pub step_at : List Open → List Piece → List ℕ → Step
step_at os [] [] = found os
step_at os [] (c ∷ cs) = from_top (resume false os)
step_at os (Letters letters ∷ pieces) rest = go_behind os pieces (behind letters rest)
step_at os (Slot slot ∷ pieces) rest = go_slot os slot pieces rest (text_in (fillings os) slot)

abbrev pub step : State → Step
step st = step_at st.stack st.pieces st.rest

-- where the search stands, with what it has come to
abbrev pub as_step : Status → State → Step
as_step Found st = found st.stack
as_step Fails st = fails
as_step Goes st = goes st
