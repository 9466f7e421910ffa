-- Lines in which each slot of the right side stands in the left side.
-- Source: this project's own.
use Rattle.std.specs.Prelude.{ℕ, Bool, true, false, ◌||◌, ◌&&◌, eqb, IsTrue, List, [], ◌∷◌}
use Rattle.ale_morph.specs.declared.line.Piece.{Piece}
use Rattle.ale_morph.specs.declared.line.Piece.TheVariants.{Letters, Slot}
use Rattle.ale_morph.specs.declared.line.Line.{Line}

-- the slot is one of the pieces
abbrev pub stands : ℕ → List Piece → Bool
stands slot [] = false
stands slot (Letters letters ∷ pieces) = stands slot pieces
stands slot (Slot other ∷ pieces) = eqb other slot || stands slot pieces

-- each slot of the right side stands in the left side
abbrev pub stand_in : List Piece → List Piece → Bool
stand_in [] left = true
stand_in (Letters letters ∷ right) left = stand_in right left
stand_in (Slot slot ∷ right) left = stands slot left && stand_in right left

abbrev pub is_bound : Line → Bool
is_bound line = stand_in line.right line.left

abbrev pub are_bound : List Line → Bool
are_bound [] = true
are_bound (line ∷ lines) = is_bound line && are_bound lines

abbrev pub IsBound : Line → Type 0
IsBound line = IsTrue (is_bound line)

abbrev pub AreBound : List Line → Type 0
AreBound lines = IsTrue (are_bound lines)
