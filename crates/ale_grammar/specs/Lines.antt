-- Lines of morphology whose variables have numbers: those of the left side in order of first occurrence, each `_` one of its own.
-- Source: lexical rules in the ALE 3.2 User's Guide.
use Rattle.std.specs.Prelude.{ℕ, List, [], ◌∷◌}
use Rattle.ale_declaration.specs.declared.declaration.LinePart.{LinePart}
use Rattle.ale_declaration.specs.declared.declaration.LinePart.TheVariants as written
use Rattle.ale_declaration.specs.declared.declaration.MorphLine.{MorphLine}
use Rattle.ale_morph.specs.declared.line.Piece.{Piece}
use Rattle.ale_morph.specs.declared.line.Piece.TheVariants.{Letters, Slot}
use Rattle.ale_morph.specs.declared.line.Line.{Line}
use Rattle.ale_describe.specs.Variables.{slot_of, with_variable}

-- the pieces of a side, after the variables vs, and the variables after it
abbrev pub side_after : List (List ℕ) → List LinePart → List Piece × List (List ℕ)
side_after vs [] = ([], vs)
side_after vs (written.Piece letters ∷ ps) = (Letters letters ∷ (side_after vs ps).0, (side_after vs ps).1)
side_after vs (written.Slot x ∷ ps) =
    (Slot (slot_of vs x) ∷ (side_after (with_variable vs x) ps).0, (side_after (with_variable vs x) ps).1)

abbrev pub line_of : MorphLine → Line
line_of l = record { left = (side_after [] l.left).0; right = (side_after (side_after [] l.left).1 l.right).0 }
