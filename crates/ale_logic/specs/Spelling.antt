-- The words of phrases: a phrase is found to consist of pieces, words and other phrases, in order.
-- Source: this project's own.
use Rattle.std.specs.Prelude.{ℕ, zero, suc, eqb, List, [], ◌∷◌, ◌++◌, if◌then◌else◌}
use Rattle.ale_logic.specs.Programs.{Word}
use Rattle.ale_logic.specs.States.{Piece, word, phrase}

-- the words of pieces, one after the other, where `words` gives those of phrases
abbrev pub spell : (ℕ → List Word) → List Piece → List Word
spell words [] = []
spell words (word w ∷ ps) = w ∷ spell words ps
spell words (phrase g ∷ ps) = words g ++ spell words ps

-- the pieces of a phrase, where they were found; none, where they weren't
abbrev pub pieces_of : List (ℕ × List Piece) → ℕ → List Piece
pieces_of [] g = []
pieces_of (p ∷ ps) g = if eqb p.0 g then p.1 else pieces_of ps g

-- the words of a phrase, through at most so many phrases within phrases
abbrev pub spelled : ℕ → List (ℕ × List Piece) → ℕ → List Word
spelled zero said g = []
spelled (suc n) said g = spell (spelled n said) (pieces_of said g)
