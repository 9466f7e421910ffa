-- Laws of morphology.
-- Source: this project's own.
use Rattle.std.specs.Prelude.{◌≡◌, ℕ, Option, List}
use Rattle.ale_morph.specs.declared.line.Line.{Line}
use Rattle.ale_morph.specs.Fits.{Becomes}
use Rattle.ale_morph.specs.Search.{becomes}
use Rattle.ale_morph.specs.Bound.{AreBound}

-- a word becomes what the search finds
abbrev pub SearchIsMeant : Type 0
SearchIsMeant = (lines : List Line) (word : List ℕ) → Becomes lines word (becomes lines word)

-- and nothing else
abbrev pub OneAnswer : Type 0
OneAnswer =
    (lines : List Line) (word : List ℕ) (one two : Option (List ℕ)) → AreBound lines
    → Becomes lines word one → Becomes lines word two → one ≡ two
