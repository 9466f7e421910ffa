-- Keys as pairs of the place of a name among names and a number of arguments.
-- Source: this project's own.
use Rattle.std.specs.Prelude.{◌≡◌, ℕ, Some, List, [], ◌∷◌}
use Rattle.ale_declared.specs.Names.{named, name_of}
use Rattle.ale_vocabulary.specs.Keys.{key}

abbrev pub keys_of : List (List ℕ) → List (ℕ × ℕ) → List (List ℕ)
keys_of names [] = []
keys_of names (p ∷ ps) = key (name_of names p.0) p.1 ∷ keys_of names ps

-- each is of a name at its first place
abbrev pub ArePaired : List (List ℕ) → List (ℕ × ℕ) → Type 0
ArePaired names [] = Unit {0}
ArePaired names (p ∷ ps) = (named names (name_of names p.0) ≡ Some p.0) × ArePaired names ps
