-- Declarations with their numbers, counted from 1, and those before them. Source: this project's own.
use Rattle.std.specs.Prelude.{ℕ, suc, List, [], ◌∷◌, ◌++◌}
use Rattle.ale_declaration.specs.Declarations.{DeclarationData}

pub record Place : Type 0 where
  pub number : ℕ
  pub before : List DeclarationData
  pub declaration : DeclarationData

abbrev pub places_from : ℕ → List DeclarationData → List DeclarationData → List Place
places_from k before [] = []
places_from k before (d ∷ ds) =
    record { number = k; before = before; declaration = d } ∷ places_from (suc k) (before ++ d ∷ []) ds

abbrev pub places : List DeclarationData → List Place
places ds = places_from 1 [] ds
