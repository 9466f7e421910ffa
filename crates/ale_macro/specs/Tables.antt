-- What a library keeps of its macros beside them. Source: this project's own.
use Rattle.std.specs.Prelude.{◌≡◌, ℕ, ◌<◌, Option, Some, List, [], ◌∷◌, length}
use Rattle.ale_macro.specs.declared.tally.Tally.{Tally}
use Rattle.ale_macro.specs.declared.depth.Depth.{Depth}
use Rattle.ale_macro.specs.Templates.{TemplateData}
use Rattle.ale_macro.specs.Expansions.{Expansion, parts, nesting}
use Rattle.ale_macro.specs.Expanding.{LibraryData, IsProjection, expansion}
use Rattle.ale_macro.specs.Calls.{CallsKnown, IsLibrary}
use Rattle.ale_macro.specs.Projections.{entry_at}
use Rattle.ale_macro.specs.Sizes.{Near, parts_by, tallied_by, nesting_by, reached_by}

-- sizes near to those of these
abbrev pub AreNear : ℕ → (Expansion → ℕ) → List ℕ → List Expansion → Type 0
AreNear limit size [] [] = Unit {0}
AreNear limit size [] (e ∷ es) = ⊥
AreNear limit size (x ∷ xs) [] = ⊥
AreNear limit size (x ∷ xs) (e ∷ es) = Near limit x (size e) × AreNear limit size xs es

-- what the tables say of the template is near to what it stands for
pub record IsMeasured (tallies : List (Option Tally)) (depths : List (Option Depth)) (library : LibraryData) (t : TemplateData) : Type 0 where
  pub counts : Near 100001 (parts_by (tallied_by tallies) [] t) (parts (expansion library t))
  pub reaches : Near 4001 (nesting_by (reached_by depths) [] t) (nesting (expansion library t))

pub record AreTables (library : LibraryData) (projections : List (Option (Option ℕ))) (tallies : List (Option Tally)) (depths : List (Option Depth)) : Type 0 where
  pub is : IsLibrary library
  pub project : (m j : ℕ) → m < length library.macros → entry_at projections m ≡ Some j → IsProjection library m j
  pub measure : (t : TemplateData) → CallsKnown library.macros t → IsMeasured tallies depths library t
