-- What holds of the descriptions that templates stand for. Source: this project's own.
use Rattle.std.specs.Prelude.{◌≡◌, ℕ, ◌<◌, ◌≤◌, List, length}
use Rattle.ale_hierarchy.specs.Hierarchy.{Hierarchy}
use Rattle.ale_logic.specs.Descriptions as description
use Rattle.ale_logic.specs.Inequations.{HasNoInequation}
use Rattle.ale_macro.specs.Templates.{TemplateData, macro_at}
use Rattle.ale_macro.specs.Expansions as expansion
use Rattle.ale_macro.specs.Expansions.{Origin, Expansion}
use Rattle.ale_macro.specs.Expanding.{LibraryData, expanded, meaning, expansion}
use Rattle.ale_macro.specs.Slots.{numbered}
use Rattle.ale_macro.specs.Calls.{CallsKnown, IsLibrary, FitsTemplate, BodiesFit, IsPlainTemplate, BodiesArePlain}

-- a call stands for what the body of its macro stands for
abbrev pub CallsUnfold : Type 0
CallsUnfold =
    (library : LibraryData) → IsLibrary library → (m : ℕ) → m < length library.macros →
    (path : List ℕ) (args : List Expansion) →
    meaning library.lists library.macros m path args ≡ expanded library.lists (meaning library.lists library.macros) path args (macro_at library.macros m).body

-- the description of a template
abbrev pub described : LibraryData → List Origin → TemplateData → description.Description
described library met t = (numbered met (expansion library t)).0

-- the variables met behind it
abbrev pub met_behind : LibraryData → List Origin → TemplateData → List Origin
met_behind library met t = (numbered met (expansion library t)).1

-- it fits the signature, with the variables met behind it
abbrev pub DescriptionsFit : Type 0
DescriptionsFit =
    (h : Hierarchy) (library : LibraryData) (met : List Origin) (t : TemplateData) → IsLibrary library → CallsKnown library.macros t → BodiesFit h library.lists library.macros →
    FitsTemplate h library.lists t →
    description.FitsDescription h (length (met_behind library met t)) (described library met t)

-- it has no inequation where no template has one
abbrev pub DescriptionsArePlain : Type 0
DescriptionsArePlain =
    (library : LibraryData) (met : List Origin) (t : TemplateData) → IsLibrary library → CallsKnown library.macros t → BodiesArePlain library.macros → IsPlainTemplate t →
    HasNoInequation (described library met t)

pub record LibraryLaw : Type 0 where
  pub unfolds : CallsUnfold
  pub fits : DescriptionsFit
  pub plain : DescriptionsArePlain
  -- numbering changes no number of parts, and only adds variables
  pub parts : (met : List Origin) (e : Expansion) → description.parts (numbered met e).0 ≡ expansion.parts e
  pub grows : (met : List Origin) (e : Expansion) → length met ≤ length (numbered met e).1
