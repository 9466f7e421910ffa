-- Numbering the variables of a description: its slots are below the number of variables met, its parts stay as many.
use Rattle.std.proofs.Common.{◌≡◌, ℕ, suc, ◌+◌, ◌<◌, ◌≤◌, Bool, true, false, if◌then◌else◌, List, [], ◌∷◌, length, refl, ap, ◌∙◌, arith, le_trans}
use Rattle.ale_hierarchy.specs.Hierarchy.{Hierarchy}
use Rattle.ale_logic.specs.Descriptions as description
use Rattle.ale_logic.specs.Descriptions.{FitsDescription, FitDescriptions}
use Rattle.ale_macro.specs.Expansions as expansion
use Rattle.ale_macro.specs.Expansions.{Origin, Expansion, Expansions, of_type, variable, at, all, any, differs, path_equation, none, more}
use Rattle.ale_macro.specs.Slots.{same_origin, slot_of, with_variable, numbered, all_numbered}
use Rattle.ale_macro.specs.Laws.{DescriptionsFit}
use Rattle.ale_macro.specs.Expanding.{expansion}
use Rattle.ale_macro.proofs.Fits.{FitsExpansion, FitExpansions, expansion_fits}

slot_below : (vs : List Origin) (v : Origin) → slot_of vs v < length (with_variable vs v)
slot_below [] v = omega arith
slot_below (u ∷ us) v = go (same_origin v u) (slot_below us v)
  where
    go : (b : Bool) → slot_of us v < length (with_variable us v) →
        (if b then 0 else suc (slot_of us v)) < length (if b then u ∷ us else u ∷ with_variable us v)
    go true less = omega arith
    go false less = omega arith

variables_grow : (vs : List Origin) (v : Origin) → length vs ≤ length (with_variable vs v)
variables_grow [] v = omega arith
variables_grow (u ∷ us) v = go (same_origin v u) (variables_grow us v)
  where
    go : (b : Bool) → length us ≤ length (with_variable us v) → length (u ∷ us) ≤ length (if b then u ∷ us else u ∷ with_variable us v)
    go true less = omega arith
    go false less = omega arith

mutual
  pub met_grow : (vs : List Origin) (e : Expansion) → length vs ≤ length (numbered vs e).1
  met_grow vs (of_type t) = omega arith
  met_grow vs (variable v) = variables_grow vs v
  met_grow vs (at f e) = met_grow vs e
  met_grow vs (all es) = all_met_grow vs es
  met_grow vs (any es) = all_met_grow vs es
  met_grow vs (differs e) = met_grow vs e
  met_grow vs (path_equation p q) = omega arith

  all_met_grow : (vs : List Origin) (es : Expansions) → length vs ≤ length (all_numbered vs es).1
  all_met_grow vs none = omega arith
  all_met_grow vs (more e es) = le_trans (met_grow vs e) (all_met_grow (numbered vs e).1 es)

mutual
  numbered_fits : (h : Hierarchy) (n : ℕ) (vs : List Origin) (e : Expansion) → length (numbered vs e).1 ≤ n → FitsExpansion h e → FitsDescription h n (numbered vs e).0
  numbered_fits h n vs (of_type t) few fits = fits
  numbered_fits h n vs (variable v) few fits = let below = slot_below vs v in omega arith
  numbered_fits h n vs (at f e) few fits = (fits.0, numbered_fits h n vs e few fits.1)
  numbered_fits h n vs (all es) few fits = all_numbered_fits h n vs es few fits
  numbered_fits h n vs (any es) few fits = all_numbered_fits h n vs es few fits
  numbered_fits h n vs (differs e) few fits = numbered_fits h n vs e few fits
  numbered_fits h n vs (path_equation p q) few fits = fits

  all_numbered_fits : (h : Hierarchy) (n : ℕ) (vs : List Origin) (es : Expansions) → length (all_numbered vs es).1 ≤ n → FitExpansions h es → FitDescriptions h n (all_numbered vs es).0
  all_numbered_fits h n vs none few fits = tt
  all_numbered_fits h n vs (more e es) few fits =
      (numbered_fits h n vs e (le_trans (all_met_grow (numbered vs e).1 es) few) fits.0, all_numbered_fits h n (numbered vs e).1 es few fits.1)

pub descriptions_fit : DescriptionsFit
descriptions_fit h library met t is known bodies fits =
    numbered_fits h (length (numbered met (expansion library t)).1) met (expansion library t) (omega arith) (expansion_fits h library t is known bodies fits)

mutual
  pub same_parts : (vs : List Origin) (e : Expansion) → description.parts (numbered vs e).0 ≡ expansion.parts e
  same_parts vs (of_type t) = refl
  same_parts vs (variable v) = refl
  same_parts vs (at f e) = ap suc (same_parts vs e)
  same_parts vs (all es) = ap suc (same_parts_of_all vs es)
  same_parts vs (any es) = ap suc (same_parts_of_all vs es)
  same_parts vs (differs e) = ap suc (same_parts vs e)
  same_parts vs (path_equation p q) = refl

  same_parts_of_all : (vs : List Origin) (es : Expansions) → description.parts_of_all (all_numbered vs es).0 ≡ expansion.parts_of_all es
  same_parts_of_all vs none = refl
  same_parts_of_all vs (more e es) =
      ap (λ n. n + description.parts_of_all (all_numbered (numbered vs e).1 es).0) (same_parts vs e)
      ∙ ap (λ n. expansion.parts e + n) (same_parts_of_all (numbered vs e).1 es)
