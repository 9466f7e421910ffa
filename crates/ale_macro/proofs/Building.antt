-- What a library is built of.
use Rattle.std.proofs.Common.{◌≡◌, ℕ, ◌<◌, true, Option, List, length, map, sym, ap, ◌∙◌, subst, IsTrue}
use Rattle.std.proofs.lemmas.List.{length-map}
use Rattle.ale_relation.specs.Paths.{ends_below}
use Rattle.ale_logic.specs.Programs.{ListTypes}
use Rattle.ale_order.specs.Entries.{HasRight}
use Rattle.ale_order.specs.Orders.{IsOrder}
use Rattle.ale_macro.specs.declared.macros.Macro.{Macro}
use Rattle.ale_macro.specs.declared.tally.Tally.{Tally}
use Rattle.ale_macro.specs.declared.depth.Depth.{Depth}
use Rattle.ale_macro.specs.Templates.{MacroData, macro_data}
use Rattle.ale_macro.specs.Expanding.{LibraryData}
use Rattle.ale_macro.specs.Calls.{BodiesKnown, IsLibrary, calls_of}
use Rattle.ale_macro.specs.Projections.{IsEntry}
use Rattle.ale_macro.specs.Sizes.{IsTally, IsDepth}
use Rattle.ale_macro.specs.Tables.{AreTables}
use Rattle.ale_macro.proofs.Ends.{ends_are_below}
use Rattle.ale_macro.proofs.Measured.{are_measured}
use Rattle.ale_macro.proofs.Projected.{are_projections}

abbrev pub bodies : List Macro → List MacroData
bodies ms = map macro_data ms

pub calls_within : (ms ys : List Macro) (size : ℕ) (calls all : List (ℕ × ℕ)) → size ≡ length ms → calls ≡ all → all ≡ calls_of (bodies ys) → ys ≡ ms → BodiesKnown (bodies ms) (bodies ms) →
    ends_below size calls ≡ true
calls_within ms ys size calls all wide read made same known =
    let of : calls ≡ calls_of (bodies ms) = read ∙ (made ∙ ap (λ zs. calls_of (bodies zs)) same) in
    let long : size ≡ length (bodies ms) = wide ∙ sym (length-map ms macro_data) in
    ap (λ n. ends_below n calls) long ∙ (ap (ends_below (length (bodies ms))) of ∙ ends_are_below (bodies ms) known)

library_is : (l : ListTypes) (ms : List Macro) (order : List ℕ) → BodiesKnown (bodies ms) (bodies ms) → IsOrder (calls_of (bodies ms)) (length ms) order →
    IsLibrary (record { lists = l; macros = bodies ms })
library_is l ms order known is =
    record { known = known; order = order; in_order = subst (λ n. IsOrder (calls_of (bodies ms)) n order) (sym (length-map ms macro_data)) is }

-- a table that is right for the macros as they were read is right for them
abbrev pub AllRight : {T : Type 0} → (List MacroData → ℕ → List (Option T) → T → Type 0) → List Macro → List (Option T) → Type 0
AllRight {T} is_right ms table = (m : ℕ) → m < length ms → HasRight {T = T} (is_right (bodies ms)) table m

right_at : {T : Type 0} (is_right : List MacroData → ℕ → List (Option T) → T → Type 0) (ms ys : List Macro) (table : List (Option T)) → ys ≡ ms → AllRight {T = T} is_right ys table →
    (m : ℕ) → m < length (bodies ms) → HasRight {T = T} (is_right (bodies ms)) table m
right_at {T} is_right ms ys table same right m low =
    subst (λ zs. AllRight {T = T} is_right zs table) same right m (subst (λ n. m < n) (length-map ms macro_data) low)

pub tables_are : (l : ListTypes) (ms ys zs ws : List Macro) (order : List ℕ) (projections : List (Option (Option ℕ))) (tallies : List (Option Tally)) (depths : List (Option Depth)) →
    ys ≡ ms → zs ≡ ms → ws ≡ ms → BodiesKnown (bodies ms) (bodies ms) → IsOrder (calls_of (bodies ms)) (length ms) order →
    AllRight {T = Option ℕ} IsEntry ys projections → AllRight {T = Tally} IsTally zs tallies → AllRight {T = Depth} IsDepth ws depths →
    AreTables (record { lists = l; macros = bodies ms }) projections tallies depths
tables_are l ms ys zs ws order projections tallies depths first second third known is right counted reached =
    let library : LibraryData = record { lists = l; macros = bodies ms } in
    let lawful : IsLibrary library = library_is l ms order known is in
    record {
      is = lawful;
      project = are_projections library lawful projections (right_at {T = Option ℕ} IsEntry ms ys projections first right);
      measure = are_measured library lawful tallies depths (right_at {T = Tally} IsTally ms zs tallies second counted) (right_at {T = Depth} IsDepth ms ws depths third reached);
    }
