-- A macro with a projection stands for that argument of it.
use Rattle.std.proofs.Common.{◌≡◌, ℕ, zero, suc, ◌<◌, if◌then◌else◌, nat_lt, Option, Some, None, List, [], ◌∷◌, length, get_or, refl, sym, ap, ◌∙◌, subst, inl, inr, arith}
use Rattle.std.proofs.lemmas.Bool.{cases_Bool, ltb-true}
use Rattle.ale_relation.specs.Has.{Has}
use Rattle.ale_declared.proofs.ListLemmas.{Has-append_left, Has-append_right}
use Rattle.ale_logic.specs.Programs.{ListTypes}
use Rattle.ale_order.specs.Entries.{HasRight}
use Rattle.ale_macro.specs.Templates as template
use Rattle.ale_macro.specs.Templates.{TemplateData, TemplatesData, MacroData, macro_at, how_many}
use Rattle.ale_macro.specs.Expansions.{Expansion, variable}
use Rattle.ale_macro.specs.Expanding.{LibraryData, Meaning, IsProjection, expanded, all_expanded, meaning}
use Rattle.ale_macro.specs.Calls.{calls_in, calls_in_all, CallsKnown, AllCallsKnown, BodiesKnown, IsLibrary}
use Rattle.ale_macro.specs.Projections.{projected, projected_arg, entry, entry_at, IsEntry}
use Rattle.ale_macro.proofs.Unfolding.{each_macro, unfolds}

pub body_known : (ms xs : List MacroData) → BodiesKnown ms xs → (m : ℕ) → m < length xs → CallsKnown ms (macro_at xs m).body
body_known ms [] known m low = absurd (omega arith)
body_known ms (x ∷ xs) known zero low = known.0
body_known ms (x ∷ xs) known (suc m) low = body_known ms xs known.1 m (omega arith)

pub same_count : (l : ListTypes) (calls : Meaning) (path : List ℕ) (args : List Expansion) (ts : TemplatesData) → length (all_expanded l calls path args ts) ≡ how_many ts
same_count l calls path args template.none = refl
same_count l calls path args (template.more t ts) = ap suc (same_count l calls path args ts)

whatever_else : (args : List Expansion) (v : ℕ) (d e : Expansion) → v < length args → get_or args v d ≡ get_or args v e
whatever_else [] v d e low = absurd (omega arith)
whatever_else (a ∷ args) zero d e low = refl
whatever_else (a ∷ args) (suc v) d e low = whatever_else args v d e (omega arith)

if_below : (n v j : ℕ) → (if nat_lt v n then Some v else None) ≡ Some j → (v < n) × (v ≡ j)
if_below n v j e =
    elim (cases_Bool (nat_lt v n)) [
      | inl t ↦ let found : Some v ≡ Some j = rw t at e in (ltb-true v n t, cc)
      | inr f ↦ let found : None ≡ Some j = rw f at e in absurd cc
    ]

mutual
  below : (known : ℕ → Option ℕ) (n : ℕ) (t : TemplateData) (j : ℕ) → projected known n t ≡ Some j → j < n
  below known n (template.of_type t) j e = absurd cc
  below known n (template.variable v) j e = let both = if_below n v j e in subst (λ z. z < n) both.1 both.0
  below known n (template.at f t) j e = absurd cc
  below known n (template.all ts) j e = absurd cc
  below known n (template.any ts) j e = absurd cc
  below known n (template.differs t) j e = absurd cc
  below known n (template.path_equation p q) j e = absurd cc
  below known n (template.call k m ts) j e = below_arg known n ts (known m) j e
  below known n (template.cells ts t) j e = absurd cc

  below_arg : (known : ℕ → Option ℕ) (n : ℕ) (ts : TemplatesData) (place : Option ℕ) (j : ℕ) → projected_arg known n ts place ≡ Some j → j < n
  below_arg known n template.none place j e = absurd cc
  below_arg known n (template.more t ts) None j e = absurd cc
  below_arg known n (template.more t ts) (Some zero) j e = below known n t j e
  below_arg known n (template.more t ts) (Some (suc i)) j e = below_arg known n ts (Some i) j e

-- such an argument is at some place
at_place : (known : ℕ → Option ℕ) (n : ℕ) (ts : TemplatesData) (place : Option ℕ) (j : ℕ) → projected_arg known n ts place ≡ Some j → (i : ℕ) × (place ≡ Some i)
at_place known n template.none place j e = absurd cc
at_place known n (template.more t ts) None j e = absurd cc
at_place known n (template.more t ts) (Some i) j e = (i, refl)

-- a call stands for the argument that is known of it
abbrev pub IsSound : List MacroData → Meaning → (ℕ → Option ℕ) → ℕ → Type 0
IsSound ms calls known k =
    (i : ℕ) → known k ≡ Some i → (path : List ℕ) (args : List Expansion) (other : Expansion) → length args ≡ (macro_at ms k).parameters → calls k path args ≡ get_or args i other

module _ (l : ListTypes) (ms : List MacroData) (calls : Meaning) (known : ℕ → Option ℕ) (path : List ℕ) (args : List Expansion) where
  mutual
    sound : (t : TemplateData) → CallsKnown ms t → ((k : ℕ) → Has (calls_in t) k → IsSound ms calls known k) → (j : ℕ) →
        projected known (length args) t ≡ Some j → (other : Expansion) → expanded l calls path args t ≡ get_or args j other
    sound (template.of_type t) there ok j e other = absurd cc
    sound (template.variable v) there ok j e other =
        let both = if_below (length args) v j e in
        whatever_else args v (variable (path, v)) other both.0 ∙ ap (λ z. get_or args z other) both.1
    sound (template.at f t) there ok j e other = absurd cc
    sound (template.all ts) there ok j e other = absurd cc
    sound (template.any ts) there ok j e other = absurd cc
    sound (template.differs t) there ok j e other = absurd cc
    sound (template.path_equation p q) there ok j e other = absurd cc
    sound (template.call k m ts) there ok j e other =
        let place = at_place known (length args) ts (known m) j e in
        ok m (inl refl) place.0 place.1 (k ∷ path) (all_expanded l calls path args ts) other (same_count l calls path args ts ∙ there.1)
        ∙ sound_arg ts there.2 (λ n h. ok n (inr h)) place.0 j (ap (projected_arg known (length args) ts) (sym place.1) ∙ e) other
    sound (template.cells ts t) there ok j e other = absurd cc

    sound_arg : (ts : TemplatesData) → AllCallsKnown ms ts → ((k : ℕ) → Has (calls_in_all ts) k → IsSound ms calls known k) → (i j : ℕ) →
        projected_arg known (length args) ts (Some i) ≡ Some j → (other : Expansion) → get_or (all_expanded l calls path args ts) i other ≡ get_or args j other
    sound_arg template.none there ok i j e other = absurd cc
    sound_arg (template.more t ts) there ok zero j e other = sound t there.0 (λ n h. ok n (Has-append_left (calls_in t) (calls_in_all ts) n h)) j e other
    sound_arg (template.more t ts) there ok (suc i) j e other = sound_arg ts there.1 (λ n h. ok n (Has-append_right (calls_in t) (calls_in_all ts) n h)) i j e other

module _ (library : LibraryData) (is : IsLibrary library) (table : List (Option (Option ℕ)))
    (right : (m : ℕ) → m < length library.macros → HasRight {T = Option ℕ} (IsEntry library.macros) table m) where
  entry_is : (m : ℕ) → m < length library.macros → entry_at table m ≡ projected (entry_at table) (macro_at library.macros m).parameters (macro_at library.macros m).body
  entry_is m low = ap entry (right m low).1 ∙ (right m low).2

  all_sound : (m : ℕ) → m < length library.macros → IsSound library.macros (meaning library.lists library.macros) (entry_at table) m
  all_sound =
      each_macro library is (IsSound library.macros (meaning library.lists library.macros) (entry_at table))
      (λ m low ok i e path args other long.
      unfolds library is m low path args
      ∙ sound library.lists library.macros (meaning library.lists library.macros) (entry_at table) path args (macro_at library.macros m).body
      (body_known library.macros library.macros is.known m low) ok i
      (ap (λ n. projected (entry_at table) n (macro_at library.macros m).body) long ∙ (sym (entry_is m low) ∙ e)) other)

  pub are_projections : (m j : ℕ) → m < length library.macros → entry_at table m ≡ Some j → IsProjection library m j
  are_projections m j low e = record {
    within = below (entry_at table) (macro_at library.macros m).parameters (macro_at library.macros m).body j (sym (entry_is m low) ∙ e);
    same = λ path args other long. all_sound m low j e path args other long;
  }
