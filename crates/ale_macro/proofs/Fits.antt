-- What templates stand for fits the signature where they do.
use Rattle.std.proofs.Common.{ℕ, zero, suc, ◌<◌, List, [], ◌∷◌, length, get_or, refl, sym, subst, inl, inr, arith}
use Rattle.ale_relation.specs.Has.{Has}
use Rattle.ale_declared.proofs.ListLemmas.{Has-append_left, Has-append_right, Has-append_cases}
use Rattle.ale_hierarchy.specs.Hierarchy.{Hierarchy}
use Rattle.ale_logic.specs.Descriptions.{FitsPath}
use Rattle.ale_logic.specs.Fitting.{FitLists}
use Rattle.ale_logic.specs.Programs.{ListTypes}
use Rattle.ale_macro.specs.Templates as template
use Rattle.ale_macro.specs.Templates.{TemplateData, TemplatesData, MacroData, macro_at}
use Rattle.ale_macro.specs.Expansions.{Expansion, Expansions, of_type, variable, at, all, any, differs, path_equation, none, more, expansions_of}
use Rattle.ale_macro.specs.Expanding.{LibraryData, Meaning, list_of, expanded, all_expanded, meaning, expansion}
use Rattle.ale_macro.specs.Calls.{calls_in, calls_in_all, CallsKnown, AllCallsKnown, IsLibrary, FitsTemplate, FitTemplates, BodiesFit}
use Rattle.ale_macro.proofs.Unfolding.{each_macro, unfolds}

abbrev mutual
  pub FitsExpansion : Hierarchy → Expansion → Type 0
  FitsExpansion h (of_type t) = t < h.types
  FitsExpansion h (variable v) = Unit {0}
  FitsExpansion h (at f e) = (f < h.features) × FitsExpansion h e
  FitsExpansion h (all es) = FitExpansions h es
  FitsExpansion h (any es) = FitExpansions h es
  FitsExpansion h (differs e) = FitsExpansion h e
  FitsExpansion h (path_equation p q) = FitsPath h p × FitsPath h q

  pub FitExpansions : Hierarchy → Expansions → Type 0
  FitExpansions h none = Unit {0}
  FitExpansions h (more e es) = FitsExpansion h e × FitExpansions h es

-- so does each of these
abbrev pub EachFits : Hierarchy → List Expansion → Type 0
EachFits h [] = Unit {0}
EachFits h (e ∷ es) = FitsExpansion h e × EachFits h es

fit_together : (h : Hierarchy) (es : List Expansion) → EachFits h es → FitExpansions h (expansions_of es)
fit_together h [] ok = tt
fit_together h (e ∷ es) ok = (ok.0, fit_together h es ok.1)

fits_at : (h : Hierarchy) (args : List Expansion) (v : ℕ) (other : Expansion) → EachFits h args → FitsExpansion h other → FitsExpansion h (get_or args v other)
fits_at h [] v other ok fits = fits
fits_at h (a ∷ args) zero other ok fits = ok.0
fits_at h (a ∷ args) (suc v) other ok fits = fits_at h args v other ok.1 fits

fits_list : (h : Hierarchy) (l : ListTypes) → FitLists h l → (es : List Expansion) (end : Expansion) → EachFits h es → FitsExpansion h end → FitsExpansion h (list_of l es end)
fits_list h l fits [] end ok last = last
fits_list h l fits (e ∷ es) end ok last =
    (fits.ne_list, ((fits.hd.0, ok.0), ((fits.tl.0, fits_list h l fits es end ok.1 last), tt)))

abbrev pub FitsCall : Hierarchy → Meaning → ℕ → Type 0
FitsCall h calls k = (path : List ℕ) (args : List Expansion) → EachFits h args → FitsExpansion h (calls k path args)

mutual
  fits_expanded : (h : Hierarchy) (l : ListTypes) (calls : Meaning) (path : List ℕ) (args : List Expansion) → EachFits h args → (t : TemplateData) →
      ((k : ℕ) → Has (calls_in t) k → FitsCall h calls k) → FitsTemplate h l t → FitsExpansion h (expanded l calls path args t)
  fits_expanded h l calls path args given (template.of_type t) ok fits = fits
  fits_expanded h l calls path args given (template.variable v) ok fits = fits_at h args v (variable (path, v)) given tt
  fits_expanded h l calls path args given (template.at f t) ok fits = (fits.0, fits_expanded h l calls path args given t ok fits.1)
  fits_expanded h l calls path args given (template.all ts) ok fits =
      fit_together h (all_expanded l calls path args ts) (fit_expanded h l calls path args given ts ok fits)
  fits_expanded h l calls path args given (template.any ts) ok fits =
      fit_together h (all_expanded l calls path args ts) (fit_expanded h l calls path args given ts ok fits)
  fits_expanded h l calls path args given (template.differs t) ok fits = fits_expanded h l calls path args given t ok fits
  fits_expanded h l calls path args given (template.path_equation p q) ok fits = fits
  fits_expanded h l calls path args given (template.call k m ts) ok fits =
      ok m (inl refl) (k ∷ path) (all_expanded l calls path args ts) (fit_expanded h l calls path args given ts (λ n there. ok n (inr there)) fits)
  fits_expanded h l calls path args given (template.cells ts t) ok fits =
      fits_list h l fits.0 (all_expanded l calls path args ts) (expanded l calls path args t)
      (fit_expanded h l calls path args given ts (λ n there. ok n (Has-append_left (calls_in_all ts) (calls_in t) n there)) fits.1)
      (fits_expanded h l calls path args given t (λ n there. ok n (Has-append_right (calls_in_all ts) (calls_in t) n there)) fits.2)

  fit_expanded : (h : Hierarchy) (l : ListTypes) (calls : Meaning) (path : List ℕ) (args : List Expansion) → EachFits h args → (ts : TemplatesData) →
      ((k : ℕ) → Has (calls_in_all ts) k → FitsCall h calls k) → FitTemplates h l ts → EachFits h (all_expanded l calls path args ts)
  fit_expanded h l calls path args given template.none ok fits = tt
  fit_expanded h l calls path args given (template.more t ts) ok fits = (
    fits_expanded h l calls path args given t (λ n there. ok n (Has-append_left (calls_in t) (calls_in_all ts) n there)) fits.0,
    fit_expanded h l calls path args given ts (λ n there. ok n (Has-append_right (calls_in t) (calls_in_all ts) n there)) fits.1,
  )

-- the macros that are called are there
mutual
  pub known_below : (ms : List MacroData) (t : TemplateData) → CallsKnown ms t → (k : ℕ) → Has (calls_in t) k → k < length ms
  known_below ms (template.of_type t) known k there = absurd there
  known_below ms (template.variable v) known k there = absurd there
  known_below ms (template.at f t) known k there = known_below ms t known k there
  known_below ms (template.all ts) known k there = all_known_below ms ts known k there
  known_below ms (template.any ts) known k there = all_known_below ms ts known k there
  known_below ms (template.differs t) known k there = known_below ms t known k there
  known_below ms (template.path_equation p q) known k there = absurd there
  known_below ms (template.call n m ts) known k (inl e) = subst (λ z. z < length ms) (sym e) known.0
  known_below ms (template.call n m ts) known k (inr there) = all_known_below ms ts known.2 k there
  known_below ms (template.cells ts t) known k there =
      elim (Has-append_cases (calls_in_all ts) (calls_in t) k there) [
        | inl here ↦ all_known_below ms ts known.0 k here
        | inr here ↦ known_below ms t known.1 k here
      ]

  pub all_known_below : (ms : List MacroData) (ts : TemplatesData) → AllCallsKnown ms ts → (k : ℕ) → Has (calls_in_all ts) k → k < length ms
  all_known_below ms template.none known k there = absurd there
  all_known_below ms (template.more t ts) known k there =
      elim (Has-append_cases (calls_in t) (calls_in_all ts) k there) [
        | inl here ↦ known_below ms t known.0 k here
        | inr here ↦ all_known_below ms ts known.1 k here
      ]

body_fits : (h : Hierarchy) (l : ListTypes) (ms : List MacroData) → BodiesFit h l ms → (m : ℕ) → m < length ms → FitsTemplate h l (macro_at ms m).body
body_fits h l [] fits m low = absurd (omega arith)
body_fits h l (x ∷ xs) fits zero low = fits.0
body_fits h l (x ∷ xs) fits (suc m) low = body_fits h l xs fits.1 m (omega arith)

pub expansion_fits : (h : Hierarchy) (library : LibraryData) (t : TemplateData) → IsLibrary library → CallsKnown library.macros t → BodiesFit h library.lists library.macros →
    FitsTemplate h library.lists t → FitsExpansion h (expansion library t)
expansion_fits h library t is known bodies fits =
    let each : (m : ℕ) → m < length library.macros → FitsCall h (meaning library.lists library.macros) m =
    each_macro library is (FitsCall h (meaning library.lists library.macros))
    (λ m low ok path args given.
    subst (FitsExpansion h) (sym (unfolds library is m low path args))
    (fits_expanded h library.lists (meaning library.lists library.macros) path args given (macro_at library.macros m).body ok
    (body_fits h library.lists library.macros bodies m low))) in
    fits_expanded h library.lists (meaning library.lists library.macros) [] [] tt t (λ k there. each k (known_below library.macros t known k there)) fits
