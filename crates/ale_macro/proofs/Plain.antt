-- What templates stand for has no inequation where they have none.
use Rattle.std.proofs.Common.{ℕ, zero, suc, ◌<◌, List, [], ◌∷◌, length, get_or, refl, sym, subst, inl, inr, arith}
use Rattle.ale_relation.specs.Has.{Has}
use Rattle.ale_declared.proofs.ListLemmas.{Has-append_left, Has-append_right}
use Rattle.ale_logic.specs.Inequations.{HasNoInequation, HaveNoInequation}
use Rattle.ale_logic.specs.Programs.{ListTypes}
use Rattle.ale_macro.specs.Templates as template
use Rattle.ale_macro.specs.Templates.{TemplateData, TemplatesData, MacroData, macro_at}
use Rattle.ale_macro.specs.Expansions.{Origin, Expansion, Expansions, of_type, variable, at, all, any, differs, path_equation, none, more, expansions_of}
use Rattle.ale_macro.specs.Expanding.{Meaning, list_of, expanded, all_expanded, meaning, expansion}
use Rattle.ale_macro.specs.Slots.{numbered, all_numbered}
use Rattle.ale_macro.specs.Calls.{calls_in, calls_in_all, IsPlainTemplate, ArePlainTemplates, BodiesArePlain}
use Rattle.ale_macro.specs.Laws.{DescriptionsArePlain}
use Rattle.ale_macro.proofs.Fits.{known_below}
use Rattle.ale_macro.proofs.Unfolding.{each_macro, unfolds}

abbrev mutual
  IsPlain : Expansion → Type 0
  IsPlain (of_type t) = Unit {0}
  IsPlain (variable v) = Unit {0}
  IsPlain (at f e) = IsPlain e
  IsPlain (all es) = ArePlain es
  IsPlain (any es) = ArePlain es
  IsPlain (differs e) = ⊥
  IsPlain (path_equation p q) = Unit {0}

  ArePlain : Expansions → Type 0
  ArePlain none = Unit {0}
  ArePlain (more e es) = IsPlain e × ArePlain es

abbrev EachIsPlain : List Expansion → Type 0
EachIsPlain [] = Unit {0}
EachIsPlain (e ∷ es) = IsPlain e × EachIsPlain es

plain_together : (es : List Expansion) → EachIsPlain es → ArePlain (expansions_of es)
plain_together [] ok = tt
plain_together (e ∷ es) ok = (ok.0, plain_together es ok.1)

plain_at : (args : List Expansion) (v : ℕ) (other : Expansion) → EachIsPlain args → IsPlain other → IsPlain (get_or args v other)
plain_at [] v other ok plain = plain
plain_at (a ∷ args) zero other ok plain = ok.0
plain_at (a ∷ args) (suc v) other ok plain = plain_at args v other ok.1 plain

plain_list : (l : ListTypes) (es : List Expansion) (end : Expansion) → EachIsPlain es → IsPlain end → IsPlain (list_of l es end)
plain_list l [] end ok last = last
plain_list l (e ∷ es) end ok last = (tt, (ok.0, (plain_list l es end ok.1 last, tt)))

abbrev CallIsPlain : Meaning → ℕ → Type 0
CallIsPlain calls k = (path : List ℕ) (args : List Expansion) → EachIsPlain args → IsPlain (calls k path args)

mutual
  plain_expanded : (l : ListTypes) (calls : Meaning) (path : List ℕ) (args : List Expansion) → EachIsPlain args → (t : TemplateData) →
      ((k : ℕ) → Has (calls_in t) k → CallIsPlain calls k) → IsPlainTemplate t → IsPlain (expanded l calls path args t)
  plain_expanded l calls path args given (template.of_type t) ok plain = tt
  plain_expanded l calls path args given (template.variable v) ok plain = plain_at args v (variable (path, v)) given tt
  plain_expanded l calls path args given (template.at f t) ok plain = plain_expanded l calls path args given t ok plain
  plain_expanded l calls path args given (template.all ts) ok plain =
      plain_together (all_expanded l calls path args ts) (each_plain l calls path args given ts ok plain)
  plain_expanded l calls path args given (template.any ts) ok plain =
      plain_together (all_expanded l calls path args ts) (each_plain l calls path args given ts ok plain)
  plain_expanded l calls path args given (template.differs t) ok plain = absurd plain
  plain_expanded l calls path args given (template.path_equation p q) ok plain = tt
  plain_expanded l calls path args given (template.call k m ts) ok plain =
      ok m (inl refl) (k ∷ path) (all_expanded l calls path args ts) (each_plain l calls path args given ts (λ n there. ok n (inr there)) plain)
  plain_expanded l calls path args given (template.cells ts t) ok plain =
      plain_list l (all_expanded l calls path args ts) (expanded l calls path args t)
      (each_plain l calls path args given ts (λ n there. ok n (Has-append_left (calls_in_all ts) (calls_in t) n there)) plain.0)
      (plain_expanded l calls path args given t (λ n there. ok n (Has-append_right (calls_in_all ts) (calls_in t) n there)) plain.1)

  each_plain : (l : ListTypes) (calls : Meaning) (path : List ℕ) (args : List Expansion) → EachIsPlain args → (ts : TemplatesData) →
      ((k : ℕ) → Has (calls_in_all ts) k → CallIsPlain calls k) → ArePlainTemplates ts → EachIsPlain (all_expanded l calls path args ts)
  each_plain l calls path args given template.none ok plain = tt
  each_plain l calls path args given (template.more t ts) ok plain = (
    plain_expanded l calls path args given t (λ n there. ok n (Has-append_left (calls_in t) (calls_in_all ts) n there)) plain.0,
    each_plain l calls path args given ts (λ n there. ok n (Has-append_right (calls_in t) (calls_in_all ts) n there)) plain.1,
  )

body_plain : (ms : List MacroData) → BodiesArePlain ms → (m : ℕ) → m < length ms → IsPlainTemplate (macro_at ms m).body
body_plain [] plain m low = absurd (omega arith)
body_plain (x ∷ xs) plain zero low = plain.0
body_plain (x ∷ xs) plain (suc m) low = body_plain xs plain.1 m (omega arith)

mutual
  numbered_plain : (vs : List Origin) (e : Expansion) → IsPlain e → HasNoInequation (numbered vs e).0
  numbered_plain vs (of_type t) plain = tt
  numbered_plain vs (variable v) plain = tt
  numbered_plain vs (at f e) plain = numbered_plain vs e plain
  numbered_plain vs (all es) plain = all_numbered_plain vs es plain
  numbered_plain vs (any es) plain = all_numbered_plain vs es plain
  numbered_plain vs (differs e) plain = absurd plain
  numbered_plain vs (path_equation p q) plain = tt

  all_numbered_plain : (vs : List Origin) (es : Expansions) → ArePlain es → HaveNoInequation (all_numbered vs es).0
  all_numbered_plain vs none plain = tt
  all_numbered_plain vs (more e es) plain = (numbered_plain vs e plain.0, all_numbered_plain (numbered vs e).1 es plain.1)

pub descriptions_plain : DescriptionsArePlain
descriptions_plain library met t is known bodies plain =
    let each : (m : ℕ) → m < length library.macros → CallIsPlain (meaning library.lists library.macros) m =
    each_macro library is (CallIsPlain (meaning library.lists library.macros))
    (λ m low ok path args given.
    subst IsPlain (sym (unfolds library is m low path args))
    (plain_expanded library.lists (meaning library.lists library.macros) path args given (macro_at library.macros m).body ok
    (body_plain library.macros bodies m low))) in
    numbered_plain met (expansion library t)
    (plain_expanded library.lists (meaning library.lists library.macros) [] [] tt t (λ k there. each k (known_below library.macros t known k there)) plain)
