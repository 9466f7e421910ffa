-- How many parts a call of a macro has, and how deep it is nested, rests on the macros alone that its body calls.
use Rattle.std.specs.Prelude.{◌≡◌, ℕ, zero, suc, ◌+◌, min, max, Option, Some, None, List, [], ◌∷◌, ◌++◌, get_or, length, refl}
use Rattle.std.proofs.Common.{sym, ap, ◌∙◌, inl, inr}
use Rattle.ale_relation.specs.Has.{Has}
use Rattle.ale_declared.proofs.ListLemmas.{Has-append_left, Has-append_right}
use Rattle.ale_order.specs.Entries.{RestsOnCalled}
use Rattle.ale_macro.specs.declared.tally.Tally.{Tally}
use Rattle.ale_macro.specs.declared.depth.Depth.{Depth}
use Rattle.ale_macro.specs.Templates.{TemplateData, TemplatesData, MacroData, macro_at, of_type, variable, at, all, any, differs, path_equation, call, cells, none, more}
use Rattle.ale_macro.specs.Calls.{calls_in, calls_in_all, calls_of}
use Rattle.ale_macro.specs.Resting.{called_by}
use Rattle.ale_macro.specs.Sizes.{list_parts, parts_by, total_parts, each_parts, tallied_if, tallied_by, IsTally, list_nesting, nesting_by, deepest, each_nesting, reached_if, reached_by, IsDepth}

-- calls have as many
abbrev AlikeAt : (ℕ → List ℕ → ℕ) → (ℕ → List ℕ → ℕ) → ℕ → Type 0
AlikeAt calls others k = (ys : List ℕ) → calls k ys ≡ others k ys

mutual
  same_parts : (calls others : ℕ → List ℕ → ℕ) (xs : List ℕ) (t : TemplateData) → ((k : ℕ) → Has (calls_in t) k → AlikeAt calls others k) →
      parts_by calls xs t ≡ parts_by others xs t
  same_parts calls others xs (of_type t) ok = refl
  same_parts calls others xs (variable v) ok = refl
  same_parts calls others xs (at f t) ok = ap suc (same_parts calls others xs t ok)
  same_parts calls others xs (all ts) ok = ap suc (same_total calls others xs ts ok)
  same_parts calls others xs (any ts) ok = ap suc (same_total calls others xs ts ok)
  same_parts calls others xs (differs t) ok = ap suc (same_parts calls others xs t ok)
  same_parts calls others xs (path_equation p q) ok = refl
  same_parts calls others xs (call k m ts) ok =
      ap (calls m) (same_each calls others xs ts (λ n h. ok n (inr h))) ∙ ok m (inl refl) (each_parts others xs ts)
  same_parts calls others xs (cells ts t) ok =
      ap (λ ys. list_parts ys (parts_by calls xs t)) (same_each calls others xs ts (λ n h. ok n (Has-append_left (calls_in_all ts) (calls_in t) n h)))
      ∙ ap (list_parts (each_parts others xs ts)) (same_parts calls others xs t (λ n h. ok n (Has-append_right (calls_in_all ts) (calls_in t) n h)))

  same_total : (calls others : ℕ → List ℕ → ℕ) (xs : List ℕ) (ts : TemplatesData) → ((k : ℕ) → Has (calls_in_all ts) k → AlikeAt calls others k) →
      total_parts calls xs ts ≡ total_parts others xs ts
  same_total calls others xs none ok = refl
  same_total calls others xs (more t ts) ok =
      ap (λ n. n + total_parts calls xs ts) (same_parts calls others xs t (λ n h. ok n (Has-append_left (calls_in t) (calls_in_all ts) n h)))
      ∙ ap (λ n. parts_by others xs t + n) (same_total calls others xs ts (λ n h. ok n (Has-append_right (calls_in t) (calls_in_all ts) n h)))

  same_each : (calls others : ℕ → List ℕ → ℕ) (xs : List ℕ) (ts : TemplatesData) → ((k : ℕ) → Has (calls_in_all ts) k → AlikeAt calls others k) →
      each_parts calls xs ts ≡ each_parts others xs ts
  same_each calls others xs none ok = refl
  same_each calls others xs (more t ts) ok =
      ap (λ n. n ∷ each_parts calls xs ts) (same_parts calls others xs t (λ n h. ok n (Has-append_left (calls_in t) (calls_in_all ts) n h)))
      ∙ ap (λ ys. parts_by others xs t ∷ ys) (same_each calls others xs ts (λ n h. ok n (Has-append_right (calls_in t) (calls_in_all ts) n h)))

pub tallies_rest : (ms : List MacroData) → RestsOnCalled {T = Tally} (calls_of ms) (IsTally ms)
tallies_rest ms m table other e same is = (
  is.0,
  λ xs long. is.1 xs long ∙ ap (λ n. min n 100001)
      (same_parts (tallied_by table) (tallied_by other) xs (macro_at ms m).body (λ k h ys. ap (λ o. tallied_if o ys) (sym (same k (called_by ms m k h))))),
)

mutual
  same_nesting : (calls others : ℕ → List ℕ → ℕ) (xs : List ℕ) (t : TemplateData) → ((k : ℕ) → Has (calls_in t) k → AlikeAt calls others k) →
      nesting_by calls xs t ≡ nesting_by others xs t
  same_nesting calls others xs (of_type t) ok = refl
  same_nesting calls others xs (variable v) ok = refl
  same_nesting calls others xs (at f t) ok = ap suc (same_nesting calls others xs t ok)
  same_nesting calls others xs (all ts) ok = ap suc (same_deepest calls others xs ts ok)
  same_nesting calls others xs (any ts) ok = ap suc (same_deepest calls others xs ts ok)
  same_nesting calls others xs (differs t) ok = ap suc (same_nesting calls others xs t ok)
  same_nesting calls others xs (path_equation p q) ok = refl
  same_nesting calls others xs (call k m ts) ok =
      ap (calls m) (same_nestings calls others xs ts (λ n h. ok n (inr h))) ∙ ok m (inl refl) (each_nesting others xs ts)
  same_nesting calls others xs (cells ts t) ok =
      ap (λ ys. list_nesting ys (nesting_by calls xs t)) (same_nestings calls others xs ts (λ n h. ok n (Has-append_left (calls_in_all ts) (calls_in t) n h)))
      ∙ ap (list_nesting (each_nesting others xs ts)) (same_nesting calls others xs t (λ n h. ok n (Has-append_right (calls_in_all ts) (calls_in t) n h)))

  same_deepest : (calls others : ℕ → List ℕ → ℕ) (xs : List ℕ) (ts : TemplatesData) → ((k : ℕ) → Has (calls_in_all ts) k → AlikeAt calls others k) →
      deepest calls xs ts ≡ deepest others xs ts
  same_deepest calls others xs none ok = refl
  same_deepest calls others xs (more t ts) ok =
      ap (λ n. max n (deepest calls xs ts)) (same_nesting calls others xs t (λ n h. ok n (Has-append_left (calls_in t) (calls_in_all ts) n h)))
      ∙ ap (λ n. max (nesting_by others xs t) n) (same_deepest calls others xs ts (λ n h. ok n (Has-append_right (calls_in t) (calls_in_all ts) n h)))

  same_nestings : (calls others : ℕ → List ℕ → ℕ) (xs : List ℕ) (ts : TemplatesData) → ((k : ℕ) → Has (calls_in_all ts) k → AlikeAt calls others k) →
      each_nesting calls xs ts ≡ each_nesting others xs ts
  same_nestings calls others xs none ok = refl
  same_nestings calls others xs (more t ts) ok =
      ap (λ n. n ∷ each_nesting calls xs ts) (same_nesting calls others xs t (λ n h. ok n (Has-append_left (calls_in t) (calls_in_all ts) n h)))
      ∙ ap (λ ys. nesting_by others xs t ∷ ys) (same_nestings calls others xs ts (λ n h. ok n (Has-append_right (calls_in t) (calls_in_all ts) n h)))

pub depths_rest : (ms : List MacroData) → RestsOnCalled {T = Depth} (calls_of ms) (IsDepth ms)
depths_rest ms m table other e same is = (
  is.0,
  λ xs long. is.1 xs long ∙ ap (λ n. min n 4001)
      (same_nesting (reached_by table) (reached_by other) xs (macro_at ms m).body (λ k h ys. ap (λ o. reached_if o ys) (sym (same k (called_by ms m k h))))),
)
