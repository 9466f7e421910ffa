-- What is found of a macro by those that it calls rests on them alone: what tables that are made in an order of
-- dependence owe.
use Rattle.std.specs.Prelude.{◌≡◌, ℕ, zero, suc, Option, Some, None, List, [], ◌∷◌, ◌++◌, get_or, refl}
use Rattle.std.proofs.Common.{◌+◌, sym, ap, ◌∙◌, inl, inr, subst, arith}
use Rattle.ale_relation.specs.Has.{Has}
use Rattle.ale_declared.proofs.ListLemmas.{Has-append_left, Has-append_right}
use Rattle.ale_order.specs.Entries.{RestsOnCalled}
use Rattle.ale_macro.specs.Templates.{TemplateData, TemplatesData, MacroData, macro_at, no_macro, of_type, variable, at, all, any, differs, path_equation, call, cells, none, more}
use Rattle.ale_macro.specs.Calls.{calls_in, calls_in_all, pairs, calls_from, calls_of}
use Rattle.ale_macro.specs.Projections.{projected, projected_arg, entry, entry_at, IsEntry}

has_pair : (n k : ℕ) (ks : List ℕ) → Has ks k → Has {A = ℕ × ℕ} (pairs n ks) (n, k)
has_pair n k [] h = absurd h
has_pair n k (i ∷ ks) (inl e) = inl (ap {B = ℕ × ℕ} (λ z. (n, z)) e)
has_pair n k (i ∷ ks) (inr h) = inr (has_pair n k ks h)

none_called : (m k : ℕ) → Has (calls_in (get_or [] m no_macro).body) k → ⊥
none_called zero k h = h
none_called (suc m) k h = h

has_call : (n : ℕ) (ms : List MacroData) (m k : ℕ) → Has (calls_in (macro_at ms m).body) k → Has {A = ℕ × ℕ} (calls_from n ms) (n + m, k)
has_call n [] m k h = absurd (none_called m k h)
has_call n (x ∷ xs) zero k h =
    let here : Has {A = ℕ × ℕ} (pairs n (calls_in x.body)) (n, k) = has_pair n k (calls_in x.body) h in
    let same : n ≡ n + 0 = omega arith in
    subst (λ (z : ℕ). Has {A = ℕ × ℕ} (pairs n (calls_in x.body) ++ calls_from (suc n) xs) (z, k)) same
    (Has-append_left {A = ℕ × ℕ} (pairs n (calls_in x.body)) (calls_from (suc n) xs) (n, k) here)
has_call n (x ∷ xs) (suc m) k h =
    let rest : Has {A = ℕ × ℕ} (calls_from (suc n) xs) (suc n + m, k) = has_call (suc n) xs m k h in
    let same : suc n + m ≡ n + suc m = omega arith in
    Has-append_right {A = ℕ × ℕ} (pairs n (calls_in x.body)) (calls_from (suc n) xs) (n + suc m, k)
    (subst (λ (z : ℕ). Has {A = ℕ × ℕ} (calls_from (suc n) xs) (z, k)) same rest)

-- calls of a body are among all calls
pub called_by : (ms : List MacroData) (m k : ℕ) → Has (calls_in (macro_at ms m).body) k → Has {A = ℕ × ℕ} (calls_of ms) (m, k)
called_by ms m k h =
    let same : 0 + m ≡ m = omega arith in
    subst (λ (z : ℕ). Has {A = ℕ × ℕ} (calls_from 0 ms) (z, k)) same (has_call 0 ms m k h)

mutual
  same_projected : (known others : ℕ → Option ℕ) (n : ℕ) (t : TemplateData) → ((k : ℕ) → Has (calls_in t) k → known k ≡ others k) → projected known n t ≡ projected others n t
  same_projected known others n (of_type t) ok = refl
  same_projected known others n (variable v) ok = refl
  same_projected known others n (at f t) ok = refl
  same_projected known others n (all ts) ok = refl
  same_projected known others n (any ts) ok = refl
  same_projected known others n (differs t) ok = refl
  same_projected known others n (path_equation p q) ok = refl
  same_projected known others n (call k m ts) ok =
      ap (projected_arg known n ts) (ok m (inl refl)) ∙ same_projected_arg known others n ts (others m) (λ i h. ok i (inr h))
  same_projected known others n (cells ts t) ok = refl

  same_projected_arg : (known others : ℕ → Option ℕ) (n : ℕ) (ts : TemplatesData) (place : Option ℕ) → ((k : ℕ) → Has (calls_in_all ts) k → known k ≡ others k) →
      projected_arg known n ts place ≡ projected_arg others n ts place
  same_projected_arg known others n none place ok = refl
  same_projected_arg known others n (more t ts) None ok = refl
  same_projected_arg known others n (more t ts) (Some zero) ok =
      same_projected known others n t (λ k h. ok k (Has-append_left (calls_in t) (calls_in_all ts) k h))
  same_projected_arg known others n (more t ts) (Some (suc j)) ok =
      same_projected_arg known others n ts (Some j) (λ k h. ok k (Has-append_right (calls_in t) (calls_in_all ts) k h))

pub entries_rest : (ms : List MacroData) → RestsOnCalled {T = Option ℕ} (calls_of ms) (IsEntry ms)
entries_rest ms m table other e same is =
    is ∙ same_projected (entry_at table) (entry_at other) (macro_at ms m).parameters (macro_at ms m).body
    (λ k h. ap entry (sym (same k (called_by ms m k h))))
