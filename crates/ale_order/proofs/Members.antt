-- What is in a list with one more at its end, turned round, or of those that a number calls.
use Rattle.std.proofs.Common.{◌≡◌, ℕ, ◌⊎◌, true, eqb, List, [], ◌∷◌, ◌++◌, refl, sym, ap, ◌∙◌, subst, inl, inr}
use Rattle.std.specs.Prelude.{reverse}
use Rattle.std.proofs.lemmas.Bool.{cases_Bool, eq-eqb, eqb-true}
use Rattle.std.proofs.lemmas.List.{reverse-append}
use Rattle.ale_relation.specs.Has.{Has}
use Rattle.ale_order.specs.Calls.{called, callers}
use Rattle.ale_order.specs.Orders.{Distinct}

pub has_push : (xs : List ℕ) (m k : ℕ) → Has xs k → Has (xs ++ m ∷ []) k
has_push [] m k h = absurd h
has_push (x ∷ xs) m k (inl e) = inl e
has_push (x ∷ xs) m k (inr h) = inr (has_push xs m k h)

pub has_last : (xs : List ℕ) (m : ℕ) → Has (xs ++ m ∷ []) m
has_last [] m = inl refl
has_last (x ∷ xs) m = inr (has_last xs m)

pub push_cases : (xs : List ℕ) (m k : ℕ) → Has (xs ++ m ∷ []) k → (k ≡ m) ⊎ Has xs k
push_cases [] m k h = h
push_cases (x ∷ xs) m k (inl e) = inr (inl e)
push_cases (x ∷ xs) m k (inr h) =
    elim (push_cases xs m k h) [ inl e ↦ inl e | inr g ↦ inr (inr g) ]

pub reverse_cons : (x : ℕ) (xs : List ℕ) → reverse (x ∷ xs) ≡ reverse xs ++ x ∷ []
reverse_cons x xs = reverse-append (x ∷ []) xs

pub has_reverse : (xs : List ℕ) (k : ℕ) → Has xs k → Has (reverse xs) k
has_reverse [] k h = absurd h
has_reverse (x ∷ xs) k (inl e) =
    subst (λ (ys : List ℕ). Has ys k) (sym (reverse_cons x xs)) (subst (λ (y : ℕ). Has (reverse xs ++ x ∷ []) y) (sym e) (has_last (reverse xs) x))
has_reverse (x ∷ xs) k (inr h) =
    subst (λ (ys : List ℕ). Has ys k) (sym (reverse_cons x xs)) (has_push (reverse xs) x k (has_reverse xs k h))

pub reverse_has : (xs : List ℕ) (k : ℕ) → Has (reverse xs) k → Has xs k
reverse_has [] k h = absurd h
reverse_has (x ∷ xs) k h =
    elim (push_cases (reverse xs) x k (subst (λ (ys : List ℕ). Has ys k) (reverse_cons x xs) h)) [
      | inl e ↦ inl e
      | inr g ↦ inr (reverse_has xs k g)
    ]

distinct_push : (xs : List ℕ) (m : ℕ) → Distinct xs → (Has xs m → ⊥) → Distinct (xs ++ m ∷ [])
distinct_push [] m once apart = (λ h. h, tt)
distinct_push (x ∷ xs) m once apart =
    (λ h. elim (push_cases xs m x h) [ inl e ↦ apart (inl (sym e)) | inr g ↦ once.0 g ], distinct_push xs m once.1 (λ h. apart (inr h)))

pub distinct_reverse : (xs : List ℕ) → Distinct xs → Distinct (reverse xs)
distinct_reverse [] once = tt
distinct_reverse (x ∷ xs) once =
    subst Distinct (sym (reverse_cons x xs)) (distinct_push (reverse xs) x (distinct_reverse xs once.1) (λ h. once.0 (reverse_has xs x h)))

pair_is : (c : ℕ × ℕ) (m k : ℕ) → c.0 ≡ m → c.1 ≡ k → ◌≡◌ {A = ℕ × ℕ} (m, k) c
pair_is c m k p q =
    sym (ap (λ (x : ℕ). let y : ℕ × ℕ = (x, c.1) in y) p ∙ ap (λ (x : ℕ). let y : ℕ × ℕ = (m, x) in y) q)

pub has_called : (calls : List (ℕ × ℕ)) (m k : ℕ) → Has {A = ℕ × ℕ} calls (m, k) → Has (called calls m) k
has_called [] m k h = absurd h
has_called (c ∷ calls) m k (inl e) =
    let t : eqb c.0 m ≡ true = eq-eqb c.0 m (sym (ap (λ (p : ℕ × ℕ). p.0) e)) in
    rw t (inl (ap (λ (p : ℕ × ℕ). p.1) e))
has_called (c ∷ calls) m k (inr h) =
    elim (cases_Bool (eqb c.0 m)) [
      | inl t ↦ rw t (inr (has_called calls m k h))
      | inr t ↦ rw t (has_called calls m k h)
    ]

pub called_has : (calls : List (ℕ × ℕ)) (m k : ℕ) → Has (called calls m) k → Has {A = ℕ × ℕ} calls (m, k)
called_has [] m k h = absurd h
called_has (c ∷ calls) m k h =
    elim (cases_Bool (eqb c.0 m)) [
      | inl t ↦
          let both : (k ≡ c.1) ⊎ Has (called calls m) k = rw t at h in
          elim both [
            | inl e ↦ inl (pair_is c m k (eqb-true c.0 m t) (sym e))
            | inr g ↦ inr (called_has calls m k g)
          ]
      | inr t ↦ inr (called_has calls m k (rw t at h))
    ]

pub has_callers : (calls : List (ℕ × ℕ)) (k m : ℕ) → Has {A = ℕ × ℕ} calls (k, m) → Has (callers calls m) k
has_callers [] k m h = absurd h
has_callers (c ∷ calls) k m (inl e) =
    let t : eqb c.1 m ≡ true = eq-eqb c.1 m (sym (ap (λ (p : ℕ × ℕ). p.1) e)) in
    rw t (inl (ap (λ (p : ℕ × ℕ). p.0) e))
has_callers (c ∷ calls) k m (inr h) =
    elim (cases_Bool (eqb c.1 m)) [
      | inl t ↦ rw t (inr (has_callers calls k m h))
      | inr t ↦ rw t (has_callers calls k m h)
    ]

pub callers_has : (calls : List (ℕ × ℕ)) (k m : ℕ) → Has (callers calls m) k → Has {A = ℕ × ℕ} calls (k, m)
callers_has [] k m h = absurd h
callers_has (c ∷ calls) k m h =
    elim (cases_Bool (eqb c.1 m)) [
      | inl t ↦
          let both : (k ≡ c.0) ⊎ Has (callers calls m) k = rw t at h in
          elim both [
            | inl e ↦ inl (pair_is c k m (sym e) (eqb-true c.1 m t))
            | inr g ↦ inr (callers_has calls k m g)
          ]
      | inr t ↦ inr (callers_has calls k m (rw t at h))
    ]
