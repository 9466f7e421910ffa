-- The first class that owes a constraint, by the classes tried so far.
use Rattle.std.proofs.Common.{◌≡◌, ◌≢◌, ℕ, zero, suc, ◌+◌, ◌<◌, ◌≤◌, ◌⊎◌, Bool, true, false, eqb, length-append, add-one, subst, Option, Some, None, List, [], ◌∷◌, ◌++◌, map, length, refl, sym, ap, ◌∙◌, inl, inr, arith, if◌then◌else◌}
use Rattle.std.proofs.lemmas.Bool.{eqb-true, eq-eqb}
use Rattle.ale_declared.specs.Lists.{Has}
use Rattle.ale_hierarchy.specs.Hierarchy.{Hierarchy}
use Rattle.ale_graph.specs.Settled.{or_else, first_some}
use Rattle.ale_graph.specs.Closure.{classes_below, place}
use Rattle.ale_logic.specs.Programs as programs
use Rattle.ale_logic.specs.Fitting.{FitsConstraint}
use Rattle.ale_program.specs.declared.clause.Constraint.{Constraint}
use Rattle.ale_program.specs.Views.{constraint_data}
use Rattle.ale_visit.specs.Owing.{HaveTypes}

pub have_types : (h : Hierarchy) (xs : List Constraint) → ((c : programs.Constraint) → Has (map constraint_data xs) c → FitsConstraint h c) → HaveTypes h xs
have_types h [] fits = tt
have_types h (x ∷ xs) fits = ((fits (constraint_data x) (inl refl)).of, have_types h xs (λ c has. fits c (inr has)))

-- what is given first stays so with more behind it
first_before : {B : Type 0} (give : ℕ → Option B) (xs : List ℕ) (n : ℕ) (y : B) → first_some give xs ≡ Some y → first_some give (xs ++ n ∷ []) ≡ Some y
first_before give [] n y e = absurd cc
first_before {B = B} give (x ∷ xs) n y e = go (give x) refl (first_before give xs n y)
  where
    go : (o : Option B) → o ≡ give x → (first_some give xs ≡ Some y → first_some give (xs ++ n ∷ []) ≡ Some y) → first_some give (x ∷ (xs ++ n ∷ [])) ≡ Some y
    go None is later =
        ap (λ z. or_else z (first_some give (xs ++ n ∷ []))) (sym is)
        ∙ later (ap (λ z. or_else z (first_some give xs)) is ∙ e)
    go (Some z) is later =
        ap (λ z. or_else z (first_some give (xs ++ n ∷ []))) (sym is) ∙ ap (λ z. or_else z (first_some give xs)) is ∙ e

-- where nothing was given before, what the last gives
first_last : {B : Type 0} (give : ℕ → Option B) (xs : List ℕ) (n : ℕ) (o : Option B) → first_some give xs ≡ None → give n ≡ o → first_some give (xs ++ n ∷ []) ≡ o
first_last give [] n None e is = ap (λ z. or_else z None) is
first_last give [] n (Some y) e is = ap (λ z. or_else z None) is
first_last {B = B} give (x ∷ xs) n o e is = go (give x) refl (first_last give xs n o)
  where
    go : (p : Option B) → p ≡ give x → (first_some give xs ≡ None → give n ≡ o → first_some give (xs ++ n ∷ []) ≡ o) → first_some give (x ∷ (xs ++ n ∷ [])) ≡ o
    go None at later =
        ap (λ z. or_else z (first_some give (xs ++ n ∷ []))) (sym at)
        ∙ later (ap (λ z. or_else z (first_some give xs)) at ∙ e) is
    go (Some z) at later = let bad : Some z ≡ None = ap (λ q. or_else q (first_some give xs)) at ∙ e in absurd cc

-- the classes below one more number
more : (cs : ℕ → ℕ) (n : ℕ) → ((cs n ≡ n) × (classes_below cs (suc n) ≡ classes_below cs n ++ n ∷ [])) ⊎ ((cs n ≡ n → ⊥) × (classes_below cs (suc n) ≡ classes_below cs n))
more cs n = go (eqb (cs n) n) refl
  where
    go : (t : Bool) → eqb (cs n) n ≡ t → ((cs n ≡ n) × ((if t then classes_below cs n ++ n ∷ [] else classes_below cs n) ≡ classes_below cs n ++ n ∷ [])) ⊎ ((cs n ≡ n → ⊥) × ((if t then classes_below cs n ++ n ∷ [] else classes_below cs n) ≡ classes_below cs n))
    go true e = inl (eqb-true (cs n) n e, refl)
    go false e = inr (λ q. (let bad : true ≡ false = sym (eq-eqb (cs n) n q) ∙ e in absurd cc), refl)

-- Of the classes below n none gives anything, and so many of them there are.
pub record Sought {B : Type 0} (cs : ℕ → ℕ) (give : ℕ → Option B) (n k : ℕ) : Type 0 where
  pub nothing : first_some give (classes_below cs n) ≡ None
  pub place_is : k ≡ place cs n
  pub low : k ≤ n

pub none_sought : {B : Type 0} (cs : ℕ → ℕ) (give : ℕ → Option B) → Sought cs give 0 0
none_sought cs give = record { nothing = refl; place_is = refl; low = omega arith }

-- a number that is no class
pub passed_over : {B : Type 0} (cs : ℕ → ℕ) (give : ℕ → Option B) (n k : ℕ) → (cs n ≡ n → ⊥) → Sought cs give n k → Sought cs give (n + 1) k
passed_over {B = B} cs give n k is s = subst (λ z. Sought cs give z k) (sym (add-one n)) (go (more cs n))
  where
    go : ((cs n ≡ n) × (classes_below cs (suc n) ≡ classes_below cs n ++ n ∷ [])) ⊎ ((cs n ≡ n → ⊥) × (classes_below cs (suc n) ≡ classes_below cs n)) → Sought cs give (suc n) k
    go (inl q) = absurd (is q.0)
    go (inr q) = let l = s.low in record { nothing = ap (first_some give) q.1 ∙ s.nothing; place_is = s.place_is ∙ ap (λ (z : List ℕ). length z) (sym q.1); low = omega arith }

-- a class that gives nothing
pub gives_nothing : {B : Type 0} (cs : ℕ → ℕ) (give : ℕ → Option B) (n k : ℕ) → cs n ≡ n → give n ≡ None → Sought cs give n k → Sought cs give (n + 1) (k + 1)
gives_nothing {B = B} cs give n k is none s = subst (λ z. Sought cs give z (k + 1)) (sym (add-one n)) (go (more cs n))
  where
    go : ((cs n ≡ n) × (classes_below cs (suc n) ≡ classes_below cs n ++ n ∷ [])) ⊎ ((cs n ≡ n → ⊥) × (classes_below cs (suc n) ≡ classes_below cs n)) → Sought cs give (suc n) (k + 1)
    go (inl q) =
        let l = s.low in
        let p = s.place_is in
        let len = ap (λ (z : List ℕ). length z) q.1 in
        let a = length-append (classes_below cs n) (n ∷ []) in
        record { nothing = ap (first_some give) q.1 ∙ first_last give (classes_below cs n) n None s.nothing none; place_is = omega arith; low = omega arith }
    go (inr q) = absurd (q.0 is)

-- the first class that gives something is the first of all
pub found_first : {B : Type 0} (cs : ℕ → ℕ) (give : ℕ → Option B) (n k : ℕ) (y : B) → cs n ≡ n → give n ≡ Some y → Sought cs give n k → (m : ℕ) → n < m → first_some give (classes_below cs m) ≡ Some y
found_first cs give n k y is some s zero low = absurd (omega arith)
found_first {B = B} cs give n k y is some s (suc m) low = go (grind arith) (found_first cs give n k y is some s m) (more cs m)
  where
    go : (n < m) ⊎ (n ≡ m) → (n < m → first_some give (classes_below cs m) ≡ Some y) → ((cs m ≡ m) × (classes_below cs (suc m) ≡ classes_below cs m ++ m ∷ [])) ⊎ ((cs m ≡ m → ⊥) × (classes_below cs (suc m) ≡ classes_below cs m)) → first_some give (classes_below cs (suc m)) ≡ Some y
    go (inl less) before (inl q) = ap (first_some give) q.1 ∙ first_before give (classes_below cs m) m y (before less)
    go (inl less) before (inr q) = ap (first_some give) q.1 ∙ before less
    go (inr same) before (inl q) =
        ap (first_some give) q.1
        ∙ first_last give (classes_below cs m) m (Some y) (ap (λ z. first_some give (classes_below cs z)) (sym same) ∙ s.nothing) (ap give (sym same) ∙ some)
    go (inr same) before (inr q) = absurd (q.0 (ap cs (sym same) ∙ is ∙ same))
