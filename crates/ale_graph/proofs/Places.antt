-- The classes in order, as the nodes 0, 1, 2 ..: where a class stands, and which class stands at a place.
use Rattle.std.proofs.Common.{◌≡◌, ℕ, zero, suc, ◌<◌, ◌≤◌, Bool, true, false, eqb, List, [], ◌∷◌, ◌++◌, length, get_or, length-append, ◌⊎◌, inl, inr, refl, sym, ap, ◌∙◌, arith, if◌then◌else◌}
use Rattle.std.proofs.Math.ListN.{get_or-append}
use Rattle.std.proofs.Math.Seq.{get_or-append_seam}
use Rattle.std.proofs.lemmas.Bool.{eqb-true, eq-eqb}
use Rattle.ale_graph.specs.Closure.{classes_below, place}

-- one more node: a class, or not
more : (cs : ℕ → ℕ) (n : ℕ) → ((cs n ≡ n) × (classes_below cs (suc n) ≡ classes_below cs n ++ n ∷ [])) ⊎ ((cs n ≡ n → ⊥) × (classes_below cs (suc n) ≡ classes_below cs n))
more cs n = go (eqb (cs n) n) refl
  where
    go : (t : Bool) → eqb (cs n) n ≡ t → ((cs n ≡ n) × ((if t then classes_below cs n ++ n ∷ [] else classes_below cs n) ≡ classes_below cs n ++ n ∷ [])) ⊎ ((cs n ≡ n → ⊥) × ((if t then classes_below cs n ++ n ∷ [] else classes_below cs n) ≡ classes_below cs n))
    go true e = inl (eqb-true (cs n) n e, refl)
    go false e = inr (λ q. (let bad : true ≡ false = sym (eq-eqb (cs n) n q) ∙ e in absurd cc), refl)

pub place_le : (cs : ℕ → ℕ) (n : ℕ) → place cs n ≤ place cs (suc n)
place_le cs n = go (more cs n)
  where
    go : ((cs n ≡ n) × (classes_below cs (suc n) ≡ classes_below cs n ++ n ∷ [])) ⊎ ((cs n ≡ n → ⊥) × (classes_below cs (suc n) ≡ classes_below cs n)) → place cs n ≤ place cs (suc n)
    go (inl q) = let e = ap (λ (z : List ℕ). length z) q.1 in let l = length-append (classes_below cs n) (n ∷ []) in omega arith
    go (inr q) = let e = ap (λ (z : List ℕ). length z) q.1 in omega arith

-- a class stands at its place
pub record StandsAt (cs : ℕ → ℕ) (n c : ℕ) : Type 0 where
  pub below : place cs c < place cs n
  pub is : get_or (classes_below cs n) (place cs c) 0 ≡ c

pub stands : (cs : ℕ → ℕ) (n c : ℕ) → c < n → cs c ≡ c → StandsAt cs n c
stands cs zero c lt own = absurd (omega arith)
stands cs (suc n) c lt own = go (stands cs n c) (grind arith) (more cs n)
  where
    go : (c < n → cs c ≡ c → StandsAt cs n c) → (c < n) ⊎ (c ≡ n) → ((cs n ≡ n) × (classes_below cs (suc n) ≡ classes_below cs n ++ n ∷ [])) ⊎ ((cs n ≡ n → ⊥) × (classes_below cs (suc n) ≡ classes_below cs n)) → StandsAt cs (suc n) c
    go ih (inl l) (inl q) =
        let s = ih l own in
        let b = s.below in
        let up = place_le cs n in
        record { below = omega arith; is = ap (λ (z : List ℕ). get_or z (place cs c) 0) q.1 ∙ get_or-append (classes_below cs n) (n ∷ []) 0 (place cs c) s.below ∙ s.is }
    go ih (inl l) (inr q) =
        let s = ih l own in
        let b = s.below in
        let up = place_le cs n in
        record { below = omega arith; is = ap (λ (z : List ℕ). get_or z (place cs c) 0) q.1 ∙ s.is }
    go ih (inr e) (inl q) =
        let len = ap (λ (z : List ℕ). length z) q.1 in
        let l = length-append (classes_below cs n) (n ∷ []) in
        let p : place cs c ≡ place cs n = ap (place cs) e in
        record { below = omega arith; is = ap (λ (z : List ℕ). get_or z (place cs c) 0) q.1 ∙ ap (λ z. get_or (classes_below cs n ++ n ∷ []) z 0) p ∙ get_or-append_seam (classes_below cs n) n [] 0 ∙ sym e }
    go ih (inr e) (inr q) = absurd (q.0 (ap cs (sym e) ∙ own ∙ e))

-- at each place stands a class
pub record HasClass (cs : ℕ → ℕ) (n i : ℕ) : Type 0 where
  pub class : ℕ
  pub below : class < n
  pub own : cs class ≡ class
  pub place_is : place cs class ≡ i

pub has_class : (cs : ℕ → ℕ) (n i : ℕ) → i < place cs n → HasClass cs n i
has_class cs zero i lt = absurd (omega arith)
has_class cs (suc n) i lt = go (has_class cs n i) (grind arith) (more cs n)
  where
    wider : HasClass cs n i → HasClass cs (suc n) i
    wider c = let b = c.below in record { class = c.class; below = omega arith; own = c.own; place_is = c.place_is }

    go : (i < place cs n → HasClass cs n i) → (i < place cs n) ⊎ (place cs n ≤ i) → ((cs n ≡ n) × (classes_below cs (suc n) ≡ classes_below cs n ++ n ∷ [])) ⊎ ((cs n ≡ n → ⊥) × (classes_below cs (suc n) ≡ classes_below cs n)) → HasClass cs (suc n) i
    go ih (inl l) m = wider (ih l)
    go ih (inr l) (inl q) =
        let len = ap (λ (z : List ℕ). length z) q.1 in
        let a = length-append (classes_below cs n) (n ∷ []) in
        record { class = n; below = omega arith; own = q.0; place_is = omega arith }
    go ih (inr l) (inr q) = let len = ap (λ (z : List ℕ). length z) q.1 in absurd (omega arith)

-- two classes at one place are one
pub place_one : (cs : ℕ → ℕ) (n c d : ℕ) → c < n → d < n → cs c ≡ c → cs d ≡ d → place cs c ≡ place cs d → c ≡ d
place_one cs n c d lc ld oc od e =
    let s = stands cs n c lc oc in
    let t = stands cs n d ld od in
    sym s.is ∙ ap (λ z. get_or (classes_below cs n) z 0) e ∙ t.is
