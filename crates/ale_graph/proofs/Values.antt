-- The values of a node of the closure's graph: the values of its class, in rising feature order.
use Rattle.std.proofs.Common.{◌≡◌, ℕ, zero, suc, ◌<◌, Bool, true, false, eqb, ltb, List, [], ◌∷◌, ◌++◌, ◌⊎◌, inl, inr, refl, sym, ap, ◌∙◌, subst, Option, Some, None, if◌then◌else◌}
use Rattle.std.proofs.lemmas.Bool.{eqb-true, eq-eqb, lt-ltb, and_from}
use Rattle.ale_declared.specs.Lists.{Has, upto, every}
use Rattle.ale_graph.specs.declared.fact.Fact.{Fact}
use Rattle.ale_graph.specs.declared.fact.Fact.TheVariants.{OfType, Value, Same, Differ}
use Rattle.ale_graph.specs.Structures.{value_in, is_rising}
use Rattle.ale_graph.specs.Filling.{Filled, class_value}
use Rattle.ale_graph.specs.Closure.{place, values_by, differing}
use Rattle.ale_graph.proofs.Lists.{some_one, none_some, has_either, below_upto, every_from}

-- a value of the class is one of the node
pub values_to : (st : Filled) (c f m : ℕ) (fs : List ℕ) → class_value st.class st.facts c f ≡ Some m → Has fs f → value_in (values_by st c fs) f ≡ Some (place st.class m)
values_to st c f m [] e p = absurd p
values_to st c f m (g ∷ gs) e p = go (values_to st c f m gs e) p (class_value st.class st.facts c g) refl
  where
    here : (ih : Has gs f → value_in (values_by st c gs) f ≡ Some (place st.class m)) → (p : (f ≡ g) ⊎ Has gs f) → (n : ℕ) → class_value st.class st.facts c g ≡ Some n → (t : Bool) → eqb g f ≡ t → (if t then Some (place st.class n) else value_in (values_by st c gs) f) ≡ Some (place st.class m)
    here ih p n q true is =
        let same : Some n ≡ Some m = sym q ∙ ap (λ z. class_value st.class st.facts c z) (eqb-true g f is) ∙ e in
        ap (λ z. Some (place st.class z)) (some_one same)
    here ih (inl x) n q false is = let bad : true ≡ false = sym (eq-eqb g f (sym x)) ∙ is in absurd cc
    here ih (inr h) n q false is = ih h

    go : (ih : Has gs f → value_in (values_by st c gs) f ≡ Some (place st.class m)) → (p : (f ≡ g) ⊎ Has gs f) → (o : Option ℕ) → class_value st.class st.facts c g ≡ o → value_in (elim o [ None ↦ values_by st c gs | Some m ↦ (g, place st.class m) ∷ values_by st c gs ]) f ≡ Some (place st.class m)
    go ih (inl x) None q = absurd (none_some (sym q ∙ ap (λ z. class_value st.class st.facts c z) (sym x) ∙ e))
    go ih (inr h) None q = ih h
    go ih p (Some n) q = here ih p n q (eqb g f) refl

-- a value of the node is one of the class
pub record IsValue (st : Filled) (c f q : ℕ) : Type 0 where
  pub class : ℕ
  pub value : class_value st.class st.facts c f ≡ Some class
  pub place_is : q ≡ place st.class class

pub values_from : (st : Filled) (c f q : ℕ) (fs : List ℕ) → value_in (values_by st c fs) f ≡ Some q → IsValue st c f q
values_from st c f q [] e = absurd (none_some e)
values_from st c f q (g ∷ gs) e = go (values_from st c f q gs) (class_value st.class st.facts c g) refl e
  where
    here : (value_in (values_by st c gs) f ≡ Some q → IsValue st c f q) → (n : ℕ) → class_value st.class st.facts c g ≡ Some n → (t : Bool) → eqb g f ≡ t → (if t then Some (place st.class n) else value_in (values_by st c gs) f) ≡ Some q → IsValue st c f q
    here ih n v true is e = record { class = n; value = ap (λ z. class_value st.class st.facts c z) (sym (eqb-true g f is)) ∙ v; place_is = sym (some_one e) }
    here ih n v false is e = ih e

    go : (value_in (values_by st c gs) f ≡ Some q → IsValue st c f q) → (o : Option ℕ) → class_value st.class st.facts c g ≡ o → value_in (elim o [ None ↦ values_by st c gs | Some m ↦ (g, place st.class m) ∷ values_by st c gs ]) f ≡ Some q → IsValue st c f q
    go ih None v e = ih e
    go ih (Some n) v e = here ih n v (eqb g f) refl e

-- an entry of the node's values is by a listed feature
pub record IsEntry (st : Filled) (c : ℕ) (fs : List ℕ) (v : ℕ × ℕ) : Type 0 where
  pub class : ℕ
  pub has : Has fs v.0
  pub value : class_value st.class st.facts c v.0 ≡ Some class
  pub place_is : v.1 ≡ place st.class class

pub entry_from : (st : Filled) (c : ℕ) (fs : List ℕ) (v : ℕ × ℕ) → Has (values_by st c fs) v → IsEntry st c fs v
entry_from st c [] v p = absurd p
entry_from st c (g ∷ gs) v p = go (entry_from st c gs v) (class_value st.class st.facts c g) refl p
  where
    wider : IsEntry st c gs v → IsEntry st c (g ∷ gs) v
    wider i = record { class = i.class; has = inr i.has; value = i.value; place_is = i.place_is }

    go : (Has (values_by st c gs) v → IsEntry st c gs v) → (o : Option ℕ) → class_value st.class st.facts c g ≡ o → Has (elim o [ None ↦ values_by st c gs | Some m ↦ (g, place st.class m) ∷ values_by st c gs ]) v → IsEntry st c (g ∷ gs) v
    go ih None q p = wider (ih p)
    go ih (Some n) q (inl e) =
        let first : v.0 ≡ g = ap (λ (z : ℕ × ℕ). z.0) e in
        record { class = n; has = inl first; value = ap (λ z. class_value st.class st.facts c z) first ∙ q; place_is = ap (λ (z : ℕ × ℕ). z.1) e }
    go ih (Some n) q (inr p) = wider (ih p)

-- each element is below those after it
abbrev pub Rises : List ℕ → Type 0
Rises [] = Unit {0}
Rises (f ∷ fs) = ((g : ℕ) → Has fs g → f < g) × Rises fs

rises_append : (n : ℕ) (fs : List ℕ) → Rises fs → ((f : ℕ) → Has fs f → f < n) → Rises (fs ++ n ∷ [])
rises_append n [] r below = (λ g p. absurd p, tt)
rises_append n (f ∷ fs) r below = (λ g p. go g (has_either fs (n ∷ []) g p), rises_append n fs r.1 (λ g p. below g (inr p)))
  where
    go : (g : ℕ) → Has fs g ⊎ Has (n ∷ []) g → f < g
    go g (inl p) = r.0 g p
    go g (inr (inl e)) = subst (λ z. f < z) (sym e) (below f (inl refl))
    go g (inr (inr p)) = absurd p

pub upto_rises : (n : ℕ) → Rises (upto n)
upto_rises zero = tt
upto_rises (suc n) = rises_append n (upto n) (upto_rises n) (below_upto n)

pub values_rise : (st : Filled) (c : ℕ) (fs : List ℕ) → Rises fs → is_rising (values_by st c fs) ≡ true
values_rise st c [] r = refl
values_rise st c (f ∷ fs) r = go (values_rise st c fs r.1) (class_value st.class st.facts c f)
  where
    go : is_rising (values_by st c fs) ≡ true → (o : Option ℕ) → is_rising (elim o [ None ↦ values_by st c fs | Some m ↦ (f, place st.class m) ∷ values_by st c fs ]) ≡ true
    go ih None = ih
    go ih (Some m) =
        and_from (every (λ (w : ℕ × ℕ). ltb f w.0) (values_by st c fs)) (is_rising (values_by st c fs))
        (every_from (λ (w : ℕ × ℕ). ltb f w.0) (values_by st c fs) (λ w p. lt-ltb f w.0 (r.0 w.0 (entry_from st c fs w p).has)))
        ih

-- a differing pair of the graph comes from a Differ, and each Differ gives one
pub record IsDiffer (cs : ℕ → ℕ) (facts : List Fact) (p : ℕ × ℕ) : Type 0 where
  pub a : ℕ
  pub b : ℕ
  pub has : Has facts (Differ a b)
  pub first : p.0 ≡ place cs (cs a)
  pub second : p.1 ≡ place cs (cs b)

pub differ_from : (cs : ℕ → ℕ) (facts : List Fact) (p : ℕ × ℕ) → Has (differing cs facts) p → IsDiffer cs facts p
differ_from cs [] p k = absurd k
differ_from cs (OfType n t ∷ xs) p k = let d = differ_from cs xs p k in record { a = d.a; b = d.b; has = inr d.has; first = d.first; second = d.second }
differ_from cs (Value n f m ∷ xs) p k = let d = differ_from cs xs p k in record { a = d.a; b = d.b; has = inr d.has; first = d.first; second = d.second }
differ_from cs (Same u v ∷ xs) p k = let d = differ_from cs xs p k in record { a = d.a; b = d.b; has = inr d.has; first = d.first; second = d.second }
differ_from cs (Differ u v ∷ xs) p (inl e) = record { a = u; b = v; has = inl refl; first = ap (λ (z : ℕ × ℕ). z.0) e; second = ap (λ (z : ℕ × ℕ). z.1) e }
differ_from cs (Differ u v ∷ xs) p (inr k) = let d = differ_from cs xs p k in record { a = d.a; b = d.b; has = inr d.has; first = d.first; second = d.second }

pub differ_to : (cs : ℕ → ℕ) (facts : List Fact) (a b : ℕ) → Has facts (Differ a b) → Has (differing cs facts) (place cs (cs a), place cs (cs b))
differ_to cs [] a b k = absurd k
differ_to cs (OfType n t ∷ xs) a b (inl e) = absurd cc
differ_to cs (OfType n t ∷ xs) a b (inr k) = differ_to cs xs a b k
differ_to cs (Value n f m ∷ xs) a b (inl e) = absurd cc
differ_to cs (Value n f m ∷ xs) a b (inr k) = differ_to cs xs a b k
differ_to cs (Same u v ∷ xs) a b (inl e) = absurd cc
differ_to cs (Same u v ∷ xs) a b (inr k) = differ_to cs xs a b k
differ_to cs (Differ u v ∷ xs) a b (inl e) =
    let first : a ≡ u = cc in
    let second : b ≡ v = cc in
    inl (λ i. (place cs (cs (first i)), place cs (cs (second i))))
differ_to cs (Differ u v ∷ xs) a b (inr k) = inr (differ_to cs xs a b k)
