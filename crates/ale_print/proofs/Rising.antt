-- Nodes of one type have values by the same features, in the same order.
use Rattle.std.proofs.Common.{◌≡◌, ℕ, ◌<◌, Bool, true, false, eqb, ltb, Some, None, List, [], ◌∷◌, map, ◌⊎◌, inl, inr, refl, sym, ap, ◌∙◌, subst, arith, IsTrue}
use Rattle.std.specs.Prelude.{if◌then◌else◌}
use Rattle.std.proofs.lemmas.Bool.{and_parts, eq-eqb, eqb-true, ltb-true}
use Rattle.ale_declared.specs.Lists.{Has, every}
use Rattle.ale_hierarchy.specs.Hierarchy.{Hierarchy}
use Rattle.ale_graph.specs.Structures.{Structure, IsStructure, count, node_at, type_of, value_in, is_node, is_rising, is_formed}
use Rattle.ale_graph.proofs.Lists.{every_has}
use Rattle.ale_graph.proofs.Structures.{get_has}

abbrev keys : List (ℕ × ℕ) → List ℕ
keys vs = map (λ v. v.0) vs

-- each number is below all behind it
abbrev Rising : List ℕ → Type 0
Rising [] = Unit {0}
Rising (x ∷ xs) = ((y : ℕ) → Has xs y → x < y) × Rising xs

same_rising : (xs ys : List ℕ) → Rising xs → Rising ys → ((r : ℕ) → Has xs r → Has ys r) → ((r : ℕ) → Has ys r → Has xs r) → xs ≡ ys
same_rising [] [] rx ry there back = refl
same_rising [] (y ∷ ys) rx ry there back = absurd (back y (inl refl))
same_rising (x ∷ xs) [] rx ry there back = absurd (there x (inl refl))
same_rising (x ∷ xs) (y ∷ ys) rx ry there back =
    λ i. heads i ∷ same_rising xs ys rx.1 ry.1 (λ r h. tail_there r h (there r (inr h))) (λ r h. tail_back r h (back r (inr h))) i
  where
    first : (x ≡ y) ⊎ Has ys x → (y ≡ x) ⊎ Has xs y → x ≡ y
    first (inl e) h = e
    first (inr k) (inl e) = sym e
    first (inr k) (inr m) = let a = rx.0 y m in let b = ry.0 x k in absurd (omega arith)

    heads : x ≡ y
    heads = first (there x (inl refl)) (back y (inl refl))

    tail_there : (r : ℕ) → Has xs r → (r ≡ y) ⊎ Has ys r → Has ys r
    tail_there r h (inl e) = let a = rx.0 r h in let b = heads in absurd (omega arith)
    tail_there r h (inr k) = k

    tail_back : (r : ℕ) → Has ys r → (r ≡ x) ⊎ Has xs r → Has xs r
    tail_back r h (inl e) = let a = ry.0 r h in let b = heads in absurd (omega arith)
    tail_back r h (inr k) = k

key_above : (f : ℕ) (vs : List (ℕ × ℕ)) → every (λ w. ltb f w.0) vs ≡ true → (y : ℕ) → Has (keys vs) y → f < y
key_above f [] h y k = absurd k
key_above f (v ∷ vs) h y (inl e) = subst (λ z. f < z) (sym e) (ltb-true f v.0 (and_parts (ltb f v.0) (every (λ (w : ℕ × ℕ). ltb f w.0) vs) h).0)
key_above f (v ∷ vs) h y (inr k) = key_above f vs (and_parts (ltb f v.0) (every (λ (w : ℕ × ℕ). ltb f w.0) vs) h).1 y k

keys_rise : (vs : List (ℕ × ℕ)) → is_rising vs ≡ true → Rising (keys vs)
keys_rise [] h = tt
keys_rise (v ∷ vs) h =
    let both = and_parts (every (λ (w : ℕ × ℕ). ltb v.0 w.0) vs) (is_rising vs) h in
    (key_above v.0 vs both.0, keys_rise vs both.1)

false_true : false ≡ true → ⊥
false_true e = absurd cc

key_there : (vs : List (ℕ × ℕ)) (f m : ℕ) → value_in vs f ≡ Some m → Has (keys vs) f
key_there [] f m e = absurd (none_some e)
  where
    none_some : {a : ℕ} → None ≡ Some a → ⊥
    none_some e = absurd cc
key_there (v ∷ vs) f m e = go (eqb v.0 f) refl e (key_there vs f m)
  where
    go : (b : Bool) → eqb v.0 f ≡ b → (if b then Some v.1 else value_in vs f) ≡ Some m → (value_in vs f ≡ Some m → Has (keys vs) f) → Has (keys (v ∷ vs)) f
    go true q e ih = inl (sym (eqb-true v.0 f q))
    go false q e ih = inr (ih e)

there_key : (vs : List (ℕ × ℕ)) (f : ℕ) → Has (keys vs) f → (m : ℕ) × (value_in vs f ≡ Some m)
there_key [] f h = absurd h
there_key (v ∷ vs) f h = go (eqb v.0 f) refl h (there_key vs f)
  where
    go : (b : Bool) → eqb v.0 f ≡ b → Has (keys (v ∷ vs)) f → (Has (keys vs) f → (m : ℕ) × (value_in vs f ≡ Some m)) → (m : ℕ) × ((if b then Some v.1 else value_in vs f) ≡ Some m)
    go true q k ih = (v.1, refl)
    go false q (inl e) ih = absurd (false_true (sym q ∙ eq-eqb v.0 f (sym e)))
    go false q (inr k) ih = ih k

node_rises : (s : Structure) → IsTrue (is_formed s) → (n : ℕ) → n < count s → is_rising (node_at s n).values ≡ true
node_rises s formed n low =
    let nodes : every (is_node (count s)) s.nodes ≡ true = (and_parts (every (is_node (count s)) s.nodes) _ formed).0 in
    let node : is_node (count s) (node_at s n) ≡ true = every_has (is_node (count s)) s.nodes (node_at s n) nodes (get_has s.nodes n (record { of = 0; values = [] }) low) in
    (and_parts (every (λ (v : ℕ × ℕ). ltb v.1 (count s)) (node_at s n).values) (is_rising (node_at s n).values) node).1

-- a feature of the one node is one of the other
carried : (h : Hierarchy) (s t : Structure) → IsStructure h s → IsStructure h t → (n m : ℕ) → m < count t → type_of s n ≡ type_of t m
    → (f : ℕ) → Has (keys (node_at s n).values) f → Has (keys (node_at t m).values) f
carried h s t a b n m low same f k =
    let v = there_key (node_at s n).values f k in
    let r = a.total.only n f v.0 v.1 in
    let w = b.total.there m f r.0 low (ap (λ z. h.approp f z) (sym same) ∙ r.1) in
    key_there (node_at t m).values f w.0 w.1

pub same_features : (h : Hierarchy) (s t : Structure) → IsStructure h s → IsStructure h t → (n m : ℕ) → n < count s → m < count t → type_of s n ≡ type_of t m
    → map (λ v. v.0) (node_at s n).values ≡ map (λ v. v.0) (node_at t m).values
same_features h s t a b n m ln lm same =
    same_rising (keys (node_at s n).values) (keys (node_at t m).values)
    (keys_rise (node_at s n).values (node_rises s a.formed n ln)) (keys_rise (node_at t m).values (node_rises t b.formed m lm))
    (λ f k. carried h s t a b n m lm same f k) (λ f k. carried h t s b a m n ln (sym same) f k)
