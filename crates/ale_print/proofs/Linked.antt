-- Nodes of two structures linked with one another, and what that says of the structures.
use Rattle.std.proofs.Common.{◌≡◌, ℕ, zero, suc, Bool, true, false, eqb, Option, Some, None, List, [], ◌∷◌, map, option_map, get_or, inl, inr, refl, sym, ap, ◌∙◌, subst}
use Rattle.std.specs.Prelude.{if◌then◌else◌}
use Rattle.std.proofs.lemmas.Bool.{eq-eqb, eqb-true}
use Rattle.ale_declared.specs.Lists.{Has}
use Rattle.ale_graph.specs.Structures.{Structure, node_at, type_of, value_in, root_at}
use Rattle.ale_morphism.specs.Visible.{Visible, root, differs_first, differs_second, value}
use Rattle.ale_print.specs.Sameness.{Differs, Carries, IsSame}

abbrev pub Links : Type 0
Links = List (ℕ × ℕ)

-- each value of the one node is linked with that of the other by the same feature
abbrev pub Valued : Links → List (ℕ × ℕ) → List (ℕ × ℕ) → Type 0
Valued f [] [] = Unit {0}
Valued f [] (w ∷ ws) = ⊥
Valued f (v ∷ vs) [] = ⊥
Valued f (v ∷ vs) (w ∷ ws) = (v.0 ≡ w.0) × Has f (v.1, w.1) × Valued f vs ws

-- each root is linked with that in the same place, or both are unbound
abbrev pub Rooted : Links → List (Option ℕ) → List (Option ℕ) → Type 0
Rooted f [] [] = Unit {0}
Rooted f [] (y ∷ ys) = ⊥
Rooted f (x ∷ xs) [] = ⊥
Rooted f (None ∷ xs) (None ∷ ys) = Rooted f xs ys
Rooted f (None ∷ xs) (Some m ∷ ys) = ⊥
Rooted f (Some n ∷ xs) (None ∷ ys) = ⊥
Rooted f (Some n ∷ xs) (Some m ∷ ys) = Has f (n, m) × Rooted f xs ys

abbrev pub Differing : Links → Structure → Structure → Type 0
Differing f s t = (a b : ℕ) → Has s.differ (a, b) → (c : ℕ) × (d : ℕ) × Has f (a, c) × Has f (b, d) × Differs t c d

pub record IsLinked (f : Links) (s t : Structure) : Type 0 where
  pub one : (n m k : ℕ) → Has f (n, m) → Has f (n, k) → m ≡ k
  pub types : (n m : ℕ) → Has f (n, m) → type_of s n ≡ type_of t m
  pub values : (n m : ℕ) → Has f (n, m) → Valued f (node_at s n).values (node_at t m).values
  pub roots : Rooted f s.roots t.roots
  pub differing : Differing f s t

-- what is linked with a node
abbrev pub linked : Links → ℕ → ℕ
linked [] n = n
linked (p ∷ ps) n = if eqb n p.0 then p.1 else linked ps n

false_true : false ≡ true → ⊥
false_true e = absurd cc

pair_first : (n m : ℕ) (p : ℕ × ℕ) → (n, m) ≡ p → n ≡ p.0
pair_first n m p e = ap (λ (z : ℕ × ℕ). z.0) e

pub linked_has : (f : Links) (n m : ℕ) → Has f (n, m) → Has f (n, linked f n)
linked_has [] n m h = absurd h
linked_has (p ∷ ps) n m h = go (eqb n p.0) refl h (linked_has ps n m)
  where
    go : (b : Bool) → eqb n p.0 ≡ b → Has (p ∷ ps) (n, m) → (Has ps (n, m) → Has ps (n, linked ps n)) → Has (p ∷ ps) (n, (if b then p.1 else linked ps n))
    go true e k ih = let same : n ≡ p.0 = eqb-true n p.0 e in inl (λ i. (same i, p.1))
    go false e (inl same) ih = absurd (false_true (sym e ∙ eq-eqb n p.0 (pair_first n m p same)))
    go false e (inr k) ih = inr (ih k)

pub linked_is : (f : Links) (s t : Structure) → IsLinked f s t → (n m : ℕ) → Has f (n, m) → linked f n ≡ m
linked_is f s t l n m h = l.one n (linked f n) m (linked_has f n m h) h

-- values and roots of linked nodes

value_linked : (f : Links) (vs ws : List (ℕ × ℕ)) (g m : ℕ) → Valued f vs ws → value_in vs g ≡ Some m → (k : ℕ) × Has f (m, k)
value_linked f [] [] g m h e = absurd (none_some e)
  where
    none_some : {a : ℕ} → None ≡ Some a → ⊥
    none_some e = absurd cc
value_linked f [] (w ∷ ws) g m h e = absurd h
value_linked f (v ∷ vs) [] g m h e = absurd h
value_linked f (v ∷ vs) (w ∷ ws) g m h e = go (eqb v.0 g) e (value_linked f vs ws g m h.2)
  where
    go : (b : Bool) → (if b then Some v.1 else value_in vs g) ≡ Some m → (value_in vs g ≡ Some m → (k : ℕ) × Has f (m, k)) → (k : ℕ) × Has f (m, k)
    go true e ih = let same : v.1 ≡ m = cc in (w.1, subst (λ z. Has f (z, w.1)) same h.1)
    go false e ih = ih e

root_linked : (f : Links) (xs ys : List (Option ℕ)) (i n : ℕ) → Rooted f xs ys → get_or xs i None ≡ Some n → (m : ℕ) × Has f (n, m)
root_linked f [] [] i n h e = absurd (none_some e)
  where
    none_some : {a : ℕ} → None ≡ Some a → ⊥
    none_some e = absurd cc
root_linked f [] (y ∷ ys) i n h e = absurd h
root_linked f (x ∷ xs) [] i n h e = absurd h
root_linked f (None ∷ xs) (Some m ∷ ys) i n h e = absurd h
root_linked f (Some k ∷ xs) (None ∷ ys) i n h e = absurd h
root_linked f (None ∷ xs) (None ∷ ys) zero n h e = absurd (none_some e)
  where
    none_some : {a : ℕ} → None ≡ Some a → ⊥
    none_some e = absurd cc
root_linked f (None ∷ xs) (None ∷ ys) (suc i) n h e = root_linked f xs ys i n h e
root_linked f (Some k ∷ xs) (Some m ∷ ys) zero n h e = let same : k ≡ n = cc in (m, subst (λ z. Has f (z, m)) same h.0)
root_linked f (Some k ∷ xs) (Some m ∷ ys) (suc i) n h e = root_linked f xs ys i n h.1 e

pub visible_linked : (f : Links) (s t : Structure) → IsLinked f s t → (n : ℕ) → Visible s n → (m : ℕ) × Has f (n, m)
visible_linked f s t l _ (root i n e) = root_linked f s.roots t.roots i n l.roots e
visible_linked f s t l _ (differs_first a b h) = let r = l.differing a b h in (r.0, r.2)
visible_linked f s t l _ (differs_second a b h) = let r = l.differing a b h in (r.1, r.3)
visible_linked f s t l _ (value n g m v e) =
    let r = visible_linked f s t l n v in
    value_linked f (node_at s n).values (node_at t r.0).values g m (l.values n r.0 r.1) e

-- the other way round

abbrev pub flipped : Links → Links
flipped [] = []
flipped (p ∷ ps) = (p.1, p.0) ∷ flipped ps

pub has_flipped : (f : Links) (n m : ℕ) → Has (flipped f) (n, m) → Has f (m, n)
has_flipped [] n m h = absurd h
has_flipped (p ∷ ps) n m (inl e) = inl (λ i. ((e i).1, (e i).0))
has_flipped (p ∷ ps) n m (inr h) = inr (has_flipped ps n m h)

pub flipped_has : (f : Links) (n m : ℕ) → Has f (m, n) → Has (flipped f) (n, m)
flipped_has [] n m h = absurd h
flipped_has (p ∷ ps) n m (inl e) = inl (λ i. ((e i).1, (e i).0))
flipped_has (p ∷ ps) n m (inr h) = inr (flipped_has ps n m h)

valued_flipped : (f : Links) (vs ws : List (ℕ × ℕ)) → Valued f vs ws → Valued (flipped f) ws vs
valued_flipped f [] [] h = tt
valued_flipped f [] (w ∷ ws) h = h
valued_flipped f (v ∷ vs) [] h = h
valued_flipped f (v ∷ vs) (w ∷ ws) h = (sym h.0, flipped_has f w.1 v.1 h.1, valued_flipped f vs ws h.2)

rooted_flipped : (f : Links) (xs ys : List (Option ℕ)) → Rooted f xs ys → Rooted (flipped f) ys xs
rooted_flipped f [] [] h = tt
rooted_flipped f [] (y ∷ ys) h = absurd h
rooted_flipped f (x ∷ xs) [] h = absurd h
rooted_flipped f (None ∷ xs) (None ∷ ys) h = rooted_flipped f xs ys h
rooted_flipped f (None ∷ xs) (Some m ∷ ys) h = h
rooted_flipped f (Some n ∷ xs) (None ∷ ys) h = h
rooted_flipped f (Some n ∷ xs) (Some m ∷ ys) h = (flipped_has f m n h.0, rooted_flipped f xs ys h.1)

pub is_flipped : (f : Links) (s t : Structure) → ((n m k : ℕ) → Has f (n, k) → Has f (m, k) → n ≡ m) → Differing (flipped f) t s → IsLinked f s t → IsLinked (flipped f) t s
is_flipped f s t other differing l = record {
  one = λ n m k h g. other m k n (has_flipped f n m h) (has_flipped f n k g);
  types = λ n m h. sym (l.types m n (has_flipped f n m h));
  values = λ n m h. valued_flipped f (node_at s m).values (node_at t n).values (l.values m n (has_flipped f n m h));
  roots = rooted_flipped f s.roots t.roots l.roots;
  differing = differing;
}

-- linked structures carry one another

values_carried : (f : Links) (to : ℕ → ℕ) → ((n m : ℕ) → Has f (n, m) → to n ≡ m) → (vs ws : List (ℕ × ℕ)) → Valued f vs ws → ws ≡ map (λ v. let r : ℕ × ℕ = (v.0, to v.1) in r) vs
values_carried f to is [] [] h = refl
values_carried f to is [] (w ∷ ws) h = absurd h
values_carried f to is (v ∷ vs) [] h = absurd h
values_carried f to is (v ∷ vs) (w ∷ ws) h =
    let rest = values_carried f to is vs ws h.2 in
    let second = is v.1 w.1 h.1 in
    λ i. (sym h.0 i, sym second i) ∷ rest i

roots_carried : (f : Links) (to : ℕ → ℕ) → ((n m : ℕ) → Has f (n, m) → to n ≡ m) → (xs ys : List (Option ℕ)) → Rooted f xs ys → ys ≡ map (option_map to) xs
roots_carried f to is [] [] h = refl
roots_carried f to is [] (y ∷ ys) h = absurd h
roots_carried f to is (x ∷ xs) [] h = absurd h
roots_carried f to is (None ∷ xs) (None ∷ ys) h = ap (λ (z : List (Option ℕ)). None ∷ z) (roots_carried f to is xs ys h)
roots_carried f to is (None ∷ xs) (Some m ∷ ys) h = absurd h
roots_carried f to is (Some n ∷ xs) (None ∷ ys) h = absurd h
roots_carried f to is (Some n ∷ xs) (Some m ∷ ys) h =
    let rest = roots_carried f to is xs ys h.1 in
    let same = is n m h.0 in
    λ i. Some (sym same i) ∷ rest i

-- from here on a map of visible nodes
visible_there : (f : Links) (s t : Structure) → IsLinked f s t → IsLinked (flipped f) t s → (n : ℕ) → Visible s n → (m : ℕ) → Has f (n, m) → Visible t m
visible_there f s t l back _ (root i n e) m h = go (rooted_at f s.roots t.roots i n l.roots e)
  where
    rooted_at : (f : Links) (xs ys : List (Option ℕ)) (i n : ℕ) → Rooted f xs ys → get_or xs i None ≡ Some n → (m : ℕ) × (get_or ys i None ≡ Some m) × Has f (n, m)
    rooted_at f [] [] i n h e = absurd (none_some e)
      where
        none_some : {a : ℕ} → None ≡ Some a → ⊥
        none_some e = absurd cc
    rooted_at f [] (y ∷ ys) i n h e = absurd h
    rooted_at f (x ∷ xs) [] i n h e = absurd h
    rooted_at f (None ∷ xs) (Some m ∷ ys) i n h e = absurd h
    rooted_at f (Some k ∷ xs) (None ∷ ys) i n h e = absurd h
    rooted_at f (None ∷ xs) (None ∷ ys) zero n h e = absurd (none_some e)
      where
        none_some : {a : ℕ} → None ≡ Some a → ⊥
        none_some e = absurd cc
    rooted_at f (None ∷ xs) (None ∷ ys) (suc i) n h e = rooted_at f xs ys i n h e
    rooted_at f (Some k ∷ xs) (Some m ∷ ys) zero n h e = let same : k ≡ n = cc in (m, refl, subst (λ z. Has f (z, m)) same h.0)
    rooted_at f (Some k ∷ xs) (Some m ∷ ys) (suc i) n h e = rooted_at f xs ys i n h.1 e

    go : (k : ℕ) × (root_at t i ≡ Some k) × Has f (n, k) → Visible t m
    go r = subst (λ z. Visible t z) (l.one n r.0 m r.2 h) (root i r.0 r.1)
visible_there f s t l back _ (differs_first a b k) m h = go (l.differing a b k)
  where
    go : (c : ℕ) × (d : ℕ) × Has f (a, c) × Has f (b, d) × Differs t c d → Visible t m
    go r = subst (λ z. Visible t z) (l.one a r.0 m r.2 h) (either r.4)
      where
        either : Differs t r.0 r.1 → Visible t r.0
        either (inl x) = differs_first r.0 r.1 x
        either (inr x) = differs_second r.1 r.0 x
visible_there f s t l back _ (differs_second a b k) m h = go (l.differing a b k)
  where
    go : (c : ℕ) × (d : ℕ) × Has f (a, c) × Has f (b, d) × Differs t c d → Visible t m
    go r = subst (λ z. Visible t z) (l.one b r.1 m r.3 h) (either r.4)
      where
        either : Differs t r.0 r.1 → Visible t r.1
        either (inl x) = differs_second r.0 r.1 x
        either (inr x) = differs_first r.1 r.0 x
visible_there f s t l back _ (value n g k v e) m h =
    let up = visible_linked f s t l n v in
    let over = visible_there f s t l back n v up.0 up.1 in
    let at = valued_at f (node_at s n).values (node_at t up.0).values g k (l.values n up.0 up.1) e in
    subst (λ z. Visible t z) (l.one k at.0 m at.2 h) (value up.0 g at.0 over at.1)
  where
    valued_at : (f : Links) (vs ws : List (ℕ × ℕ)) (g m : ℕ) → Valued f vs ws → value_in vs g ≡ Some m → (k : ℕ) × (value_in ws g ≡ Some k) × Has f (m, k)
    valued_at f [] [] g m h e = absurd (none_some e)
      where
        none_some : {a : ℕ} → None ≡ Some a → ⊥
        none_some e = absurd cc
    valued_at f [] (w ∷ ws) g m h e = absurd h
    valued_at f (v ∷ vs) [] g m h e = absurd h
    valued_at f (v ∷ vs) (w ∷ ws) g m h e = go (eqb v.0 g) refl e (valued_at f vs ws g m h.2)
      where
        go : (b : Bool) → eqb v.0 g ≡ b → (if b then Some v.1 else value_in vs g) ≡ Some m → (value_in vs g ≡ Some m → (k : ℕ) × (value_in ws g ≡ Some k) × Has f (m, k))
            → (k : ℕ) × ((if eqb w.0 g then Some w.1 else value_in ws g) ≡ Some k) × Has f (m, k)
        go true b e ih =
            let same : v.1 ≡ m = cc in
            (w.1, ap (λ c. if c then Some w.1 else value_in ws g) (ap (λ z. eqb z g) (sym h.0) ∙ b), subst (λ z. Has f (z, w.1)) same h.1)
        go false b e ih =
            let r = ih e in
            (r.0, ap (λ c. if c then Some w.1 else value_in ws g) (ap (λ z. eqb z g) (sym h.0) ∙ b) ∙ r.1, r.2)

carries : (f : Links) (s t : Structure) → IsLinked f s t → IsLinked (flipped f) t s → Carries s t (linked f)
carries f s t l back = record {
  visible = λ n v. let r = visible_linked f s t l n v in visible_there f s t l back n v (linked f n) (linked_has f n r.0 r.1);
  type = λ n v. let r = visible_linked f s t l n v in sym (l.types n (linked f n) (linked_has f n r.0 r.1));
  values = λ n v.
      let r = visible_linked f s t l n v in
      values_carried f (linked f) (linked_is f s t l) (node_at s n).values (node_at t (linked f n)).values (l.values n (linked f n) (linked_has f n r.0 r.1));
  roots = roots_carried f (linked f) (linked_is f s t l) s.roots t.roots l.roots;
  differ = λ a b h. differ a b h;
}
  where
    swapped : (a b : ℕ) → Differs t a b → Differs t b a
    swapped a b (inl x) = inr x
    swapped a b (inr x) = inl x

    at : (a b : ℕ) → (c : ℕ) × (d : ℕ) × Has f (a, c) × Has f (b, d) × Differs t c d → Differs t (linked f a) (linked f b)
    at a b r =
        subst (λ z. Differs t z (linked f b)) (sym (linked_is f s t l a r.0 r.2))
        (subst (λ z. Differs t r.0 z) (sym (linked_is f s t l b r.1 r.3)) r.4)

    differ : (a b : ℕ) → Differs s a b → Differs t (linked f a) (linked f b)
    differ a b (inl h) = at a b (l.differing a b h)
    differ a b (inr h) = swapped (linked f b) (linked f a) (at b a (l.differing b a h))

pub same_linked : (f : Links) (s t : Structure) → IsLinked f s t → IsLinked (flipped f) t s → IsSame s t
same_linked f s t l back = record {
  there = linked f;
  back = linked (flipped f);
  carried = carries f s t l back;
  carried_back = carries (flipped f) t s back (subst (λ (z : Links). IsLinked z s t) (sym (same f)) l);
  undone = λ n v.
      let r = visible_linked f s t l n v in
      linked_is (flipped f) t s back (linked f n) n (flipped_has f (linked f n) n (linked_has f n r.0 r.1));
  undone_back = λ n v.
      let r = visible_linked (flipped f) t s back n v in
      linked_is f s t l (linked (flipped f) n) n (has_flipped f n (linked (flipped f) n) (linked_has (flipped f) n r.0 r.1));
}
  where
    same : (f : Links) → flipped (flipped f) ≡ f
    same [] = refl
    same (p ∷ ps) = ap (λ (z : Links). p ∷ z) (same ps)
