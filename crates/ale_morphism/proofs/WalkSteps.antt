-- The walk from the roots: every morphism goes where the walk says, and each node that the roots reach is met.
use Rattle.std.proofs.Common.{◌≡◌, ℕ, zero, suc, ◌+◌, ◌<◌, ◌≤◌, Bool, true, false, eqb, IsTrue, List, [], ◌∷◌, ◌++◌, set, length, get_or, drop, replicate, length-append, ◌⊎◌, inl, inr, refl, sym, ap, ◌∙◌, subst, arith, Option, Some, None, if◌then◌else◌}
use Rattle.std.proofs.lemmas.Bool.{eq-eqb}
use Rattle.std.proofs.lemmas.List.{length-set, length-replicate, get_or-replicate, get_or-set_same, get_or-set_other}
use Rattle.ale_declared.specs.Lists.{Has}
use Rattle.ale_hierarchy.specs.Hierarchy.{Hierarchy}
use Rattle.ale_graph.specs.Structures.{Structure, count, node_at, value_of, root_at, is_formed}
use Rattle.ale_graph.specs.Morphisms.{IsMorphism}
use Rattle.ale_morphism.specs.declared.walk.Walk.{Walk}
use Rattle.ale_morphism.specs.Rooted.{FromRoots, IsRooted}
use Rattle.ale_morphism.specs.Matched.{IsMatched, HasNoMorphism}
use Rattle.ale_morphism.specs.Walking.{Walking, lists_of, walking_of, known, send_known, send, send_to, send_values, send_root, send_roots, visit_known, visit}
use Rattle.ale_graph.proofs.Lists.{some_one, none_some, has_left, has_right, has_either}
use Rattle.ale_graph.proofs.Structures.{get_past}
use Rattle.ale_graph.proofs.Entries.{same_or_not}
use Rattle.ale_morphism.proofs.MorphismSteps.{first_dropped, entry_of, entry_value}
use Rattle.ale_morphism.proofs.ReachSteps.{node_parts, value_inside as value_below, root_below}

-- it is known where the node must go
abbrev pub IsKnown : Walking → ℕ → Type 0
IsKnown w n = (k : ℕ) × (known w n ≡ Some k)

-- what a list of options has after one was written
set_reads : (xs : List (Option ℕ)) (n to k i : ℕ) → get_or (set xs n (Some to)) k None ≡ Some i → ((k ≡ n) × (i ≡ to)) ⊎ (get_or xs k None ≡ Some i)
set_reads xs n to k i e = go (same_or_not k n) (grind arith)
  where
    go : (k ≡ n) ⊎ (k ≡ n → ⊥) → (n < length xs) ⊎ (length xs ≤ n) → ((k ≡ n) × (i ≡ to)) ⊎ (get_or xs k None ≡ Some i)
    go (inr ne) o = inr (sym (get_or-set_other xs n k (Some to) None ne) ∙ e)
    go (inl q) (inl lt) =
        let here : get_or (set xs n (Some to)) k None ≡ Some to = ap (λ z. get_or (set xs n (Some to)) z None) q ∙ get_or-set_same xs n (Some to) None lt in
        inl (q, some_one (sym e ∙ here))
    go (inl q) (inr le) =
        let len = length-set xs n (Some to) in
        absurd (none_some (sym (get_past (set xs n (Some to)) k None (omega arith)) ∙ e))

-- of how many nodes it isn't known
unknown : List (Option ℕ) → ℕ
unknown [] = 0
unknown (None ∷ xs) = suc (unknown xs)
unknown (Some k ∷ xs) = unknown xs

unknown_set : (xs : List (Option ℕ)) (n to : ℕ) → n < length xs → get_or xs n None ≡ None → suc (unknown (set xs n (Some to))) ≡ unknown xs
unfolding unknown
unknown_set [] n to lt e = absurd (omega arith)
unknown_set (None ∷ xs) zero to lt e = refl
unknown_set (Some k ∷ xs) zero to lt e = absurd (none_some (sym e))
unknown_set (None ∷ xs) (suc n) to lt e = ap suc (unknown_set xs n to (omega arith) e)
unknown_set (Some k ∷ xs) (suc n) to lt e = unknown_set xs n to (omega arith) e

pub left : Walking → ℕ
left w = unknown w.images + length w.waiting

-- what a step of the walk keeps
pub record Grows (w u : Walking) : Type 0 where
  pub covers : length u.images ≡ length w.images
  pub kept : (n : ℕ) → IsKnown w n → IsKnown u n
  pub new : (n : ℕ) → IsKnown u n → IsKnown w n ⊎ Has u.waiting n
  pub waits : (n : ℕ) → Has w.waiting n → Has u.waiting n
  pub less : left u ≡ left w

grows_self : (w : Walking) → Grows w w
grows_self w = record { covers = refl; kept = λ n k. k; new = λ n k. inl k; waits = λ n p. p; less = refl }

grows_on : (w u v : Walking) → Grows w u → Grows u v → Grows w v
grows_on w u v a b = record {
  covers = b.covers ∙ a.covers;
  kept = λ n k. b.kept n (a.kept n k);
  new = λ n k. elim (b.new n k) [ inl q ↦ elim (a.new n q) [ inl o ↦ inl o | inr p ↦ inr (b.waits n p) ] | inr p ↦ inr p ];
  waits = λ n p. b.waits n (a.waits n p);
  less = b.less ∙ a.less;
}

-- a step that goes on, and what it makes known
pub record Sent (w u : Walking) (n : ℕ) : Type 0 where
  pub grows : Grows w u
  pub is : IsKnown u n

send_grows : (n to : ℕ) (w u : Walking) → n < length w.images → send n to w ≡ Some u → Sent w u n
unfolding left
send_grows n to w u lt e = go (known w n) refl e
  where
    first : Walking
    first = record { images = set w.images n (Some to); waiting = w.waiting ++ n ∷ [] }

    there : known first n ≡ Some to
    there = get_or-set_same w.images n (Some to) None lt

    new : (k : ℕ) → IsKnown first k → IsKnown w k ⊎ Has first.waiting k
    new k q = elim (set_reads w.images n to k q.0 q.1) [ inl z ↦ inr (has_right w.waiting (n ∷ []) k (inl z.0)) | inr z ↦ inl (q.0, z) ]

    kept : known w n ≡ None → (k : ℕ) → IsKnown w k → IsKnown first k
    kept none k q = pick (same_or_not k n)
      where
        pick : (k ≡ n) ⊎ (k ≡ n → ⊥) → IsKnown first k
        pick (inl z) = absurd (none_some (sym none ∙ ap (known w) (sym z) ∙ q.1))
        pick (inr z) = (q.0, get_or-set_other w.images n k (Some to) None z ∙ q.1)

    fewer : known w n ≡ None → left first ≡ left w
    fewer none = let a = unknown_set w.images n to lt none in let b = length-append w.waiting (n ∷ []) in omega arith

    sent : known w n ≡ None → Sent w first n
    sent none = record {
      grows = record { covers = length-set w.images n (Some to); kept = kept none; new = new; waits = λ k p. has_left w.waiting (n ∷ []) k p; less = fewer none };
      is = (to, there);
    }

    go : (o : Option ℕ) → known w n ≡ o → send_known n to o w ≡ Some u → Sent w u n
    go None none q = subst (λ (z : Walking). Sent w z n) (some_one q) (sent none)
    go (Some k) is q = pick (eqb k to) q
      where
        pick : (b : Bool) → (if b then Some w else None) ≡ Some u → Sent w u n
        pick true q = subst (λ (z : Walking). Sent w z n) (some_one q) (record { grows = grows_self w; is = (k, is) })
        pick false q = absurd (none_some q)

send_to_grows : (n : ℕ) (o : Option ℕ) (w u : Walking) → n < length w.images → send_to n o w ≡ Some u → Sent w u n
send_to_grows n None w u lt e = absurd (none_some e)
send_to_grows n (Some to) w u lt e = send_grows n to w u lt e

send_values_grows : (t : Structure) (to : ℕ) (vs : List (ℕ × ℕ)) (w u : Walking) → ((v : ℕ × ℕ) → Has vs v → v.1 < length w.images) → send_values t to vs w ≡ Some u → Grows w u × ((v : ℕ × ℕ) → Has vs v → IsKnown u v.1)
send_values_grows t to [] w u below e = (subst (Grows w) (some_one e) (grows_self w), λ v p. absurd p)
send_values_grows t to (v ∷ vs) w u below e = go (λ x. send_values_grows t to vs x u) (send_to v.1 (value_of t to v.0) w) refl e
  where
    go : ((x : Walking) → ((y : ℕ × ℕ) → Has vs y → y.1 < length x.images) → send_values t to vs x ≡ Some u → Grows x u × ((y : ℕ × ℕ) → Has vs y → IsKnown u y.1)) → (r : Option Walking) → send_to v.1 (value_of t to v.0) w ≡ r → elim r [ None ↦ None | Some x ↦ send_values t to vs x ] ≡ Some u → Grows w u × ((x : ℕ × ℕ) → Has (v ∷ vs) x → IsKnown u x.1)
    go ih None is q = absurd (none_some q)
    go ih (Some x) is q =
        let s = send_to_grows v.1 (value_of t to v.0) w x (below v (inl refl)) is in
        let c = s.grows.covers in
        let r = ih x (λ y p. subst (λ z. y.1 < z) (sym c) (below y (inr p))) q in
        (grows_on w x u s.grows r.0, λ y p. known_now s r y p)
      where
        known_now : Sent w x v.1 → Grows x u × ((y : ℕ × ℕ) → Has vs y → IsKnown u y.1) → (y : ℕ × ℕ) → Has (v ∷ vs) y → IsKnown u y.1
        known_now s r y (inl p) = subst (λ (z : ℕ × ℕ). IsKnown u z.1) (sym p) (r.0.kept v.1 s.is)
        known_now s r y (inr p) = r.1 y p

send_roots_grows : (rs ts : List (Option ℕ)) (w u : Walking) → ((i n : ℕ) → get_or rs i None ≡ Some n → n < length w.images) → send_roots rs ts w ≡ Some u → Grows w u × ((i n : ℕ) → get_or rs i None ≡ Some n → IsKnown u n)
send_roots_grows [] ts w u below e = (subst (Grows w) (some_one e) (grows_self w), λ i n q. absurd (none_some q))
send_roots_grows (r ∷ rs) ts w u below e = go (λ x. send_roots_grows rs (drop 1 ts) x u) r refl (send_root r (get_or ts 0 None) w) refl e
  where
    later : ((x : Walking) → ((i n : ℕ) → get_or rs i None ≡ Some n → n < length x.images) → send_roots rs (drop 1 ts) x ≡ Some u → Grows x u × ((i n : ℕ) → get_or rs i None ≡ Some n → IsKnown u n)) → (x : Walking) → Grows w x → ((n : ℕ) → r ≡ Some n → IsKnown x n) → send_roots rs (drop 1 ts) x ≡ Some u → Grows w u × ((i n : ℕ) → get_or (r ∷ rs) i None ≡ Some n → IsKnown u n)
    later ih x g first q =
        let c = g.covers in
        let more = ih x (λ i n z. subst (λ y. n < y) (sym c) (below (suc i) n z)) q in
        (grows_on w x u g more.0, λ i n z. at more i n z)
      where
        at : Grows x u × ((i n : ℕ) → get_or rs i None ≡ Some n → IsKnown u n) → (i n : ℕ) → get_or (r ∷ rs) i None ≡ Some n → IsKnown u n
        at more zero n z = more.0.kept n (first n z)
        at more (suc i) n z = more.1 i n z

    go : ((x : Walking) → ((i n : ℕ) → get_or rs i None ≡ Some n → n < length x.images) → send_roots rs (drop 1 ts) x ≡ Some u → Grows x u × ((i n : ℕ) → get_or rs i None ≡ Some n → IsKnown u n)) → (o : Option ℕ) → r ≡ o → (a : Option Walking) → send_root r (get_or ts 0 None) w ≡ a → elim a [ None ↦ None | Some x ↦ send_roots rs (drop 1 ts) x ] ≡ Some u → Grows w u × ((i n : ℕ) → get_or (r ∷ rs) i None ≡ Some n → IsKnown u n)
    go ih o root None is q = absurd (none_some q)
    go ih None root (Some x) is q =
        let same : w ≡ x = some_one (sym (ap (λ z. send_root z (get_or ts 0 None) w) root) ∙ is) in
        later ih x (subst (Grows w) same (grows_self w)) (λ n z. absurd (none_some (sym root ∙ z))) q
    go ih (Some m) root (Some x) is q =
        let s = send_to_grows m (get_or ts 0 None) w x (below 0 m root) (sym (ap (λ z. send_root z (get_or ts 0 None) w) root) ∙ is) in
        later ih x s.grows (λ n z. subst (IsKnown x) (some_one (sym root ∙ z)) s.is) q

-- what a map and a walk that goes on say alike
abbrev pub Agrees : (ℕ → ℕ) → List (Option ℕ) → Type 0
Agrees at images = (n k : ℕ) → get_or images n None ≡ Some k → at n ≡ k

-- the walk goes on, and the map goes where it says
abbrev pub Goes : (ℕ → ℕ) → Option Walking → Type 0
Goes at None = ⊥
Goes at (Some w) = Agrees at w.images

-- only nodes of the structure are known
known_below : (w : Walking) (n : ℕ) → IsKnown w n → n < length w.images
known_below w n k = go (grind arith)
  where
    go : (n < length w.images) ⊎ (length w.images ≤ n) → n < length w.images
    go (inl lt) = lt
    go (inr le) = absurd (none_some (sym (get_past w.images n None le) ∙ k.1))

module _ (at : ℕ → ℕ) where
  send_goes : (n to : ℕ) (w : Walking) → Agrees at w.images → at n ≡ to → Goes at (send n to w)
  send_goes n to w a e = go (known w n) refl
    where
      go : (o : Option ℕ) → known w n ≡ o → Goes at (send_known n to o w)
      go None is = λ k i q. elim (set_reads w.images n to k i q) [ inl z ↦ ap at z.0 ∙ e ∙ sym z.1 | inr z ↦ a k i z ]
      go (Some there) is =
          let same : there ≡ to = sym (a n there is) ∙ e in
          subst (λ b. Goes at (if b then Some w else None)) (sym (eq-eqb there to same)) a

  send_to_goes : (n : ℕ) (o : Option ℕ) (w : Walking) → Agrees at w.images → o ≡ Some (at n) → Goes at (send_to n o w)
  send_to_goes n None w a e = none_some e
  send_to_goes n (Some to) w a e = send_goes n to w a (sym (some_one e))

  send_values_goes : (t : Structure) (to : ℕ) (vs : List (ℕ × ℕ)) (w : Walking) → Agrees at w.images → ((v : ℕ × ℕ) → Has vs v → value_of t to v.0 ≡ Some (at v.1)) → Goes at (send_values t to vs w)
  send_values_goes t to [] w a all = a
  send_values_goes t to (v ∷ vs) w a all = go (λ x g. send_values_goes t to vs x g (λ y p. all y (inr p))) (send_to v.1 (value_of t to v.0) w) (send_to_goes v.1 (value_of t to v.0) w a (all v (inl refl)))
    where
      go : ((x : Walking) → Agrees at x.images → Goes at (send_values t to vs x)) → (r : Option Walking) → Goes at r → Goes at (elim r [ None ↦ None | Some x ↦ send_values t to vs x ])
      go ih None g = g
      go ih (Some x) g = ih x g

  send_root_goes : (r o : Option ℕ) (w : Walking) → Agrees at w.images → ((n : ℕ) → r ≡ Some n → o ≡ Some (at n)) → Goes at (send_root r o w)
  send_root_goes None o w a to = a
  send_root_goes (Some n) o w a to = send_to_goes n o w a (to n refl)

  send_roots_goes : (rs ts : List (Option ℕ)) (w : Walking) → Agrees at w.images → ((i n : ℕ) → get_or rs i None ≡ Some n → get_or ts i None ≡ Some (at n)) → Goes at (send_roots rs ts w)
  send_roots_goes [] ts w a all = a
  send_roots_goes (r ∷ rs) ts w a all = go (λ x g. send_roots_goes rs (drop 1 ts) x g (λ i n q. first_dropped ts i ∙ all (suc i) n q)) (send_root r (get_or ts 0 None) w) (send_root_goes r (get_or ts 0 None) w a (λ n q. all 0 n q))
    where
      go : ((x : Walking) → Agrees at x.images → Goes at (send_roots rs (drop 1 ts) x)) → (x : Option Walking) → Goes at x → Goes at (elim x [ None ↦ None | Some u ↦ send_roots rs (drop 1 ts) u ])
      go ih None g = g
      go ih (Some u) g = ih u g

  visit_goes : (h : Hierarchy) (s t : Structure) → IsTrue (is_formed s) → IsMorphism h s t at → (n : ℕ) (w : Walking) → length w.images ≡ count s → Agrees at w.images → Goes at (visit s t n w)
  visit_goes h s t formed m n w covers a = go (known w n) refl
    where
      value : (to : ℕ) → known w n ≡ Some to → (v : ℕ × ℕ) → Has (node_at s n).values v → value_of t to v.0 ≡ Some (at v.1)
      value to is v p =
          let lt : n < count s = subst (λ z. n < z) covers (known_below w n (to, is)) in
          let e = m.aside.values n v.0 v.1 (entry_value (node_at s n).values v (node_parts s formed n lt).1 p) in
          ap (λ z. value_of t z v.0) (sym (a n to is)) ∙ e

      go : (o : Option ℕ) → known w n ≡ o → Goes at (visit_known s t n o w)
      go None is = a
      go (Some to) is = send_values_goes t to (node_at s n).values w a (λ v p. value to is v p)

-- the walk between two visits
pub record IsWalk (s t : Structure) (w : Walking) : Type 0 where
  pub covers : length w.images ≡ count s
  pub roots : (i n : ℕ) → root_at s i ≡ Some n → IsKnown w n
  -- the values of each node that is known are known too, or wait for it
  pub values : (n : ℕ) → IsKnown w n → Has w.waiting n ⊎ ((f m : ℕ) → value_of s n f ≡ Some m → IsKnown w m)
  pub must : (h : Hierarchy) (at : ℕ → ℕ) → IsMorphism h s t at → Agrees at w.images

module _ (s t : Structure) (formed : IsTrue (is_formed s)) where
  none_known : (w : Walking) → w.images ≡ replicate (count s) None → (n : ℕ) → IsKnown w n → ⊥
  none_known w images n k = go (grind arith)
    where
      go : (n < count s) ⊎ (count s ≤ n) → ⊥
      go (inl lt) = none_some (sym (ap (λ (z : List (Option ℕ)). get_or z n None) images ∙ get_or-replicate (count s) n None None lt) ∙ k.1)
      go (inr le) =
          let len : length w.images ≡ count s = ap (λ (z : List (Option ℕ)). length z) images ∙ length-replicate (count s) None in
          none_some (sym (get_past w.images n None (omega arith)) ∙ k.1)

  pub walk_starts : (w u : Walking) → w.images ≡ replicate (count s) None → w.waiting ≡ [] → send_roots s.roots t.roots w ≡ Some u → IsWalk s t u
  walk_starts w u images waiting e = record {
    covers = r.0.covers ∙ len;
    roots = r.1;
    values = λ n k. elim (r.0.new n k) [ inl q ↦ absurd (none n q) | inr p ↦ inl p ];
    must = λ h at m. subst (Goes at) e (send_roots_goes at s.roots t.roots w (λ n k q. absurd (none n (k, q))) m.roots);
  }
    where
      len : length w.images ≡ count s
      len = ap length images ∙ length-replicate (count s) None

      none : (n : ℕ) → IsKnown w n → ⊥
      none n k = none_known w images n k

      r : Grows w u × ((i n : ℕ) → root_at s i ≡ Some n → IsKnown u n)
      r = send_roots_grows s.roots t.roots w u (λ i n q. subst (λ z. n < z) (sym len) (root_below s formed i n q)) e

  pub walk_fails : (w : Walking) → w.images ≡ replicate (count s) None → send_roots s.roots t.roots w ≡ None → HasNoMorphism s t
  walk_fails w images e h at m = subst (Goes at) e (send_roots_goes at s.roots t.roots w (λ n k q. absurd (none n (k, q))) m.roots)
    where
      none : (n : ℕ) → IsKnown w n → ⊥
      none n k = none_known w images n k

  -- a node's values are among those that the walk has met after its visit
  visit_grows : (n : ℕ) (r u : Walking) → length r.images ≡ count s → visit s t n r ≡ Some u → Grows r u × (IsKnown r n → (f m : ℕ) → value_of s n f ≡ Some m → IsKnown u m)
  visit_grows n r u covers e = go (known r n) refl e
    where
      go : (o : Option ℕ) → known r n ≡ o → visit_known s t n o r ≡ Some u → Grows r u × (IsKnown r n → (f m : ℕ) → value_of s n f ≡ Some m → IsKnown u m)
      go None is q = (subst (Grows r) (some_one q) (grows_self r), λ k f m v. absurd (none_some (sym is ∙ k.1)))
      go (Some to) is q =
          let lt : n < count s = subst (λ z. n < z) covers (known_below r n (to, is)) in
          let g = send_values_grows t to (node_at s n).values r u (λ v p. subst (λ z. v.1 < z) (sym covers) (value_below s formed n lt v p)) q in
          (g.0, λ k f m v. g.1 (f, m) (entry_of (node_at s n).values f m v))

  -- one visit, of the last node that waits
  pub visit_keeps : (n : ℕ) (w r u : Walking) → IsWalk s t w → r.images ≡ w.images → w.waiting ≡ r.waiting ++ n ∷ [] → visit s t n r ≡ Some u → IsWalk s t u × (left u < left w)
  unfolding left
  visit_keeps n w r u k images waiting e = (walk, fewer)
    where
      covers : length r.images ≡ count s
      covers = ap (λ (z : List (Option ℕ)). length z) images ∙ k.covers

      g : Grows r u × (IsKnown r n → (f m : ℕ) → value_of s n f ≡ Some m → IsKnown u m)
      g = visit_grows n r u covers e

      to_r : (m : ℕ) → IsKnown w m → IsKnown r m
      to_r m q = (q.0, ap (λ (z : List (Option ℕ)). get_or z m None) images ∙ q.1)

      from_r : (m : ℕ) → IsKnown r m → IsKnown w m
      from_r m q = (q.0, sym (ap (λ (z : List (Option ℕ)). get_or z m None) images) ∙ q.1)

      waits : (m : ℕ) → IsKnown w m → Has r.waiting m ⊎ Has (n ∷ []) m → Has u.waiting m ⊎ ((f v : ℕ) → value_of s m f ≡ Some v → IsKnown u v)
      waits m q (inl p) = inl (g.0.waits m p)
      waits m q (inr (inl z)) = inr (λ f v x. g.1 (to_r n (subst (IsKnown w) z q)) f v (ap (λ y. value_of s y f) (sym z) ∙ x))
      waits m q (inr (inr p)) = absurd p

      old : (m : ℕ) → IsKnown w m → Has w.waiting m ⊎ ((f v : ℕ) → value_of s m f ≡ Some v → IsKnown w v) → Has u.waiting m ⊎ ((f v : ℕ) → value_of s m f ≡ Some v → IsKnown u v)
      old m q (inl p) = waits m q (has_either r.waiting (n ∷ []) m (subst (λ (z : List ℕ). Has z m) waiting p))
      old m q (inr all) = inr (λ f v x. g.0.kept v (to_r v (all f v x)))

      values : (m : ℕ) → IsKnown r m ⊎ Has u.waiting m → Has u.waiting m ⊎ ((f v : ℕ) → value_of s m f ≡ Some v → IsKnown u v)
      values m (inl q) = old m (from_r m q) (k.values m (from_r m q))
      values m (inr p) = inl p

      walk : IsWalk s t u
      walk = record {
        covers = g.0.covers ∙ covers;
        roots = λ i m q. g.0.kept m (to_r m (k.roots i m q));
        values = λ m q. values m (g.0.new m q);
        must = λ h at m. subst (Goes at) e (visit_goes at h s t formed m n r covers (subst (Agrees at) (sym images) (k.must h at m)));
      }

      fewer : left u < left w
      fewer =
          let a = g.0.less in
          let b = ap unknown images in
          let c = ap (λ (z : List ℕ). length z) waiting in
          let d = length-append r.waiting (n ∷ []) in
          omega arith

  pub visit_fails : (n : ℕ) (w r : Walking) → IsWalk s t w → r.images ≡ w.images → visit s t n r ≡ None → HasNoMorphism s t
  visit_fails n w r k images e h at m =
      let covers : length r.images ≡ count s = ap (λ (z : List (Option ℕ)). length z) images ∙ k.covers in
      subst (Goes at) e (visit_goes at h s t formed m n r covers (subst (Agrees at) (sym images) (k.must h at m)))

  -- where none waits, each node that the roots reach is known
  reached : (w : Walking) → IsWalk s t w → w.waiting ≡ [] → (n : ℕ) → FromRoots s n → IsKnown w n
  reached w k none n (FromRoots.root i _ e) = k.roots i n e
  reached w k none n (FromRoots.value p f _ from e) = go (k.values p (reached w k none p from))
    where
      go : Has w.waiting p ⊎ ((f m : ℕ) → value_of s p f ≡ Some m → IsKnown w m) → IsKnown w n
      go (inl h) = absurd (subst (λ (z : List ℕ). Has z p) none h)
      go (inr all) = all f n e

  pub walk_ends : (w : Walking) → IsWalk s t w → w.waiting ≡ [] → IsRooted s → IsMatched s t w.images
  walk_ends w k none rooted = record {
    covers = k.covers;
    all = λ n lt. reached w k none n (rooted n lt);
    must = k.must;
  }

  -- the same of the code's walk and answers
  pub code_starts : (rs ts : List (Option ℕ)) (w : Walking) (u : Walk) (b : Bool) → rs ≡ s.roots → ts ≡ t.roots → w.images ≡ replicate (count s) None → w.waiting ≡ [] → walking_of u b ≡ send_roots rs ts w → b ≡ true → IsWalk s t (lists_of u)
  code_starts rs ts w u b r o images waiting e goes =
      walk_starts w (lists_of u) images waiting (sym (ap (λ z. send_roots z ts w) r ∙ ap (λ z. send_roots s.roots z w) o) ∙ sym e ∙ ap (walking_of u) goes)

  pub code_fails : (rs ts : List (Option ℕ)) (w : Walking) (u : Walk) (b : Bool) → rs ≡ s.roots → ts ≡ t.roots → w.images ≡ replicate (count s) None → walking_of u b ≡ send_roots rs ts w → b ≡ false → HasNoMorphism s t
  code_fails rs ts w u b r o images e ends =
      walk_fails w images (sym (ap (λ z. send_roots z ts w) r ∙ ap (λ z. send_roots s.roots z w) o) ∙ sym e ∙ ap (walking_of u) ends)

  pub code_visits : (n : ℕ) (w r : Walking) (u : Walk) (b : Bool) → IsWalk s t w → r.images ≡ w.images → w.waiting ≡ r.waiting ++ n ∷ [] → walking_of u b ≡ visit s t n r → b ≡ true → IsWalk s t (lists_of u) × (left (lists_of u) < left w)
  code_visits n w r u b k images waiting e goes = visit_keeps n w r (lists_of u) k images waiting (sym e ∙ ap (walking_of u) goes)

  pub code_visit_fails : (n : ℕ) (w r : Walking) (u : Walk) (b : Bool) → IsWalk s t w → r.images ≡ w.images → walking_of u b ≡ visit s t n r → b ≡ false → HasNoMorphism s t
  code_visit_fails n w r u b k images e ends = visit_fails n w r k images (sym e ∙ ap (walking_of u) ends)
