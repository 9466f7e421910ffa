-- The flags of the visible nodes, round by round, and that the visible part of a structure is in order.
use Rattle.std.proofs.Common.{◌≡◌, ℕ, zero, suc, ◌+◌, ◌-◌, ◌<◌, ◌≤◌, Bool, true, false, ◌&&◌, ◌||◌, eqb, ltb, IsTrue, List, [], ◌∷◌, ◌++◌, map, set, length, get_or, length-append, option_map, ◌⊎◌, inl, inr, refl, sym, ap, ◌∙◌, subst, arith, Option, Some, None, if◌then◌else◌}
use Rattle.std.proofs.Math.Bool.{beq}
use Rattle.std.specs.Cmp.Lexicographic.{pointwise}
use Rattle.std.specs.Cmp.{booleans_Decides}
use Rattle.std.proofs.lemmas.Bool.{and_parts, and_from, eq-eqb, ne_eqb, lt-ltb, ltb-true}
use Rattle.std.proofs.lemmas.List.{map-append, length-map, length-set, get_or-set_same, get_or-set_other, same_lists}
use Rattle.ale_declared.specs.Lists.{Has, upto, every}
use Rattle.ale_graph.specs.declared.node.Node.{Node}
use Rattle.ale_graph.specs.Structures.{Structure, count, node_at, root_at, is_rising, is_node, is_root, is_formed}
use Rattle.ale_morphism.specs.Visible.{some, is_bound_to, is_start, is_value_of, is_reached, is_visible, visible_below, renumbered, visible_node, visible}
use Rattle.ale_morphism.specs.Reaching.{starting, marked, marked_by, spread, flags_of, number_in, numbered, built}
use Rattle.ale_graph.proofs.Lists.{none_some, has_either, has_map, below_upto, length_upto, get_upto, every_has, every_from}
use Rattle.ale_graph.proofs.Structures.{get_has, get_past}
use Rattle.ale_graph.proofs.Vectors.{get_map}
use Rattle.ale_graph.proofs.Entries.{same_or_not}
use Rattle.ale_graph.proofs.Mapped.{mapped_rises}
use Rattle.ale_morphism.proofs.Reaching.{IsStable, stays, grows, some_from, value_visible}

pub get_flag : (test : ℕ → Bool) (c n : ℕ) → n < c → get_or (map test (upto c)) n false ≡ test n
get_flag test c n lt = let len = length_upto c in get_map test (upto c) n 0 false (omega arith) ∙ ap test (get_upto c n 0 lt)

pub bits_same : (xs ys : List Bool) → pointwise beq xs ys ≡ true → xs ≡ ys
bits_same [] [] e = refl
bits_same [] (y ∷ ys) e = let bad : true ≡ false = sym e in absurd cc
bits_same (x ∷ xs) [] e = let bad : true ≡ false = sym e in absurd cc
bits_same (x ∷ xs) (y ∷ ys) e =
    let both = and_parts (beq x y) (pointwise beq xs ys) e in
    let first = (booleans_Decides x y).0 both.0 in
    let rest = bits_same xs ys both.1 in
    λ i. first i ∷ rest i

-- flags of the same tests are the same
pub flags_same : (c : ℕ) (f g : ℕ → Bool) → ((n : ℕ) → n < c → f n ≡ g n) → map f (upto c) ≡ map g (upto c)
flags_same c f g all = go (upto c) (λ n p. all n (below_upto c n p))
  where
    go : (xs : List ℕ) → ((n : ℕ) → Has xs n → f n ≡ g n) → map f xs ≡ map g xs
    go [] all = refl
    go (x ∷ xs) all =
        let first = all x (inl refl) in
        let rest = go xs (λ n p. all n (inr p)) in
        λ i. first i ∷ rest i

flags_one : (c : ℕ) (f g : ℕ → Bool) → map f (upto c) ≡ map g (upto c) → (n : ℕ) → n < c → f n ≡ g n
flags_one c f g e n lt = sym (get_flag f c n lt) ∙ ap (λ z. get_or z n false) e ∙ get_flag g c n lt

set_flags : (c : ℕ) (f : ℕ → Bool) (v : ℕ) → set (map f (upto c)) v true ≡ map (λ n. f n || eqb n v) (upto c)
set_flags c f v = same_lists (set (map f (upto c)) v true) (map (λ n. f n || eqb n v) (upto c)) lengths (λ k d lt. at k d lt (same_or_not k v))
  where
    lengths : length (set (map f (upto c)) v true) ≡ length (map (λ n. f n || eqb n v) (upto c))
    lengths = length-set (map f (upto c)) v true ∙ length-map (upto c) f ∙ sym (length-map (upto c) (λ n. f n || eqb n v))

    or_true : (b : Bool) → (b || true) ≡ true
    or_true true = refl
    or_true false = refl

    or_false : (b : Bool) → (b || false) ≡ b
    or_false true = refl
    or_false false = refl

    at : (k : ℕ) (d : Bool) → k < length (set (map f (upto c)) v true) → (k ≡ v) ⊎ (k ≡ v → ⊥) → get_or (set (map f (upto c)) v true) k d ≡ get_or (map (λ n. f n || eqb n v) (upto c)) k d
    at k d lt o =
        let a = length-set (map f (upto c)) v true in
        let b = length-map (upto c) f in
        let len = length_upto c in
        let below : k < c = omega arith in
        let right : get_or (map (λ n. f n || eqb n v) (upto c)) k d ≡ (f k || eqb k v) = get_map (λ n. f n || eqb n v) (upto c) k 0 d (omega arith) ∙ ap (λ n. f n || eqb n v) (get_upto c k 0 below) in
        pick below (omega arith) right o
      where
        pick : k < c → k < length (map f (upto c)) → get_or (map (λ n. f n || eqb n v) (upto c)) k d ≡ (f k || eqb k v) → (k ≡ v) ⊎ (k ≡ v → ⊥) → get_or (set (map f (upto c)) v true) k d ≡ get_or (map (λ n. f n || eqb n v) (upto c)) k d
        pick below inside right (inl q) =
            ap (λ z. get_or (set (map f (upto c)) v true) z d) q ∙ get_or-set_same (map f (upto c)) v true d (subst (λ z. z < length (map f (upto c))) q inside)
            ∙ sym (right ∙ ap (λ z. f k || z) (eq-eqb k v q) ∙ or_true (f k))
        pick below inside right (inr n) =
            let len = length_upto c in
            get_or-set_other (map f (upto c)) v k true d n
            ∙ get_map f (upto c) k 0 d (omega arith) ∙ ap f (get_upto c k 0 below)
            ∙ sym (right ∙ ap (λ z. f k || z) (ne_eqb k v n) ∙ or_false (f k))

or_assoc : (a b c : Bool) → ((a || b) || c) ≡ (a || (b || c))
or_assoc true b c = refl
or_assoc false b c = refl

pub or_none : (a : Bool) → (a || false) ≡ a
or_none true = refl
or_none false = refl

marked_is : (c : ℕ) (f : ℕ → Bool) (vs : List (ℕ × ℕ)) → marked vs (map f (upto c)) ≡ map (λ n. f n || some (λ v. eqb n v.1) vs) (upto c)
marked_is c f [] = flags_same c f (λ n. f n || false) (λ n lt. sym (or_none (f n)))
marked_is c f (v ∷ vs) =
    ap (marked vs) (set_flags c f v.1)
    ∙ marked_is c (λ n. f n || eqb n v.1) vs
    ∙ flags_same c (λ n. (f n || eqb n v.1) || some (λ v. eqb n v.1) vs) (λ n. f n || (eqb n v.1 || some (λ v. eqb n v.1) vs)) (λ n lt. or_assoc (f n) (eqb n v.1) (some (λ v. eqb n v.1) vs))

some_append : {A : Type 0} (f : A → Bool) (xs : List A) (x : A) → some f (xs ++ x ∷ []) ≡ (some f xs || f x)
some_append f [] x = or_none (f x)
some_append f (y ∷ xs) x = ap (λ z. f y || z) (some_append f xs x) ∙ sym (or_assoc (f y) (some f xs) (f x))

-- pairs and roots don't matter once their nodes are flagged
pub spread_alike : (s : Structure) (differ : List (ℕ × ℕ)) (roots : List (Option ℕ)) (before : List Bool) (m : ℕ) → spread s before m ≡ spread (starting s differ roots) before m
spread_alike s differ roots before zero = refl
spread_alike s differ roots before (suc m) = ap (marked_by s before m) (spread_alike s differ roots before m)

module _ (s : Structure) where
  spread_is : (k m : ℕ) → m ≤ count s → spread s (flags_of s (is_reached s k)) m ≡ flags_of s (λ n. is_reached s k n || some (λ j. is_reached s k j && is_value_of s n j) (upto m))
  spread_is k zero le = flags_same (count s) (is_reached s k) (λ n. is_reached s k n || false) (λ n lt. sym (or_none (is_reached s k n)))
  spread_is k (suc m) le = go (spread_is k m (omega arith)) (is_reached s k m) refl
    where
      old : ℕ → Bool
      old n = is_reached s k n || some (λ j. is_reached s k j && is_value_of s n j) (upto m)

      flag : get_or (flags_of s (is_reached s k)) m false ≡ is_reached s k m
      flag = get_flag (is_reached s k) (count s) m (omega arith)

      more : (n : ℕ) (t : Bool) → is_reached s k m ≡ t → ((is_reached s k n || some (λ j. is_reached s k j && is_value_of s n j) (upto m)) || (t && is_value_of s n m)) ≡ (is_reached s k n || some (λ j. is_reached s k j && is_value_of s n j) (upto m ++ m ∷ []))
      more n t e =
          or_assoc (is_reached s k n) (some (λ j. is_reached s k j && is_value_of s n j) (upto m)) (t && is_value_of s n m)
          ∙ ap (λ z. is_reached s k n || (some (λ j. is_reached s k j && is_value_of s n j) (upto m) || (z && is_value_of s n m))) (sym e)
          ∙ ap (λ z. is_reached s k n || z) (sym (some_append (λ j. is_reached s k j && is_value_of s n j) (upto m) m))

      go : spread s (flags_of s (is_reached s k)) m ≡ flags_of s (λ n. is_reached s k n || some (λ j. is_reached s k j && is_value_of s n j) (upto m)) → (t : Bool) → is_reached s k m ≡ t → marked_by s (flags_of s (is_reached s k)) m (spread s (flags_of s (is_reached s k)) m) ≡ flags_of s (λ n. is_reached s k n || some (λ j. is_reached s k j && is_value_of s n j) (upto m ++ m ∷ []))
      go ih true e =
          ap (λ z. if z then marked (node_at s m).values (spread s (flags_of s (is_reached s k)) m) else spread s (flags_of s (is_reached s k)) m) (flag ∙ e)
          ∙ ap (marked (node_at s m).values) ih
          ∙ marked_is (count s) (λ n. is_reached s k n || some (λ j. is_reached s k j && is_value_of s n j) (upto m)) (node_at s m).values
          ∙ flags_same (count s) (λ n. (is_reached s k n || some (λ j. is_reached s k j && is_value_of s n j) (upto m)) || is_value_of s n m) (λ n. is_reached s k n || some (λ j. is_reached s k j && is_value_of s n j) (upto m ++ m ∷ [])) (λ n lt. more n true e)
      go ih false e =
          ap (λ z. if z then marked (node_at s m).values (spread s (flags_of s (is_reached s k)) m) else spread s (flags_of s (is_reached s k)) m) (flag ∙ e)
          ∙ ih
          ∙ flags_same (count s) (λ n. is_reached s k n || some (λ j. is_reached s k j && is_value_of s n j) (upto m)) (λ n. is_reached s k n || some (λ j. is_reached s k j && is_value_of s n j) (upto m ++ m ∷ [])) (λ n lt. sym (or_none (is_reached s k n || some (λ j. is_reached s k j && is_value_of s n j) (upto m))) ∙ more n false e)

  -- a round of the code is one of the definition
  pub round_is : (k : ℕ) (before after : List Bool) → before ≡ flags_of s (is_reached s k) → after ≡ spread s before (count s) → after ≡ flags_of s (is_reached s (suc k))
  round_is k before after b a = a ∙ ap (λ z. spread s z (count s)) b ∙ spread_is k (count s) (omega arith)

  stable_on : (k j : ℕ) → IsStable s k → (m : ℕ) → m ≡ j + k → IsStable s m × ((n : ℕ) → n < count s → is_reached s m n ≡ is_reached s k n)
  stable_on k zero same m e = let q : m ≡ k = omega arith in (subst (IsStable s) (sym q) same, λ n lt. ap (λ z. is_reached s z n) q)
  stable_on k (suc j) same m e = go (stable_on k j same (j + k) refl)
    where
      at : m ≡ suc (j + k)
      at = omega arith

      go : IsStable s (j + k) × ((n : ℕ) → n < count s → is_reached s (j + k) n ≡ is_reached s k n) → IsStable s m × ((n : ℕ) → n < count s → is_reached s m n ≡ is_reached s k n)
      go r = (subst (IsStable s) (sym at) (stays s (j + k) r.0), λ n lt. ap (λ z. is_reached s z n) at ∙ r.0 n lt ∙ r.1 n lt)

  -- a round that changes nothing has reached all that is visible
  pub same_is_all : (k : ℕ) (before after : List Bool) → k ≤ count s → before ≡ flags_of s (is_reached s k) → after ≡ spread s before (count s) → after ≡ before → before ≡ flags_of s (is_visible s)
  same_is_all k before after le b a same =
      let next = round_is k before after b a in
      let stable : IsStable s k = (λ n lt. flags_one (count s) (is_reached s (suc k)) (is_reached s k) (sym next ∙ same ∙ b) n lt) in
      let all = stable_on k (count s - k) stable (count s) (omega arith) in
      b ∙ flags_same (count s) (is_reached s k) (is_visible s) (λ n lt. sym (all.1 n lt))

-- numbering

one_more_visible : (s : Structure) (n : ℕ) → is_visible s n ≡ true → renumbered s (suc n) ≡ suc (renumbered s n)
one_more_visible s n e =
    ap (λ t. length (if t then visible_below s n ++ n ∷ [] else visible_below s n)) e
    ∙ (let l = length-append (visible_below s n) (n ∷ []) in omega arith)

none_more_visible : (s : Structure) (n : ℕ) → is_visible s n ≡ false → renumbered s (suc n) ≡ renumbered s n
none_more_visible s n e = ap (λ t. length (if t then visible_below s n ++ n ∷ [] else visible_below s n)) e

number_up : (s : Structure) (n : ℕ) → renumbered s n ≤ renumbered s (suc n)
number_up s n = go (is_visible s n) refl
  where
    go : (t : Bool) → is_visible s n ≡ t → renumbered s n ≤ renumbered s (suc n)
    go true e = let q = one_more_visible s n e in omega arith
    go false e = let q = none_more_visible s n e in omega arith

pub number_below : (s : Structure) (c n : ℕ) → n < c → is_visible s n ≡ true → renumbered s n < renumbered s c
number_below s zero n lt e = absurd (omega arith)
number_below s (suc c) n lt e = go (number_below s c n) (grind arith)
  where
    go : (n < c → is_visible s n ≡ true → renumbered s n < renumbered s c) → (n < c) ⊎ (n ≡ c) → renumbered s n < renumbered s (suc c)
    go ih (inl l) = let a = ih l e in let b = number_up s c in omega arith
    go ih (inr q) =
        let here : is_visible s c ≡ true = subst (λ z. is_visible s z ≡ true) q e in
        let a = one_more_visible s c here in
        let b = ap (renumbered s) q in
        omega arith

pub number_step : (s : Structure) (n : ℕ) (t : Bool) → is_visible s n ≡ t → (if t then renumbered s n + 1 else renumbered s n) ≡ renumbered s (suc n)
number_step s n true e = let q = one_more_visible s n e in omega arith
number_step s n false e = sym (none_more_visible s n e)

module _ (s : Structure) (formed : IsTrue (is_formed s)) where
  parts : (every (is_node (count s)) s.nodes ≡ true) × ((every (λ (p : ℕ × ℕ). ltb p.0 (count s) && ltb p.1 (count s)) s.differ && every (is_root (count s)) s.roots) ≡ true)
  parts = and_parts (every (is_node (count s)) s.nodes) _ formed

  rest : (every (λ (p : ℕ × ℕ). ltb p.0 (count s) && ltb p.1 (count s)) s.differ ≡ true) × (every (is_root (count s)) s.roots ≡ true)
  rest = and_parts (every (λ (p : ℕ × ℕ). ltb p.0 (count s) && ltb p.1 (count s)) s.differ) (every (is_root (count s)) s.roots) parts.1

  pub node_parts : (n : ℕ) → n < count s → (every (λ (v : ℕ × ℕ). ltb v.1 (count s)) (node_at s n).values ≡ true) × (is_rising (node_at s n).values ≡ true)
  node_parts n lt = and_parts (every (λ (v : ℕ × ℕ). ltb v.1 (count s)) (node_at s n).values) (is_rising (node_at s n).values) (every_has (is_node (count s)) s.nodes (node_at s n) parts.0 (get_has s.nodes n (record { of = 0; values = [] }) lt))

  pub value_inside : (n : ℕ) → n < count s → (v : ℕ × ℕ) → Has (node_at s n).values v → v.1 < count s
  value_inside n lt v p = ltb-true v.1 (count s) (every_has (λ (v : ℕ × ℕ). ltb v.1 (count s)) (node_at s n).values v (node_parts n lt).0 p)

  pub pair_inside : (p : ℕ × ℕ) → Has s.differ p → (p.0 < count s) × (p.1 < count s)
  pair_inside p h =
      let both = and_parts (ltb p.0 (count s)) (ltb p.1 (count s)) (every_has (λ (p : ℕ × ℕ). ltb p.0 (count s) && ltb p.1 (count s)) s.differ p rest.0 h) in
      (ltb-true p.0 (count s) both.0, ltb-true p.1 (count s) both.1)

  pub root_inside : (m : ℕ) → Has s.roots (Some m) → m < count s
  root_inside m h = ltb-true m (count s) (every_has (is_root (count s)) s.roots (Some m) rest.1 h)

  pub root_below : (i n : ℕ) → root_at s i ≡ Some n → n < count s
  root_below i n e = go (grind arith)
    where
      go : (i < length s.roots) ⊎ (length s.roots ≤ i) → n < count s
      go (inl lt) = root_inside n (subst (Has s.roots) e (get_has s.roots i None lt))
      go (inr le) = absurd (none_some (sym (get_past s.roots i None le) ∙ e))

  pub visible_inside : (c n : ℕ) → Has (visible_below s c) n → (n < c) × (is_visible s n ≡ true)
  visible_inside zero n p = absurd p
  visible_inside (suc c) n p = go (visible_inside c n) (is_visible s c) refl p
    where
      go : (Has (visible_below s c) n → (n < c) × (is_visible s n ≡ true)) → (t : Bool) → is_visible s c ≡ t → Has (if t then visible_below s c ++ c ∷ [] else visible_below s c) n → (n < suc c) × (is_visible s n ≡ true)
      go ih false e p = let r = ih p in let l = r.0 in (omega arith, r.1)
      go ih true e p = last (has_either (visible_below s c) (c ∷ []) n p)
        where
          last : Has (visible_below s c) n ⊎ Has (c ∷ []) n → (n < suc c) × (is_visible s n ≡ true)
          last (inl q) = let r = ih q in let l = r.0 in (omega arith, r.1)
          last (inr (inl q)) = (omega arith, subst (λ z. is_visible s z ≡ true) (sym q) e)
          last (inr (inr q)) = absurd q

  pub start_visible : (n : ℕ) → is_start s n ≡ true → is_visible s n ≡ true
  start_visible n e = go (count s)
    where
      go : (k : ℕ) → is_reached s k n ≡ true
      go zero = e
      go (suc k) = grows s k n (go k)

  or_one : (a b : Bool) → a ≡ true → (a || b) ≡ true
  or_one a b e = subst (λ z. (z || b) ≡ true) (sym e) refl

  or_two : (a b : Bool) → b ≡ true → (a || b) ≡ true
  or_two true b e = refl
  or_two false b e = e

  pub root_visible : (m : ℕ) → Has s.roots (Some m) → is_visible s m ≡ true
  root_visible m h = start_visible m (or_one (some (is_bound_to m) s.roots) _ (some_from (is_bound_to m) s.roots (Some m) h (eq-eqb m m refl)))

  pub pair_visible : (p : ℕ × ℕ) → Has s.differ p → (is_visible s p.0 ≡ true) × (is_visible s p.1 ≡ true)
  pair_visible p h = (
    start_visible p.0 (or_two (some (is_bound_to p.0) s.roots) (some (λ (q : ℕ × ℕ). eqb p.0 q.0 || eqb p.0 q.1) s.differ) (some_from (λ (q : ℕ × ℕ). eqb p.0 q.0 || eqb p.0 q.1) s.differ p h (or_one (eqb p.0 p.0) (eqb p.0 p.1) (eq-eqb p.0 p.0 refl)))),
    start_visible p.1 (or_two (some (is_bound_to p.1) s.roots) (some (λ (q : ℕ × ℕ). eqb p.1 q.0 || eqb p.1 q.1) s.differ) (some_from (λ (q : ℕ × ℕ). eqb p.1 q.0 || eqb p.1 q.1) s.differ p h (or_two (eqb p.1 p.0) (eqb p.1 p.1) (eq-eqb p.1 p.1 refl)))),
  )

  pub total : count (visible s) ≡ renumbered s (count s)
  unfolding visible
  total = length-map (visible_below s (count s)) (visible_node s)

  in_total : (n : ℕ) → n < count s → is_visible s n ≡ true → ltb (renumbered s n) (count (visible s)) ≡ true
  in_total n lt e = lt-ltb (renumbered s n) (count (visible s)) (subst (λ z. renumbered s n < z) (sym total) (number_below s (count s) n lt e))

  pub visible_formed : IsTrue (is_formed (visible s))
  unfolding visible
  visible_formed =
      and_from (every (is_node (count (visible s))) (visible s).nodes) (every (λ (p : ℕ × ℕ). ltb p.0 (count (visible s)) && ltb p.1 (count (visible s))) (visible s).differ && every (is_root (count (visible s))) (visible s).roots)
      (every_from (is_node (count (visible s))) (visible s).nodes nodes)
      (and_from (every (λ (p : ℕ × ℕ). ltb p.0 (count (visible s)) && ltb p.1 (count (visible s))) (visible s).differ) (every (is_root (count (visible s))) (visible s).roots)
      (every_from (λ (p : ℕ × ℕ). ltb p.0 (count (visible s)) && ltb p.1 (count (visible s))) (visible s).differ pairs)
      (every_from (is_root (count (visible s))) (visible s).roots roots))
    where
      value_number : (n : ℕ) → n < count s → is_visible s n ≡ true → (v : ℕ × ℕ) → Has (map (λ (v : ℕ × ℕ). (v.0, renumbered s v.1)) (node_at s n).values) v → ltb v.1 (count (visible s)) ≡ true
      value_number n lt seen v h =
          let r = has_map (λ (v : ℕ × ℕ). (v.0, renumbered s v.1)) (node_at s n).values v h in
          let inside = value_inside n lt r.0 r.1 in
          let there = value_visible s r.0.1 n inside lt seen (some_from (λ (v : ℕ × ℕ). eqb r.0.1 v.1) (node_at s n).values r.0 r.1 (eq-eqb r.0.1 r.0.1 refl)) in
          subst (λ (z : ℕ × ℕ). ltb z.1 (count (visible s)) ≡ true) (sym r.2) (in_total r.0.1 inside there)

      node : (n : ℕ) → n < count s → is_visible s n ≡ true → is_node (count (visible s)) (visible_node s n) ≡ true
      node n lt seen =
          and_from (every (λ (v : ℕ × ℕ). ltb v.1 (count (visible s))) (visible_node s n).values) (is_rising (visible_node s n).values)
          (every_from (λ (v : ℕ × ℕ). ltb v.1 (count (visible s))) (visible_node s n).values (value_number n lt seen))
          (mapped_rises (renumbered s) (node_at s n).values ∙ (node_parts n lt).1)

      nodes : (x : Node) → Has (map (visible_node s) (visible_below s (count s))) x → is_node (count (visible s)) x ≡ true
      nodes x h =
          let r = has_map (visible_node s) (visible_below s (count s)) x h in
          let i = visible_inside (count s) r.0 r.1 in
          ap (is_node (count (visible s))) r.2 ∙ node r.0 i.0 i.1

      pairs : (p : ℕ × ℕ) → Has (map (λ (p : ℕ × ℕ). (renumbered s p.0, renumbered s p.1)) s.differ) p → (ltb p.0 (count (visible s)) && ltb p.1 (count (visible s))) ≡ true
      pairs p h =
          let r = has_map (λ (p : ℕ × ℕ). (renumbered s p.0, renumbered s p.1)) s.differ p h in
          let i = pair_inside r.0 r.1 in
          let v = pair_visible r.0 r.1 in
          subst (λ (z : ℕ × ℕ). (ltb z.0 (count (visible s)) && ltb z.1 (count (visible s))) ≡ true) (sym r.2)
          (and_from (ltb (renumbered s r.0.0) (count (visible s))) (ltb (renumbered s r.0.1) (count (visible s))) (in_total r.0.0 i.0 v.0) (in_total r.0.1 i.1 v.1))

      root : (o : Option ℕ) → Has s.roots o → is_root (count (visible s)) (option_map (renumbered s) o) ≡ true
      root None h = refl
      root (Some m) h = in_total m (root_inside m h) (root_visible m h)

      roots : (o : Option ℕ) → Has (map (option_map (renumbered s)) s.roots) o → is_root (count (visible s)) o ≡ true
      roots o h =
          let r = has_map (option_map (renumbered s)) s.roots o h in
          ap (is_root (count (visible s))) r.2 ∙ root r.0 r.1

  -- the parts of the visible structure, with numbers read from the list of numbers
  number_is : (numbers : List ℕ) → numbers ≡ map (renumbered s) (upto (count s)) → (n : ℕ) → n < count s → number_in numbers n ≡ renumbered s n
  number_is numbers e n lt =
      let len = length_upto (count s) in
      ap (λ z. get_or z n 0) e ∙ get_map (renumbered s) (upto (count s)) n 0 0 (omega arith) ∙ ap (renumbered s) (get_upto (count s) n 0 lt)

  pub map_on : {A B : Type 0} (f g : A → B) (xs : List A) → ((x : A) → Has xs x → f x ≡ g x) → map f xs ≡ map g xs
  map_on f g [] all = refl
  map_on f g (x ∷ xs) all =
      let first = all x (inl refl) in
      let rest = map_on f g xs (λ y p. all y (inr p)) in
      λ i. first i ∷ rest i

  numbered_is : (numbers : List ℕ) → numbers ≡ map (renumbered s) (upto (count s)) → (n : ℕ) → n < count s → numbered s numbers n ≡ visible_node s n
  numbered_is numbers e n lt =
      let values = map_on (λ (v : ℕ × ℕ). (v.0, number_in numbers v.1)) (λ (v : ℕ × ℕ). (v.0, renumbered s v.1)) (node_at s n).values (λ v p. (let q = number_is numbers e v.1 (value_inside n lt v p) in λ i. (v.0, q i))) in
      λ i. record { of = (node_at s n).of; values = values i }

  built_is : (flags : List Bool) (numbers : List ℕ) → flags ≡ flags_of s (is_visible s) → numbers ≡ map (renumbered s) (upto (count s)) → (n : ℕ) → n ≤ count s → built s flags numbers n ≡ map (visible_node s) (visible_below s n)
  built_is flags numbers f e zero le = refl
  built_is flags numbers f e (suc n) le = go (built_is flags numbers f e n (omega arith)) (is_visible s n) refl
    where
      flag : get_or flags n false ≡ is_visible s n
      flag = ap (λ z. get_or z n false) f ∙ get_flag (is_visible s) (count s) n (omega arith)

      go : built s flags numbers n ≡ map (visible_node s) (visible_below s n) → (t : Bool) → is_visible s n ≡ t → (if get_or flags n false then built s flags numbers n ++ numbered s numbers n ∷ [] else built s flags numbers n) ≡ map (visible_node s) (if t then visible_below s n ++ n ∷ [] else visible_below s n)
      go ih true q =
          let last = numbered_is numbers e n (omega arith) in
          ap (λ z. if z then built s flags numbers n ++ numbered s numbers n ∷ [] else built s flags numbers n) (flag ∙ q)
          ∙ ap (λ z. z ++ numbered s numbers n ∷ []) ih
          ∙ ap (λ z. map (visible_node s) (visible_below s n) ++ z ∷ []) last
          ∙ sym (map-append (visible_node s) (visible_below s n) (n ∷ []))
      go ih false q = ap (λ z. if z then built s flags numbers n ++ numbered s numbers n ∷ [] else built s flags numbers n) (flag ∙ q) ∙ ih

  pub visible_made : (flags : List Bool) (numbers : List ℕ) (nodes : List Node) (differ : List (ℕ × ℕ)) (roots : List (Option ℕ)) → flags ≡ flags_of s (is_visible s) → numbers ≡ map (renumbered s) (upto (count s)) → nodes ≡ built s flags numbers (count s) → differ ≡ map (λ (p : ℕ × ℕ). (number_in numbers p.0, number_in numbers p.1)) s.differ → roots ≡ map (option_map (number_in numbers)) s.roots → ◌≡◌ {A = Structure} (record { nodes = nodes; differ = differ; roots = roots }) (visible s)
  unfolding visible
  visible_made flags numbers nodes differ roots f e n d r =
      let ns = n ∙ built_is flags numbers f e (count s) (omega arith) in
      let ds = d ∙ map_on (λ (p : ℕ × ℕ). (number_in numbers p.0, number_in numbers p.1)) (λ (p : ℕ × ℕ). (renumbered s p.0, renumbered s p.1)) s.differ (λ p q. (let i = pair_inside p q in let a = number_is numbers e p.0 i.0 in let b = number_is numbers e p.1 i.1 in λ j. (a j, b j))) in
      let rs = r ∙ map_on (option_map (number_in numbers)) (option_map (renumbered s)) s.roots (λ o q. root_number o q) in
      λ i. record { nodes = ns i; differ = ds i; roots = rs i }
    where
      root_number : (o : Option ℕ) → Has s.roots o → option_map (number_in numbers) o ≡ option_map (renumbered s) o
      root_number None q = refl
      root_number (Some m) q = ap (λ (z : ℕ). Some z) (number_is numbers e m (root_inside m q))

  -- the same from the slices that the code hands on
  pub visible_slices : (flags f1 f2 : List Bool) (numbers n1 n2 n3 : List ℕ) (nodes : List Node) (pairs differ : List (ℕ × ℕ)) (bound roots : List (Option ℕ)) → flags ≡ flags_of s (is_visible s) → f1 ≡ flags → f2 ≡ flags → numbers ≡ map (renumbered s) (upto (length f1)) → n1 ≡ numbers → n2 ≡ numbers → n3 ≡ numbers → nodes ≡ built s f2 n1 (count s) → pairs ≡ s.differ → differ ≡ map (λ (p : ℕ × ℕ). (number_in n2 p.0, number_in n2 p.1)) pairs → bound ≡ s.roots → roots ≡ map (option_map (number_in n3)) bound → ◌≡◌ {A = Structure} (record { nodes = nodes; differ = differ; roots = roots }) (visible s)
  visible_slices flags f1 f2 numbers n1 n2 n3 nodes pairs differ bound roots f e1 e2 n m1 m2 m3 b p d o r =
      let len : length f1 ≡ count s = ap (λ (z : List Bool). length z) (e1 ∙ f) ∙ length-map (upto (count s)) (is_visible s) ∙ length_upto (count s) in
      visible_made flags numbers nodes differ roots f (n ∙ ap (λ z. map (renumbered s) (upto z)) len)
      (b ∙ ap (λ z. built s z n1 (count s)) e2 ∙ ap (λ z. built s flags z (count s)) m1)
      (d ∙ ap (λ z. map (λ (p : ℕ × ℕ). (number_in n2 p.0, number_in n2 p.1)) z) p ∙ ap (λ z. map (λ (p : ℕ × ℕ). (number_in z p.0, number_in z p.1)) s.differ) m2)
      (r ∙ ap (λ z. map (option_map (number_in n3)) z) o ∙ ap (λ z. map (option_map (number_in z)) s.roots) m3)

pub number_made : (s : Structure) (flags : List Bool) (n before : ℕ) (t : Bool) → flags ≡ flags_of s (is_visible s) → n < length flags → get_or flags n false ≡ t → before ≡ renumbered s n → (if t then before + 1 else before) ≡ renumbered s (suc n)
number_made s flags n before t f lt e b =
    let len : length flags ≡ count s = ap (λ (z : List Bool). length z) f ∙ length-map (upto (count s)) (is_visible s) ∙ length_upto (count s) in
    let flag : is_visible s n ≡ t = sym (get_flag (is_visible s) (count s) n (omega arith)) ∙ ap (λ z. get_or z n false) (sym f) ∙ e in
    ap (λ z. if t then z + 1 else z) b ∙ number_step s n t flag
