-- All of a structure behind another one, made shorter node by node until it is extensional.
use Rattle.std.proofs.Common.{◌≡◌, ◌≢◌, ℕ, suc, ◌-◌, ◌<◌, ◌≤◌, Bool, true, IsTrue, List, map, length, get_or, option_map, ◌⊎◌, inl, inr, refl, sym, ap, ◌∙◌, subst, arith, Option, Some, None}
use Rattle.std.proofs.lemmas.Bool.{and_parts, cases_lt, cases_eq}
use Rattle.std.proofs.lemmas.List.{length-map}
use Rattle.ale_declared.specs.Lists.{Has, every}
use Rattle.ale_hierarchy.specs.Hierarchy.{Hierarchy, Above, IsLawful}
use Rattle.ale_graph.specs.declared.node.Node.{Node}
use Rattle.ale_graph.specs.Structures.{Structure, IsStructure, IsTotal, count, node_at, type_of, value_in, value_of, is_node, is_formed}
use Rattle.ale_graph.specs.Morphisms.{IsMorphismAside}
use Rattle.ale_graph.proofs.Lists.{has_right, has_map, every_has}
use Rattle.ale_graph.proofs.Structures.{value_from, value_inside}
use Rattle.ale_graph.proofs.Vectors.{get_map}
use Rattle.ale_graph.proofs.Mapped.{mapped_value}
use Rattle.ale_part_law.proofs.Adding.{past, with_more, renode, count_more, node_low, node_high, option_of, rising_renamed, IsListed, is_listed, more_formed, renamed_total, Covers, dropped, dropped_low, dropped_high, dropped_length, dropped_has}
use Rattle.ale_part_law.proofs.Attaching.{Glued, moved_to, old_of, old_low, old_high, moved_other, moved_self, moved_low, moved_old, old_lower, moved_inside}

-- an added node is where one of g's went that has its type, or a node of s covers it
pub data IsAdded (h : Hierarchy) (g s t : Structure) (f : ℕ → ℕ) (k : ℕ) : Type 0 where
  made : (m : ℕ) → m < count g → f m ≡ k → type_of t k ≡ type_of g m → IsAdded h g s t f k
  junk : (x : ℕ) → x < count s → Covers h t k x → IsAdded h g s t f k

pub record Draft (h : Hierarchy) (g s : Structure) (seen : ℕ → Bool) (to : ℕ → ℕ) (more : List Node) : Type 0 where
  pub map_to : ℕ → ℕ
  pub formed : IsTrue (is_formed (with_more s more))
  pub total : IsTotal h (with_more s more)
  pub agrees : (n : ℕ) → n < count g → seen n ≡ true → map_to n ≡ to n
  pub is : IsMorphismAside h g (with_more s more) map_to
  pub added : (k : ℕ) → count s ≤ k → k < count (with_more s more) → IsAdded h g s (with_more s more) map_to k

module _ (h : Hierarchy) (law : IsLawful h) (g s : Structure) (str : IsStructure h s) (seen : ℕ → Bool) (to : ℕ → ℕ) (glued : Glued h g s seen to) where
  -- one added node is dropped for another that covers it
  module _ (more : List Node) (d : Draft h g s seen to more) (u x : ℕ) (other : u ≡ x → ⊥) (high : count s ≤ u) (low : u < count (with_more s more)) (far : x < count (with_more s more)) (covers : Covers h (with_more s more) u x) where
    abbrev t : Structure
    t = with_more s more

    abbrev r : ℕ → ℕ
    r = moved_to u x other

    abbrev old : ℕ → ℕ
    old = old_of u x other

    abbrev pub fewer : List Node
    fewer = map (renode (moved_to u x other)) (dropped (u - count s) more)

    abbrev t2 : Structure
    t2 = with_more s (map (renode (moved_to u x other)) (dropped (u - count s) more))

    place : u - count s < length more
    place = let n = count_more s more in omega arith

    pub fewer_length : suc (length fewer) ≡ length more
    fewer_length = let l = length-map (dropped (u - count s) more) (renode (moved_to u x other)) in let k = dropped_length (u - count s) more place in omega arith

    sizes : suc (count t2) ≡ count t
    sizes = let a = count_more s more in let b = count_more s fewer in let l = fewer_length in omega arith

    inside : (k : ℕ) → k < count t → r k < count t2
    inside k less = let m = moved_inside u x other (count t) k low far less in let z = sizes in omega arith

    old_inside : (k : ℕ) → k < count t2 → old k < count t
    old_inside k less = go (cases_lt k u)
      where
        go : (k < u) ⊎ (u ≤ k) → old k < count t
        go (inl l) = let e = old_low u x other k l in omega arith
        go (inr l) = let e = old_high u x other k l in let z = sizes in omega arith

    -- the nodes that were added are those that were, with values elsewhere
    node_is : (k : ℕ) → count s ≤ k → k < count t2 → node_at t2 k ≡ renode r (node_at t (old k))
    node_is k above less = node_high s fewer k above ∙ get_map (renode r) (dropped (u - count s) more) (k - count s) past past (let l = length-map (dropped (u - count s) more) (renode (moved_to u x other)) in let n = count_more s fewer in omega arith) ∙ ap (renode r) (go (cases_lt k u))
      where
        go : (k < u) ⊎ (u ≤ k) → get_or (dropped (u - count s) more) (k - count s) past ≡ node_at t (old k)
        go (inl l) = dropped_low (u - count s) more (k - count s) (omega arith) ∙ sym (node_high s more k above) ∙ ap (node_at t) (sym (old_low u x other k l))
        go (inr l) =
            let e : suc (k - count s) ≡ suc k - count s = omega arith in
            dropped_high (u - count s) more (k - count s) (omega arith) ∙ ap (λ z. get_or more z past) e ∙ sym (node_high s more (suc k) (omega arith)) ∙ ap (node_at t) (sym (old_high u x other k l))

    same_low : (k : ℕ) → k < count s → node_at t2 k ≡ node_at t (old k)
    same_low k l = node_low s fewer k l ∙ sym (node_low s more k l) ∙ ap (node_at t) (sym (old_low u x other k (omega arith)))

    types_are : (k : ℕ) → k < count t2 → type_of t2 k ≡ type_of t (old k)
    types_are k less = go (cases_lt k (count s))
      where
        go : (k < count s) ⊎ (count s ≤ k) → type_of t2 k ≡ type_of t (old k)
        go (inl l) = ap (λ (z : Node). z.of) (same_low k l)
        go (inr l) = ap (λ (z : Node). z.of) (node_is k l less)

    values_are : (k f : ℕ) → k < count t2 → value_of t2 k f ≡ option_map r (value_of t (old k) f)
    values_are k f less = go (cases_lt k (count s))
      where
        go : (k < count s) ⊎ (count s ≤ k) → value_of t2 k f ≡ option_map r (value_of t (old k) f)
        go (inl l) = ap (λ (z : Node). value_in z.values f) (same_low k l) ∙ stay (value_of t (old k) f) refl
          where
            is_low : value_of t (old k) f ≡ value_of s k f
            is_low = ap (λ (z : Node). value_in z.values f) (ap (node_at t) (old_low u x other k (omega arith)) ∙ node_low s more k l)

            stay : (o : Option ℕ) → value_of t (old k) f ≡ o → o ≡ option_map r o
            stay None e = refl
            stay (Some m) e =
                let m_low : m < count s = value_inside s str.formed k f m (sym is_low ∙ e) in
                ap Some (sym (moved_low u x other m (omega arith)))
        go (inr l) = ap (λ (z : Node). value_in z.values f) (node_is k l less) ∙ mapped_value r (node_at t (old k)).values f

    lower_is : (k : ℕ) → k < count t → (k ≡ u → ⊥) → old (r k) ≡ k
    lower_is k less ne = ap old (moved_other u x other k ne) ∙ old_lower u x other k ne

    type_moved : (k : ℕ) → k < count t → (k ≡ u → ⊥) → type_of t2 (r k) ≡ type_of t k
    type_moved k less ne = types_are (r k) (inside k less) ∙ ap (type_of t) (lower_is k less ne)

    onward : (m : ℕ) → m < count t → Above h (type_of t m) (type_of t2 (r m))
    onward m less = go (cases_eq m u)
      where
        go : (m ≡ u) ⊎ (m ≡ u → ⊥) → Above h (type_of t m) (type_of t2 (r m))
        go (inl is) =
            let at_x : type_of t2 (r x) ≡ type_of t x = type_moved x far (λ e. other (sym e)) in
            let place : r m ≡ r x = moved_self u x other m is ∙ sym (moved_other u x other x (λ e. other (sym e))) in
            subst (Above h (type_of t m)) (sym (ap (type_of t2) place ∙ at_x)) (subst (λ z. Above h (type_of t z) (type_of t x)) (sym is) covers.type)
        go (inr ne) = subst (Above h (type_of t m)) (sym (type_moved m less ne)) (law.along_self (type_of t m))

    values_moved : (k f m : ℕ) → value_of t k f ≡ Some m → value_of t2 (r k) f ≡ Some (r m)
    values_moved k f m e = go (cases_eq k u)
      where
        of_other : (j : ℕ) → (j ≡ u → ⊥) → value_of t j f ≡ Some m → value_of t2 (r j) f ≡ Some (r m)
        of_other j ne q =
            let less = value_from t j f m q in
            values_are (r j) f (inside j less) ∙ ap (λ z. option_map r (value_of t z f)) (lower_is j less ne) ∙ ap (option_map r) q

        go : (k ≡ u) ⊎ (k ≡ u → ⊥) → value_of t2 (r k) f ≡ Some (r m)
        go (inl is) =
            let place : r k ≡ r x = moved_self u x other k is ∙ sym (moved_other u x other x (λ q. other (sym q))) in
            ap (λ z. value_of t2 z f) place ∙ of_other x (λ q. other (sym q)) (covers.values f m (ap (λ z. value_of t z f) (sym is) ∙ e))
        go (inr ne) = of_other k ne e

    listed : (y : Node) → Has fewer y → IsListed (count t2) y
    listed y has = go (has_map (renode r) (dropped (u - count s) more) y has)
      where
        go : (z : Node) × Has (dropped (u - count s) more) z × (y ≡ renode r z) → IsListed (count t2) y
        go (z, at, is) = subst (IsListed (count t2)) (sym is) (record { low = λ v in_v. low_of v (has_map (λ (v : ℕ × ℕ). (v.0, r v.1)) z.values v in_v); rises = rising_renamed r z.values given.rises })
          where
            given : IsListed (count t) z
            given = is_listed (count t) z (every_has (is_node (count t)) t.nodes z (and_parts (every (is_node (count t)) t.nodes) _ d.formed).0 (has_right s.nodes more z (dropped_has (u - count s) more z at)))

            low_of : (v : ℕ × ℕ) → (w : ℕ × ℕ) × Has z.values w × (v ≡ (w.0, r w.1)) → v.1 < count t2
            low_of v (w, in_w, e) = subst (λ n. n < count t2) (sym (ap (λ (q : ℕ × ℕ). q.1) e)) (inside w.1 (given.low w in_w))

    seen_stays : (n : ℕ) → n < count g → seen n ≡ true → r (d.map_to n) ≡ to n
    seen_stays n less e = let l = glued.into n less e in ap r (d.agrees n less e) ∙ moved_low u x other (to n) (omega arith)

    pub dropped_one : Draft h g s seen to fewer
    dropped_one = record {
      map_to = λ n. r (d.map_to n);
      formed = more_formed s fewer str.formed listed;
      total = renamed_total h law t t2 old r d.formed d.total (record { inside = old_inside; types = types_are; values = values_are; onward = onward });
      agrees = seen_stays;
      is = record {
        into = λ n less. inside (d.map_to n) (d.is.into n less);
        types = λ n less. law.along (type_of g n) (type_of t (d.map_to n)) (type_of t2 (r (d.map_to n))) (d.is.types n less) (onward (d.map_to n) (d.is.into n less));
        values = λ n f m e. values_moved (d.map_to n) f (d.map_to m) (d.is.values n f m e);
        differs = λ a b has e. apart a b has e;
      };
      added = λ k above less. added k above less (d.added (old k) (old_above k above) (old_inside k less));
    }
      where
        apart : (a b : ℕ) → Has g.differ (a, b) → r (d.map_to a) ≢ r (d.map_to b)
        apart a b has e =
            let p = glued.pairs a b has in
            let l = glued.low a b has in
            p.2 (sym (seen_stays a l.0 p.0) ∙ e ∙ seen_stays b l.1 p.1)

        old_above : (k : ℕ) → count s ≤ k → count s ≤ old k
        old_above k above = go (cases_lt k u)
          where
            go : (k < u) ⊎ (u ≤ k) → count s ≤ old k
            go (inl l) = let e = old_low u x other k l in omega arith
            go (inr l) = let e = old_high u x other k l in omega arith

        added : (k : ℕ) → count s ≤ k → k < count t2 → IsAdded h g s t d.map_to (old k) → IsAdded h g s t2 (λ n. r (d.map_to n)) k
        added k above less (made m in_g goes type) = made m in_g (ap r goes ∙ moved_old u x other k) (types_are k less ∙ type)
        added k above less (junk y in_s cov) = junk y in_s (record {
          type = subst (λ z. Above h z (type_of t2 y)) (sym (types_are k less)) (subst (Above h (type_of t (old k))) (sym type_y) cov.type);
          values = λ f m e. value f m (option_of r (value_of t (old k) f) m (sym (values_are k f less) ∙ e));
        })
          where
            y_stays : r y ≡ y
            y_stays = moved_low u x other y (omega arith)

            type_y : type_of t2 y ≡ type_of t y
            type_y = ap (λ (z : Node). z.of) (node_low s fewer y in_s ∙ sym (node_low s more y in_s))

            value : (f m : ℕ) → (j : ℕ) × (value_of t (old k) f ≡ Some j) × (r j ≡ m) → value_of t2 y f ≡ Some m
            value f m (j, at, is) = ap (λ z. value_of t2 z f) (sym y_stays) ∙ values_moved y f j (cov.values f j at) ∙ ap Some is
