-- All of a structure goes into an extension of another one into which its visible nodes go.
use Rattle.std.proofs.Common.{◌≡◌, ℕ, zero, suc, ◌+◌, ◌-◌, ◌<◌, ◌≤◌, Bool, true, false, ◌&&◌, not, eqb, ltb, IsTrue, List, map, length, get_or, option_map, ◌⊎◌, inl, inr, refl, sym, ap, ◌∙◌, subst, arith, Some, if◌then◌else◌}
use Rattle.std.proofs.lemmas.Bool.{and_parts, and_from, cases_lt, cases_eq, cases_Bool, le-ltb, ltb-false, eqb-false, ne_eqb, not-true}
use Rattle.std.proofs.lemmas.List.{length-map}
use Rattle.ale_declared.specs.Lists.{Has, every}
use Rattle.ale_hierarchy.specs.Hierarchy.{Hierarchy, Above, IsLawful}
use Rattle.ale_graph.specs.declared.node.Node.{Node}
use Rattle.ale_graph.specs.Structures.{Structure, IsStructure, IsTotal, IsExtensional, count, node_at, type_of, value_in, value_of, is_node, is_formed}
use Rattle.ale_graph.proofs.Lists.{has_map, every_has}
use Rattle.ale_graph.proofs.Structures.{value_from, value_inside}
use Rattle.ale_graph.proofs.Vectors.{get_map}
use Rattle.ale_graph.proofs.Mapped.{mapped_value}
use Rattle.ale_part_law.proofs.Adding.{past, with_more, renode, count_more, node_low, node_high, option_of, rising_renamed, IsListed, is_listed, more_formed, Covers, covers_test, test_covers, covers_tested}
use Rattle.ale_part_law.proofs.Attaching.{Glued, Attached, Pairs, found, none, pairs}
use Rattle.ale_part_law.proofs.Drafts.{IsAdded, made, junk, Draft, dropped_one, fewer, fewer_length}

-- an added node that another node covers
abbrev removable : Hierarchy → ℕ → Structure → ℕ → ℕ → Bool
removable h c t u x = not (ltb u c) && (not (eqb u x) && covers_test h t u x)

record Removed (h : Hierarchy) (c : ℕ) (t : Structure) (u x : ℕ) : Type 0 where
  pub high : c ≤ u
  pub other : u ≡ x → ⊥
  pub covers : Covers h t u x

is_removed : (h : Hierarchy) (c : ℕ) (t : Structure) (u x : ℕ) → removable h c t u x ≡ true → Removed h c t u x
is_removed h c t u x e =
    let p = and_parts (not (ltb u c)) (not (eqb u x) && covers_test h t u x) e in
    let q = and_parts (not (eqb u x)) (covers_test h t u x) p.1 in
    record { high = ltb-false u c (not-true (ltb u c) p.0); other = eqb-false u x (not-true (eqb u x) q.0); covers = test_covers h t u x q.1 }

removed_is : (h : Hierarchy) (c : ℕ) (t : Structure) → IsTrue (is_formed t) → (u x : ℕ) → u < count t → c ≤ u → (u ≡ x → ⊥) → Covers h t u x → removable h c t u x ≡ true
removed_is h c t formed u x low high other covers =
    and_from (not (ltb u c)) (not (eqb u x) && covers_test h t u x) (ap not (le-ltb u c high))
    (and_from (not (eqb u x)) (covers_test h t u x) (ap not (ne_eqb u x other)) (covers_tested h t formed u x low covers))

module _ (h : Hierarchy) (law : IsLawful h) (g s : Structure) (g_str : IsStructure h g) (str : IsStructure h s) (seen : ℕ → Bool) (to : ℕ → ℕ) (glued : Glued h g s seen to) where
  -- where no added node is covered by another, the draft is extensional, and there is no junk
  finished : (more : List Node) → Draft h g s seen to more → ((u x : ℕ) → u < count (with_more s more) → x < count (with_more s more) → removable h (count s) (with_more s more) u x ≡ false) → Attached h g s seen to
  finished more d all = record {
    larger = with_more s more;
    extends = record { smaller = str; larger = record { formed = d.formed; total = d.total; extensional = extensional; apart = str.apart }; nodes = (more, refl); differ = refl; roots = refl };
    map_to = d.map_to;
    is = d.is;
    agrees = d.agrees;
    added = λ k above low. added k above low (d.added k above low);
  }
    where
      uncovered : (u x : ℕ) → u < count (with_more s more) → x < count (with_more s more) → count s ≤ u → (u ≡ x → ⊥) → Covers h (with_more s more) u x → ⊥
      uncovered u x low far high other covers = let clash : true ≡ false = sym (removed_is h (count s) (with_more s more) d.formed u x low high other covers) ∙ all u x low far in absurd cc

      twins : (a b : ℕ) → type_of (with_more s more) a ≡ type_of (with_more s more) b → ((f : ℕ) → value_of (with_more s more) a f ≡ value_of (with_more s more) b f) → Covers h (with_more s more) a b
      twins a b type values = record { type = subst (Above h (type_of (with_more s more) a)) type (law.along_self (type_of (with_more s more) a)); values = λ f m e. sym (values f) ∙ e }

      type_low : (k : ℕ) → k < count s → type_of (with_more s more) k ≡ type_of s k
      type_low k l = ap (λ (z : Node). z.of) (node_low s more k l)

      value_low : (k f : ℕ) → k < count s → value_of (with_more s more) k f ≡ value_of s k f
      value_low k f l = ap (λ (z : Node). value_in z.values f) (node_low s more k l)

      extensional : IsExtensional h (with_more s more)
      extensional a b in_a in_b type ext values = go (cases_eq a b) (cases_lt a (count s)) (cases_lt b (count s))
        where
          go : (a ≡ b) ⊎ (a ≡ b → ⊥) → (a < count s) ⊎ (count s ≤ a) → (b < count s) ⊎ (count s ≤ b) → a ≡ b
          go (inl e) p q = e
          go (inr ne) (inl la) (inl lb) =
              str.extensional a b la lb (sym (type_low a la) ∙ type ∙ type_low b lb) (ap h.is_ext (sym (type_low a la)) ∙ ext) (λ f. sym (value_low a f la) ∙ values f ∙ value_low b f lb)
          go (inr ne) (inr ha) q = absurd (uncovered a b in_a in_b ha ne (twins a b type values))
          go (inr ne) (inl la) (inr hb) = absurd (uncovered b a in_b in_a hb (λ e. ne (sym e)) (twins b a (sym type) (λ f. sym (values f))))

      added : (k : ℕ) → count s ≤ k → k < count (with_more s more) → IsAdded h g s (with_more s more) d.map_to k → (m : ℕ) × (m < count g) × (d.map_to m ≡ k) × (type_of (with_more s more) k ≡ type_of g m)
      added k above low (made m in_g goes type) = (m, in_g, goes, type)
      added k above low (junk x in_s covers) = absurd (uncovered k x low (let n = count_more s more in omega arith) above (λ e. absurd (omega arith)) covers)

  shrink : (n : ℕ) (more : List Node) → length more ≤ n → Draft h g s seen to more → Attached h g s seen to
  shrink zero more le d = go (pairs (removable h (count s) (with_more s more)) (count (with_more s more)) (count (with_more s more)))
    where
      go : Pairs (removable h (count s) (with_more s more)) (count (with_more s more)) (count (with_more s more)) → Attached h g s seen to
      go (found u x low far e) = let r = is_removed h (count s) (with_more s more) u x e in let high = r.high in let n = count_more s more in absurd (omega arith)
      go (none all) = finished more d all
  shrink (suc n) more le d = go (shrink n) (pairs (removable h (count s) (with_more s more)) (count (with_more s more)) (count (with_more s more)))
    where
      go : ((fewer : List Node) → length fewer ≤ n → Draft h g s seen to fewer → Attached h g s seen to) → Pairs (removable h (count s) (with_more s more)) (count (with_more s more)) (count (with_more s more)) → Attached h g s seen to
      go ih (found u x low far e) =
          let r = is_removed h (count s) (with_more s more) u x e in
          let l = fewer_length h law g s str seen to glued more d u x r.other r.high low far r.covers in
          ih (fewer h law g s str seen to glued more d u x r.other r.high low far r.covers) (omega arith) (dropped_one h law g s str seen to glued more d u x r.other r.high low far r.covers)
      go ih (none all) = finished more d all

  -- all nodes of g behind those of s
  abbrev goes : ℕ → ℕ
  goes n = if seen n then to n else count s + n

  abbrev whole : List Node
  whole = map (renode goes) g.nodes

  goes_seen : (n : ℕ) → seen n ≡ true → goes n ≡ to n
  goes_seen n e = go (seen n) e
    where
      go : (b : Bool) → b ≡ true → (if b then to n else count s + n) ≡ to n
      go true q = refl
      go false q = absurd cc

  goes_unseen : (n : ℕ) → seen n ≡ false → goes n ≡ count s + n
  goes_unseen n e = go (seen n) e
    where
      go : (b : Bool) → b ≡ false → (if b then to n else count s + n) ≡ count s + n
      go false q = refl
      go true q = absurd cc

  size : count (with_more s whole) ≡ count s + count g
  size = let n = count_more s whole in let l = length-map g.nodes (renode goes) in omega arith

  node_of_g : (n : ℕ) → n < count g → node_at (with_more s whole) (count s + n) ≡ renode goes (node_at g n)
  node_of_g n low =
      let e : (count s + n) - count s ≡ n = omega arith in
      node_high s whole (count s + n) (omega arith) ∙ ap (λ z. get_or whole z past) e ∙ get_map (renode goes) g.nodes n past past low

  type_of_g : (n : ℕ) → n < count g → type_of (with_more s whole) (count s + n) ≡ type_of g n
  type_of_g n low = ap (λ (z : Node). z.of) (node_of_g n low)

  value_of_g : (n f : ℕ) → n < count g → value_of (with_more s whole) (count s + n) f ≡ option_map goes (value_of g n f)
  value_of_g n f low = ap (λ (z : Node). value_in z.values f) (node_of_g n low) ∙ mapped_value goes (node_at g n).values f

  type_of_s : (k : ℕ) → k < count s → type_of (with_more s whole) k ≡ type_of s k
  type_of_s k low = ap (λ (z : Node). z.of) (node_low s whole k low)

  value_of_s : (k f : ℕ) → k < count s → value_of (with_more s whole) k f ≡ value_of s k f
  value_of_s k f low = ap (λ (z : Node). value_in z.values f) (node_low s whole k low)

  inside : (n : ℕ) → n < count g → goes n < count (with_more s whole)
  inside n low = go (cases_Bool (seen n))
    where
      go : (seen n ≡ true) ⊎ (seen n ≡ false) → goes n < count (with_more s whole)
      go (inl e) = let l = glued.into n low e in let z = size in let q = goes_seen n e in omega arith
      go (inr e) = let z = size in let q = goes_unseen n e in omega arith

  types : (n : ℕ) → n < count g → Above h (type_of g n) (type_of (with_more s whole) (goes n))
  types n low = go (cases_Bool (seen n))
    where
      go : (seen n ≡ true) ⊎ (seen n ≡ false) → Above h (type_of g n) (type_of (with_more s whole) (goes n))
      go (inl e) = subst (Above h (type_of g n)) (sym (ap (type_of (with_more s whole)) (goes_seen n e) ∙ type_of_s (to n) (glued.into n low e))) (glued.types n low e)
      go (inr e) = subst (Above h (type_of g n)) (sym (ap (type_of (with_more s whole)) (goes_unseen n e) ∙ type_of_g n low)) (law.along_self (type_of g n))

  -- a node of s has the values of a seen one that goes there
  seen_value : (n f m : ℕ) → n < count g → seen n ≡ true → value_of g n f ≡ Some m → value_of (with_more s whole) (to n) f ≡ Some (goes m)
  seen_value n f m low e q = value_of_s (to n) f (glued.into n low e) ∙ glued.values n f m low e q ∙ ap Some (sym (goes_seen m (glued.closed n f m low e q)))

  values : (n f m : ℕ) → value_of g n f ≡ Some m → value_of (with_more s whole) (goes n) f ≡ Some (goes m)
  values n f m q = go (cases_Bool (seen n))
    where
      low : n < count g
      low = value_from g n f m q

      go : (seen n ≡ true) ⊎ (seen n ≡ false) → value_of (with_more s whole) (goes n) f ≡ Some (goes m)
      go (inl e) = ap (λ z. value_of (with_more s whole) z f) (goes_seen n e) ∙ seen_value n f m low e q
      go (inr e) = ap (λ z. value_of (with_more s whole) z f) (goes_unseen n e) ∙ value_of_g n f low ∙ ap (option_map goes) q

  formed : IsTrue (is_formed (with_more s whole))
  formed = more_formed s whole str.formed (λ y has. listed y (has_map (renode goes) g.nodes y has))
    where
      listed : (y : Node) → (z : Node) × Has g.nodes z × (y ≡ renode goes z) → IsListed (count (with_more s whole)) y
      listed y (z, at, is) = subst (IsListed (count (with_more s whole))) (sym is) (record { low = λ v in_v. low_of v (has_map (λ (v : ℕ × ℕ). (v.0, goes v.1)) z.values v in_v); rises = rising_renamed goes z.values given.rises })
        where
          given : IsListed (count g) z
          given = is_listed (count g) z (every_has (is_node (count g)) g.nodes z (and_parts (every (is_node (count g)) g.nodes) _ g_str.formed).0 at)

          low_of : (v : ℕ × ℕ) → (w : ℕ × ℕ) × Has z.values w × (v ≡ (w.0, goes w.1)) → v.1 < count (with_more s whole)
          low_of v (w, in_w, e) = subst (λ n. n < count (with_more s whole)) (sym (ap (λ (q : ℕ × ℕ). q.1) e)) (inside w.1 (given.low w in_w))

  -- a node is one of s, or one of g behind
  data Kind (k : ℕ) : Type 0 where
    of_s : k < count s → Kind k
    of_g : (n : ℕ) → n < count g → k ≡ count s + n → Kind k

  kind : (k : ℕ) → k < count (with_more s whole) → Kind k
  kind k low = go (cases_lt k (count s))
    where
      go : (k < count s) ⊎ (count s ≤ k) → Kind k
      go (inl l) = of_s l
      go (inr r) = let z = size in of_g (k - count s) (omega arith) (omega arith)

  total : IsTotal h (with_more s whole)
  total = record {
    types = λ k low. types_in k (kind k low);
    there = λ k f q low e. there k f q (kind k low) e;
    only = λ k f m e. only k f m (kind k (value_from (with_more s whole) k f m e)) e;
  }
    where
      types_in : (k : ℕ) → Kind k → type_of (with_more s whole) k < h.types
      types_in k (of_s l) = subst (λ z. z < h.types) (sym (type_of_s k l)) (str.total.types k l)
      types_in k (of_g n l e) = subst (λ z. z < h.types) (sym (ap (type_of (with_more s whole)) e ∙ type_of_g n l)) (g_str.total.types n l)

      there : (k f q : ℕ) → Kind k → h.approp f (type_of (with_more s whole) k) ≡ Some q → (m : ℕ) × (value_of (with_more s whole) k f ≡ Some m)
      there k f q (of_s l) e = let r = str.total.there k f q l (ap (h.approp f) (sym (type_of_s k l)) ∙ e) in (r.0, value_of_s k f l ∙ r.1)
      there k f q (of_g n l is) e =
          let r = g_str.total.there n f q l (ap (h.approp f) (sym (ap (type_of (with_more s whole)) is ∙ type_of_g n l)) ∙ e) in
          (goes r.0, ap (λ z. value_of (with_more s whole) z f) is ∙ value_of_g n f l ∙ ap (option_map goes) r.1)

      only : (k f m : ℕ) → Kind k → value_of (with_more s whole) k f ≡ Some m → (q : ℕ) × (h.approp f (type_of (with_more s whole) k) ≡ Some q) × Above h q (type_of (with_more s whole) m)
      only k f m (of_s l) e =
          let at : value_of s k f ≡ Some m = sym (value_of_s k f l) ∙ e in
          let r = str.total.only k f m at in
          (r.0, ap (h.approp f) (type_of_s k l) ∙ r.1, subst (Above h r.0) (sym (type_of_s m (value_inside s str.formed k f m at))) r.2)
      only k f m (of_g n l is) e = of_value (option_of goes (value_of g n f) m (sym (ap (λ z. value_of (with_more s whole) z f) is ∙ value_of_g n f l) ∙ e))
        where
          of_value : (j : ℕ) × (value_of g n f ≡ Some j) × (goes j ≡ m) → (q : ℕ) × (h.approp f (type_of (with_more s whole) k) ≡ Some q) × Above h q (type_of (with_more s whole) m)
          of_value (j, at, goes_to) =
              let r = g_str.total.only n f j at in
              (r.0, ap (h.approp f) (ap (type_of (with_more s whole)) is ∙ type_of_g n l) ∙ r.1, subst (λ z. Above h r.0 (type_of (with_more s whole) z)) goes_to (law.along r.0 (type_of g j) (type_of (with_more s whole) (goes j)) r.2 (types j (value_inside g g_str.formed n f j at))))

  first : Draft h g s seen to whole
  first = record {
    map_to = goes;
    formed = formed;
    total = total;
    agrees = λ n low e. goes_seen n e;
    is = record { into = inside; types = types; values = values; differs = λ a b has e. (let p = glued.pairs a b has in p.2 (sym (goes_seen a p.0) ∙ e ∙ goes_seen b p.1)) };
    added = λ k above low. added k above (kind k low);
  }
    where
      added : (k : ℕ) → count s ≤ k → Kind k → IsAdded h g s (with_more s whole) goes k
      added k above (of_s l) = absurd (omega arith)
      added k above (of_g n l is) = of_seen (cases_Bool (seen n))
        where
          type : type_of (with_more s whole) k ≡ type_of g n
          type = ap (type_of (with_more s whole)) is ∙ type_of_g n l

          of_seen : (seen n ≡ true) ⊎ (seen n ≡ false) → IsAdded h g s (with_more s whole) goes k
          of_seen (inr e) = made n l (goes_unseen n e ∙ sym is) type
          of_seen (inl e) = junk (to n) (glued.into n l e) (record {
            type = subst (λ z. Above h z (type_of (with_more s whole) (to n))) (sym type) (subst (Above h (type_of g n)) (sym (type_of_s (to n) (glued.into n l e))) (glued.types n l e));
            values = λ f m q. value f m (option_of goes (value_of g n f) m (sym (ap (λ z. value_of (with_more s whole) z f) is ∙ value_of_g n f l) ∙ q));
          })
            where
              value : (f m : ℕ) → (j : ℕ) × (value_of g n f ≡ Some j) × (goes j ≡ m) → value_of (with_more s whole) (to n) f ≡ Some m
              value f m (j, at, goes_to) = seen_value n f j l e at ∙ ap Some goes_to

  pub attached : Attached h g s seen to
  attached = shrink (length whole) whole (omega arith) first
