-- A description speaks of no more than what is seen from its node: it holds wherever that is taken. And the visible part of
-- a total, extensional structure is one.
use Rattle.std.proofs.Common.{◌≡◌, ◌≢◌, ℕ, ◌<◌, Option, Some, None, List, [], ◌∷◌, option_map, inl, inr, refl, sym, ap, ◌∙◌, subst}
use Rattle.ale_declared.specs.Lists.{Has}
use Rattle.ale_hierarchy.specs.Hierarchy.{Hierarchy, Above, IsLawful}
use Rattle.ale_graph.specs.Structures.{Structure, IsStructure, IsTotal, count, type_of, value_of}
use Rattle.ale_graph.proofs.Lists.{has_map, some_one, none_some}
use Rattle.ale_graph.proofs.Structures.{value_from}
use Rattle.ale_morphism.specs.Visible.{Visible, value, differs_first, differs_second, renumbered, origin, visible}
use Rattle.ale_morphism.specs.VisibleLaws.{IsPart}
use Rattle.ale_morphism.proofs.ReachSteps.{visible_formed}
use Rattle.ale_morphism.proofs.VisibleLaws.{is_part}
use Rattle.ale_logic.specs.Inequations.{HasNoInequation, HaveNoInequation}
use Rattle.ale_logic.specs.Descriptions.{Description, Descriptions, of_type, slot, at, all, any, differs, path_equation, none, more, LeadsTo, HoldsAt, AllHoldAt, SomeHoldsAt}

module _ (h : Hierarchy) (law : IsLawful h) (s t : Structure) (Seen : ℕ → Type 0) (to : ℕ → ℕ)
    (below : (n f m : ℕ) → Seen n → value_of s n f ≡ Some m → Seen m)
    (types : (n : ℕ) → Seen n → Above h (type_of s n) (type_of t (to n)))
    (values : (n f m : ℕ) → Seen n → value_of s n f ≡ Some m → value_of t (to n) f ≡ Some (to m))
    (assign new : ℕ → ℕ) (agrees : (v : ℕ) → Seen (assign v) → new v ≡ to (assign v)) where
  path_taken : (n : ℕ) (path : List ℕ) (m : ℕ) → Seen n → LeadsTo s n path m → LeadsTo t (to n) path (to m)
  path_taken n [] m v e = ap to e
  path_taken n (f ∷ path) m v l = (to l.0, values n f l.0 v l.1, path_taken l.0 path m (below n f l.0 v l.1) l.2)

  mutual
    pub held : (d : Description) → HasNoInequation d → (n : ℕ) → Seen n → HoldsAt h s assign d n → HoldsAt h t new d (to n)
    held (of_type k) p n v r = law.along k (type_of s n) (type_of t (to n)) r (types n v)
    held (slot x) p n v e = agrees x (subst Seen (sym e) v) ∙ ap to e
    held (at f d) p n v r = (to r.0, values n f r.0 v r.1, held d p r.0 (below n f r.0 v r.1) r.2)
    held (all ds) p n v r = all_held ds p n v r
    held (any ds) p n v r = some_held ds p n v r
    held (differs d) p n v r = absurd p
    held (path_equation q o) p n v r = (to r.0, path_taken n q r.0 v r.1, path_taken n o r.0 v r.2)

    all_held : (ds : Descriptions) → HaveNoInequation ds → (n : ℕ) → Seen n → AllHoldAt h s assign ds n → AllHoldAt h t new ds (to n)
    all_held none p n v r = tt
    all_held (more d ds) p n v r = (held d p.0 n v r.0, all_held ds p.1 n v r.1)

    some_held : (ds : Descriptions) → HaveNoInequation ds → (n : ℕ) → Seen n → SomeHoldsAt h s assign ds n → SomeHoldsAt h t new ds (to n)
    some_held none p n v r = absurd r
    some_held (more d ds) p n v (inl r) = inl (held d p.0 n v r)
    some_held (more d ds) p n v (inr r) = inr (some_held ds p.1 n v r)

-- the visible part of a total, extensional structure is one

module _ (h : Hierarchy) (s : Structure) (is : IsStructure h s) where
  part : IsPart s (visible s)
  part = is_part s is.formed

  -- the value of a node is that of its origin
  record Stem (k f m : ℕ) : Type 0 where
    node : ℕ
    value_is : value_of s (origin s k) f ≡ Some node
    seen : Visible s node
    number : renumbered s node ≡ m

  stem : (k f m : ℕ) → k < count (visible s) → value_of (visible s) k f ≡ Some m → Stem k f m
  stem k f m low e = go (value_of s (origin s k) f) refl
    where
      go : (o : Option ℕ) → value_of s (origin s k) f ≡ o → Stem k f m
      go None q = absurd (none_some (sym (part.values k f low ∙ ap (option_map (renumbered s)) q) ∙ e))
      go (Some n) q = record {
        node = n;
        value_is = q;
        seen = value (origin s k) f n (part.from k low) q;
        number = some_one (sym (part.values k f low ∙ ap (option_map (renumbered s)) q) ∙ e);
      }

  total : IsTotal h (visible s)
  total = record {
    types = λ n low. subst (λ z. z < h.types) (sym (part.types n low)) (is.total.types (origin s n) (part.inside n low));
    there = λ n f r low e.
        let v = is.total.there (origin s n) f r (part.inside n low) (ap (h.approp f) (sym (part.types n low)) ∙ e) in
        (renumbered s v.0, part.values n f low ∙ ap (option_map (renumbered s)) v.1);
    only = λ n f m e.
        let low = value_from (visible s) n f m e in
        let v = stem n f m low e in
        let r = is.total.only (origin s n) f v.node v.value_is in
        let same : type_of (visible s) m ≡ type_of s v.node =
        ap (type_of (visible s)) (sym v.number) ∙ part.types (renumbered s v.node) (part.onto v.node v.seen) ∙ ap (type_of s) (part.back v.node v.seen) in
        (r.0, ap (h.approp f) (part.types n low) ∙ r.1, subst (λ z. Above h r.0 z) (sym same) r.2);
  }

  -- two values that are one in the visible part are one
  same_value : (a b f : ℕ) → Visible s a → Visible s b → option_map (renumbered s) (value_of s a f) ≡ option_map (renumbered s) (value_of s b f) → value_of s a f ≡ value_of s b f
  same_value a b f va vb e = go (value_of s a f) (value_of s b f) refl refl e
    where
      go : (p q : Option ℕ) → value_of s a f ≡ p → value_of s b f ≡ q → option_map (renumbered s) p ≡ option_map (renumbered s) q → p ≡ q
      go None None x y e = refl
      go None (Some n) x y e = absurd (none_some e)
      go (Some m) None x y e = absurd (none_some (sym e))
      go (Some m) (Some n) x y e =
          ap (λ (z : ℕ). Some z) (sym (part.back m (value a f m va x)) ∙ ap (origin s) (some_one e) ∙ part.back n (value b f n vb y))

  apart : (a b : ℕ) → Has (visible s).differ (a, b) → a ≢ b
  apart a b has e =
      let r = has_map (λ (p : ℕ × ℕ). (renumbered s p.0, renumbered s p.1)) s.differ (a, b) (subst (λ (z : List (ℕ × ℕ)). Has z (a, b)) part.differ has) in
      let same : renumbered s r.0.0 ≡ renumbered s r.0.1 = sym (ap (λ (z : ℕ × ℕ). z.0) r.2) ∙ e ∙ ap (λ (z : ℕ × ℕ). z.1) r.2 in
      is.apart r.0.0 r.0.1 r.1
      (sym (part.back r.0.0 (differs_first r.0.0 r.0.1 r.1)) ∙ ap (origin s) same ∙ part.back r.0.1 (differs_second r.0.0 r.0.1 r.1))

  pub visible_structure : IsStructure h (visible s)
  visible_structure = record {
    formed = visible_formed s is.formed;
    total = total;
    extensional = λ a b la lb type ext values.
        let type_too : type_of s (origin s a) ≡ type_of s (origin s b) = sym (part.types a la) ∙ type ∙ part.types b lb in
        let one = is.extensional (origin s a) (origin s b) (part.inside a la) (part.inside b lb) type_too (ap h.is_ext (sym (part.types a la)) ∙ ext)
        (λ f. same_value (origin s a) (origin s b) f (part.from a la) (part.from b lb) (sym (part.values a f la) ∙ values f ∙ part.values b f lb)) in
        sym (part.number a la) ∙ ap (renumbered s) one ∙ part.number b lb;
    apart = apart;
  }
