-- Merging two classes that nothing tells apart keeps the invariant and fills no gap anew, and merging ends
-- with no two such classes.
use Rattle.std.proofs.Common.{◌≡◌, ℕ, ◌<◌, ◌≤◌, min, max, Bool, true, false, ◌&&◌, eqb, ltb, List, [], ◌∷◌, ◌++◌, append_assoc, ◌⊎◌, inl, inr, refl, sym, ap, ◌∙◌, subst, subst₂, le_refl, arith, Option, Some, None, if◌then◌else◌}
use Rattle.std.proofs.lemmas.Bool.{and_parts, and_from, eqb-true, eq-eqb, ltb-true, lt-ltb}
use Rattle.ale_declared.specs.Lists.{Has, upto}
use Rattle.ale_hierarchy.specs.Hierarchy.{Hierarchy, Above, IsLawful}
use Rattle.ale_graph.specs.declared.fact.Fact.{Fact}
use Rattle.ale_graph.specs.declared.fact.Fact.TheVariants.{OfType, Value, Same}
use Rattle.ale_graph.specs.Structures.{Structure, IsStructure, type_of, value_of}
use Rattle.ale_graph.specs.Facts.{HoldsFact, Fulfils, FitsFact, Fits}
use Rattle.ale_graph.specs.Least.{SameClass, MustBe}
use Rattle.ale_graph.specs.Settled.{settle}
use Rattle.ale_graph.specs.Classes.{merged, class_sum}
use Rattle.ale_graph.specs.Filling.{Filled, class_value}
use Rattle.ale_graph.specs.Collapsing.{same_option, same_values, is_class, is_double, double, first_double, merge_double, collapse}
use Rattle.ale_graph.specs.Universal.{HasExtension}
use Rattle.ale_graph.proofs.Lists.{some_one, none_some, has_left, has_right, has_either, has_upto, below_upto, every_has, every_from}
use Rattle.ale_graph.proofs.Least.{Within, same_more, must_more, must_holds}
use Rattle.ale_graph.proofs.Settled.{settled, pair_found, pair_none}
use Rattle.ale_graph.proofs.Classes.{IsClasses, ObeysSame, obeys_one, same_from, merged_at, merged_le, merged_less}
use Rattle.ale_graph.proofs.Types.{IsTypes, ObeysTypes, obeys_bound}
use Rattle.ale_graph.proofs.Closing.{IsClosing, value_found, value_there, value_holds}
use Rattle.ale_graph.proofs.Filling.{IsFull, IsFilled}

-- two classes, the first the lower one, of one extensional type and with the same values
pub record IsDouble (h : Hierarchy) (st : Filled) (a b : ℕ) : Type 0 where
  pub less : a < b
  pub below : b < st.next
  pub own_first : st.class a ≡ a
  pub own_second : st.class b ≡ b
  pub one_type : st.types a ≡ st.types b
  pub ext : h.is_ext (st.types a) ≡ true
  pub values : (f : ℕ) → f < h.features → class_value st.class st.facts a f ≡ class_value st.class st.facts b f

pub same_option_true : (o p : Option ℕ) → same_option o p ≡ true → o ≡ p
same_option_true None None e = refl
same_option_true None (Some b) e = absurd cc
same_option_true (Some a) None e = absurd cc
same_option_true (Some a) (Some b) e = ap (λ (z : ℕ). Some z) (eqb-true a b e)

pub true_same_option : (o p : Option ℕ) → o ≡ p → same_option o p ≡ true
true_same_option None None e = refl
true_same_option None (Some b) e = absurd (none_some e)
true_same_option (Some a) None e = absurd (none_some (sym e))
true_same_option (Some a) (Some b) e = eq-eqb a b (some_one e)

double_from : (h : Hierarchy) (st : Filled) (a b : ℕ) → b < st.next → is_double h st a b ≡ true → IsDouble h st a b
double_from h st a b bb e =
    let two = and_parts (ltb a b && (is_class st a && is_class st b)) ((eqb (st.types a) (st.types b) && h.is_ext (st.types a)) && same_values h st a b) e in
    let left = and_parts (ltb a b) (is_class st a && is_class st b) two.0 in
    let own = and_parts (is_class st a) (is_class st b) left.1 in
    let right = and_parts (eqb (st.types a) (st.types b) && h.is_ext (st.types a)) (same_values h st a b) two.1 in
    let ty = and_parts (eqb (st.types a) (st.types b)) (h.is_ext (st.types a)) right.0 in
    record {
      less = ltb-true a b left.0;
      below = bb;
      own_first = eqb-true (st.class a) a own.0;
      own_second = eqb-true (st.class b) b own.1;
      one_type = eqb-true (st.types a) (st.types b) ty.0;
      ext = ty.1;
      values = λ f lt. same_option_true (class_value st.class st.facts a f) (class_value st.class st.facts b f) (every_has (λ f. same_option (class_value st.class st.facts a f) (class_value st.class st.facts b f)) (upto h.features) f right.1 (has_upto h.features f lt));
    }

double_to : (h : Hierarchy) (st : Filled) (a b : ℕ) → IsDouble h st a b → is_double h st a b ≡ true
double_to h st a b d =
    let own = and_from (is_class st a) (is_class st b) (eq-eqb (st.class a) a d.own_first) (eq-eqb (st.class b) b d.own_second) in
    let left = and_from (ltb a b) (is_class st a && is_class st b) (lt-ltb a b d.less) own in
    let ty = and_from (eqb (st.types a) (st.types b)) (h.is_ext (st.types a)) (eq-eqb (st.types a) (st.types b) d.one_type) d.ext in
    let values = every_from (λ f. same_option (class_value st.class st.facts a f) (class_value st.class st.facts b f)) (upto h.features) (λ f p. true_same_option (class_value st.class st.facts a f) (class_value st.class st.facts b f) (d.values f (below_upto h.features f p))) in
    let right = and_from (eqb (st.types a) (st.types b) && h.is_ext (st.types a)) (same_values h st a b) ty values in
    and_from (ltb a b && (is_class st a && is_class st b)) ((eqb (st.types a) (st.types b) && h.is_ext (st.types a)) && same_values h st a b) left right

pub double_found : (h : Hierarchy) (st : Filled) (p : ℕ × ℕ) → first_double h st ≡ Some p → IsDouble h st p.0 p.1
double_found h st p e =
    let r = pair_found (double h st) (upto st.next) (upto st.next) p e in
    go r.x r.y (below_upto st.next r.y r.in_ys) (is_double h st r.x r.y) refl r.gives
  where
    go : (a b : ℕ) → b < st.next → (t : Bool) → is_double h st a b ≡ t → ◌≡◌ {A = Option (ℕ × ℕ)} (if t then Some (a, b) else None) (Some p) → IsDouble h st p.0 p.1
    go a b lt false is e = absurd (none_some e)
    go a b lt true is e =
        let q : ◌≡◌ {A = ℕ × ℕ} (a, b) p = some_one e in
        subst₂ (λ x y. IsDouble h st x y) (ap (λ (z : ℕ × ℕ). z.0) q) (ap (λ (z : ℕ × ℕ). z.1) q) (double_from h st a b lt is)

pub double_none : (h : Hierarchy) (st : Filled) (a b : ℕ) → first_double h st ≡ None → IsDouble h st a b → ⊥
double_none h st a b e d =
    let l = d.less in
    let m = d.below in
    let none = pair_none (double h st) (upto st.next) (upto st.next) a b e (has_upto st.next a (omega arith)) (has_upto st.next b m) in
    let t : is_double h st a b ≡ true = double_to h st a b d in
    let bad : ◌≡◌ {A = Option (ℕ × ℕ)} (Some (a, b)) None = subst (λ z. ◌≡◌ {A = Option (ℕ × ℕ)} (if z then Some (a, b) else None) None) t none in
    none_some (sym bad)

module _ (h : Hierarchy) (given : List Fact) (before : ℕ) (law : IsLawful h) (st : Filled) (k : IsClosing h given before st) (full : IsFull h st) (p : ℕ × ℕ) (d : IsDouble h st p.0 p.1) where
  high : max p.0 p.1 ≡ p.1
  high = let l = d.less in omega arith

  low : min p.0 p.1 ≡ p.0
  low = let l = d.less in omega arith

  within : Within st.facts (merge_double p st).facts
  within x q = has_left st.facts (Same p.0 p.1 ∷ []) x q

  newer : (x : Fact) → Has (merge_double p st).facts x → Has st.facts x ⊎ (x ≡ Same p.0 p.1)
  newer x q = go (has_either st.facts (Same p.0 p.1 ∷ []) x q)
    where
      go : Has st.facts x ⊎ Has (Same p.0 p.1 ∷ []) x → Has st.facts x ⊎ (x ≡ Same p.0 p.1)
      go (inl r) = inl r
      go (inr (inl e)) = inr e
      go (inr (inr r)) = absurd r

  newer_value : (n f m : ℕ) → Has (merge_double p st).facts (Value n f m) → Has st.facts (Value n f m)
  newer_value n f m q = go (newer (Value n f m) q)
    where
      go : Has st.facts (Value n f m) ⊎ (Value n f m ≡ Same p.0 p.1) → Has st.facts (Value n f m)
      go (inl r) = r
      go (inr e) = absurd cc

  newer_type : (n t : ℕ) → Has (merge_double p st).facts (OfType n t) → Has st.facts (OfType n t)
  newer_type n t q = go (newer (OfType n t) q)
    where
      go : Has st.facts (OfType n t) ⊎ (OfType n t ≡ Same p.0 p.1) → Has st.facts (OfType n t)
      go (inl r) = r
      go (inr e) = absurd cc

  newer_same : (a b : ℕ) → Has (merge_double p st).facts (Same a b) → Has st.facts (Same a b) ⊎ ((a ≡ p.0) × (b ≡ p.1))
  newer_same a b q = go (newer (Same a b) q)
    where
      go : Has st.facts (Same a b) ⊎ (Same a b ≡ Same p.0 p.1) → Has st.facts (Same a b) ⊎ ((a ≡ p.0) × (b ≡ p.1))
      go (inl r) = inl r
      go (inr e) = inr (cc, cc)

  told_same : SameClass (merge_double p st).facts p.0 p.1
  told_same = SameClass.told p.0 p.1 (has_right st.facts (Same p.0 p.1 ∷ []) (Same p.0 p.1) (inl refl))

  new : ℕ → ℕ
  new = merged p st.class

  -- what a merge does to a class number
  moved : (a : ℕ) → ((st.class a ≡ p.1) × (new a ≡ p.0)) ⊎ ((st.class a ≡ p.1 → ⊥) × (new a ≡ st.class a))
  unfolding new
  moved a = go (merged_at p st.class a)
    where
      go : ((st.class a ≡ max p.0 p.1) × (merged p st.class a ≡ min p.0 p.1)) ⊎ ((st.class a ≡ max p.0 p.1 → ⊥) × (merged p st.class a ≡ st.class a)) → ((st.class a ≡ p.1) × (merged p st.class a ≡ p.0)) ⊎ ((st.class a ≡ p.1 → ⊥) × (merged p st.class a ≡ st.class a))
      go (inl q) = inl (q.0 ∙ high, q.1 ∙ low)
      go (inr q) = inr (λ e. q.0 (e ∙ sym high), q.1)

  -- classes that were one stay one
  new_one : (a b : ℕ) → st.class a ≡ st.class b → new a ≡ new b
  new_one a b e = go (moved a) (moved b)
    where
      go : ((st.class a ≡ p.1) × (new a ≡ p.0)) ⊎ ((st.class a ≡ p.1 → ⊥) × (new a ≡ st.class a)) → ((st.class b ≡ p.1) × (new b ≡ p.0)) ⊎ ((st.class b ≡ p.1 → ⊥) × (new b ≡ st.class b)) → new a ≡ new b
      go (inl x) (inl y) = x.1 ∙ sym y.1
      go (inl x) (inr y) = absurd (y.0 (sym e ∙ x.0))
      go (inr x) (inl y) = absurd (x.0 (e ∙ y.0))
      go (inr x) (inr y) = x.1 ∙ e ∙ sym y.1

  -- classes that become one were one, or are the two
  new_from : (a b : ℕ) → new a ≡ new b → (st.class a ≡ st.class b) ⊎ ((st.class a ≡ p.0) × (st.class b ≡ p.1)) ⊎ ((st.class a ≡ p.1) × (st.class b ≡ p.0))
  new_from a b e = go (moved a) (moved b)
    where
      go : ((st.class a ≡ p.1) × (new a ≡ p.0)) ⊎ ((st.class a ≡ p.1 → ⊥) × (new a ≡ st.class a)) → ((st.class b ≡ p.1) × (new b ≡ p.0)) ⊎ ((st.class b ≡ p.1 → ⊥) × (new b ≡ st.class b)) → (st.class a ≡ st.class b) ⊎ ((st.class a ≡ p.0) × (st.class b ≡ p.1)) ⊎ ((st.class a ≡ p.1) × (st.class b ≡ p.0))
      go (inl x) (inl y) = inl (x.0 ∙ sym y.0)
      go (inl x) (inr y) = inr (inr (x.0, sym y.1 ∙ sym e ∙ x.1))
      go (inr x) (inl y) = inr (inl (sym x.1 ∙ e ∙ y.1, y.0))
      go (inr x) (inr y) = inl (sym x.1 ∙ e ∙ y.1)

  new_type : (a : ℕ) → st.types (new a) ≡ st.types (st.class a)
  new_type a = go (moved a)
    where
      go : ((st.class a ≡ p.1) × (new a ≡ p.0)) ⊎ ((st.class a ≡ p.1 → ⊥) × (new a ≡ st.class a)) → st.types (new a) ≡ st.types (st.class a)
      go (inl q) = ap st.types q.1 ∙ d.one_type ∙ ap st.types (sym q.0)
      go (inr q) = ap st.types q.1

  merge_obeys : ObeysSame (merge_double p st).facts new
  merge_obeys = record { sames = λ a b q. sames a b (newer_same a b q); values = λ f a b x y q r e. values f a b x y (newer_value a f x q) (newer_value b f y r) (new_from a b e) }
    where
      at_first : new p.0 ≡ p.0
      at_first = go (moved p.0)
        where
          go : ((st.class p.0 ≡ p.1) × (new p.0 ≡ p.0)) ⊎ ((st.class p.0 ≡ p.1 → ⊥) × (new p.0 ≡ st.class p.0)) → new p.0 ≡ p.0
          go (inl q) = q.1
          go (inr q) = q.1 ∙ d.own_first

      at_second : new p.1 ≡ p.0
      at_second = go (moved p.1)
        where
          go : ((st.class p.1 ≡ p.1) × (new p.1 ≡ p.0)) ⊎ ((st.class p.1 ≡ p.1 → ⊥) × (new p.1 ≡ st.class p.1)) → new p.1 ≡ p.0
          go (inl q) = q.1
          go (inr q) = absurd (q.0 d.own_second)

      sames : (a b : ℕ) → Has st.facts (Same a b) ⊎ ((a ≡ p.0) × (b ≡ p.1)) → new a ≡ new b
      sames a b (inl q) = new_one a b (k.classes.one a b (SameClass.told a b q))
      sames a b (inr q) = ap new q.0 ∙ at_first ∙ sym at_second ∙ ap new (sym q.1)

      two : (f u v x y : ℕ) → Has st.facts (Value u f x) → Has st.facts (Value v f y) → st.class u ≡ p.0 → st.class v ≡ p.1 → st.class x ≡ st.class y
      two f u v x y q r eu ev =
          let one = value_there st.facts st.next st.class k.classes p.0 f u x q eu in
          let other = value_there st.facts st.next st.class k.classes p.1 f v y r ev in
          some_one (sym one ∙ d.values f (k.fits (Value u f x) q).1 ∙ other)

      values : (f a b x y : ℕ) → Has st.facts (Value a f x) → Has st.facts (Value b f y) → (st.class a ≡ st.class b) ⊎ ((st.class a ≡ p.0) × (st.class b ≡ p.1)) ⊎ ((st.class a ≡ p.1) × (st.class b ≡ p.0)) → new x ≡ new y
      values f a b x y q r (inl e) = new_one x y (k.classes.one x y (SameClass.alike f a b x y q r (same_from st.facts st.class k.classes.kept a b e)))
      values f a b x y q r (inr (inl e)) = new_one x y (two f a b x y q r e.0 e.1)
      values f a b x y q r (inr (inr e)) = new_one x y (sym (two f b a y x r q e.1 e.0))

  merge_classes : IsClasses (merge_double p st).facts st.next new
  unfolding new
  merge_classes = record {
    kept = λ a. kept a (moved a);
    least = λ a. (let m = merged_le p st.class a in let l = k.classes.least a in omega arith);
    one = obeys_one (merge_double p st).facts new merge_obeys;
    outside = λ a le. outside a le (moved a);
  }
    where
      kept : (a : ℕ) → ((st.class a ≡ p.1) × (new a ≡ p.0)) ⊎ ((st.class a ≡ p.1 → ⊥) × (new a ≡ st.class a)) → SameClass (merge_double p st).facts a (new a)
      kept a (inl q) =
          subst (λ z. SameClass (merge_double p st).facts a z) (sym q.1)
          (SameClass.joined a p.1 p.0 (subst (λ z. SameClass (merge_double p st).facts a z) q.0 (same_more st.facts (merge_double p st).facts within a (st.class a) (k.classes.kept a))) (SameClass.turned p.0 p.1 told_same))
      kept a (inr q) = subst (λ z. SameClass (merge_double p st).facts a z) (sym q.1) (same_more st.facts (merge_double p st).facts within a (st.class a) (k.classes.kept a))

      outside : (a : ℕ) → st.next ≤ a → ((st.class a ≡ p.1) × (new a ≡ p.0)) ⊎ ((st.class a ≡ p.1 → ⊥) × (new a ≡ st.class a)) → new a ≡ a
      outside a le (inl q) = let own = k.classes.outside a le in let b = d.below in let e = q.0 in absurd (omega arith)
      outside a le (inr q) = q.1 ∙ k.classes.outside a le

  merge_types_obey : ObeysTypes h (merge_double p st).facts new st.types
  merge_types_obey = record {
    told = λ a t q. subst (λ z. Above h t z) (sym (new_type a)) (k.types.bound a t (MustBe.declared a t (newer_type a t q)));
    intros = λ a f x q. subst (λ z. Above h (h.intro f) z) (sym (new_type a)) (k.types.bound a (h.intro f) (MustBe.introduced a f x (newer_value a f x q)));
    restricts = λ a f x r q e. subst (λ z. Above h r z) (sym (new_type x)) (k.types.bound x r (MustBe.restricted a f x (st.types (st.class a)) r (newer_value a f x q) (k.types.forced a) (subst (λ z. h.approp f z ≡ Some r) (new_type a) e)));
    inside = k.types.inside;
  }

  merge_types : IsTypes h (merge_double p st).facts new st.types
  merge_types = record {
    forced = λ a. subst (λ z. MustBe h (merge_double p st).facts a z) (sym (new_type a)) (must_more h st.facts (merge_double p st).facts within a (st.types (st.class a)) (k.types.forced a));
    bound = obeys_bound h (merge_double p st).facts new st.types law merge_classes.one merge_types_obey;
    inside = k.types.inside;
  }

  merge_fits : Fits h (merge_double p st).facts st.next
  merge_fits x q = go (newer x q)
    where
      go : Has st.facts x ⊎ (x ≡ Same p.0 p.1) → FitsFact h st.next x
      go (inl r) = k.fits x r
      go (inr e) = subst (λ z. FitsFact h st.next z) (sym e) (let l = d.less in let b = d.below in (omega arith, b))

  -- in an extensional structure that fulfils the facts, the two go to one node
  met : (s : Structure) (at : ℕ → ℕ) → IsStructure h s → Fulfils h s at st.facts st.next → at p.0 ≡ at p.1
  met s at of ok = of.extensional (at p.0) (at p.1) (ok.into p.0 (let l = d.less in let b = d.below in omega arith)) (ok.into p.1 d.below) (sym first_type ∙ second_type) (subst (λ z. h.is_ext z ≡ true) first_type d.ext) same
    where
      must : (c : ℕ) → st.class c ≡ c → Above h (st.types c) (type_of s (at c))
      must c own = must_holds h s at st.facts law of.total ok.holds c (st.types c) (subst (λ z. MustBe h st.facts c (st.types z)) own (k.types.forced c))

      first_type : st.types p.0 ≡ type_of s (at p.0)
      first_type = law.ext_last (st.types p.0) (type_of s (at p.0)) d.ext (must p.0 d.own_first)

      second_type : st.types p.0 ≡ type_of s (at p.1)
      second_type = law.ext_last (st.types p.0) (type_of s (at p.1)) d.ext (subst (λ z. Above h z (type_of s (at p.1))) (sym d.one_type) (must p.1 d.own_second))

      by_feature : (f : ℕ) → (o : Option ℕ) → h.approp f (st.types p.0) ≡ o → value_of s (at p.0) f ≡ value_of s (at p.1) f
      by_feature f (Some r) e =
          let v = full p.0 f r (let l = d.less in let b = d.below in omega arith) d.own_first e in
          let w : class_value st.class st.facts p.1 f ≡ Some v.0 = sym (d.values f (law.approp_inside f (st.types p.0) r e).0) ∙ v.1 in
          value_holds h s at st.facts st.class k.classes.kept ok.holds p.0 f v.0 v.1 ∙ sym (value_holds h s at st.facts st.class k.classes.kept ok.holds p.1 f v.0 w)
      by_feature f None e = none_of (at p.0) first_type (value_of s (at p.0) f) refl ∙ sym (none_of (at p.1) second_type (value_of s (at p.1) f) refl)
        where
          none_of : (n : ℕ) → st.types p.0 ≡ type_of s n → (o : Option ℕ) → value_of s n f ≡ o → value_of s n f ≡ None
          none_of n t None q = q
          none_of n t (Some m) q = let r = of.total.only n f m q in absurd (none_some (sym e ∙ ap (λ z. h.approp f z) t ∙ r.1))

      same : (f : ℕ) → value_of s (at p.0) f ≡ value_of s (at p.1) f
      same f = by_feature f (h.approp f (st.types p.0)) refl

  merge_extends : (s : Structure) (at : ℕ → ℕ) → IsStructure h s → Fulfils h s at given before → HasExtension h s at before (merge_double p st).facts st.next
  merge_extends s at of ok = record {
    new = e.new;
    agrees = e.agrees;
    fulfils = record { into = e.fulfils.into; holds = λ x q. holds x (newer x q) };
    only = λ g agree all. e.only g agree (record { into = all.into; holds = λ x q. all.holds x (within x q) });
  }
    where
      e : HasExtension h s at before st.facts st.next
      e = k.extends s at of ok

      holds : (x : Fact) → Has st.facts x ⊎ (x ≡ Same p.0 p.1) → HoldsFact h s e.new x
      holds x (inl q) = e.fulfils.holds x q
      holds x (inr q) = subst (λ z. HoldsFact h s e.new z) (sym q) (met s e.new of e.fulfils)

  pub merge_keeps : IsClosing h given before (merge_double p st)
  unfolding new
  merge_keeps = record {
    classes = merge_classes;
    types = merge_types;
    fits = merge_fits;
    longer = k.longer;
    front = (k.front.0 ++ Same p.0 p.1 ∷ [], ap (λ z. z ++ Same p.0 p.1 ∷ []) k.front.1 ∙ append_assoc given k.front.0 (Same p.0 p.1 ∷ []));
    extends = merge_extends;
  }

  pub merge_full : IsFull h (merge_double p st)
  unfolding new
  merge_full c f r lt own e = go (moved c)
    where
      go : ((st.class c ≡ p.1) × (new c ≡ p.0)) ⊎ ((st.class c ≡ p.1 → ⊥) × (new c ≡ st.class c)) → (m : ℕ) × (class_value new (merge_double p st).facts c f ≡ Some m)
      go (inl q) =
          let c_is : c ≡ p.0 = sym own ∙ q.1 in
          let bad : p.0 ≡ p.1 = sym d.own_first ∙ ap st.class (sym c_is) ∙ q.0 in
          let l = d.less in
          absurd (omega arith)
      go (inr q) =
          let v = full c f r lt (sym q.1 ∙ own) e in
          let from = value_found st.facts st.class c f v.0 v.1 in
          let at : new from.node ≡ c = new_one from.node c (from.of ∙ sym (sym q.1 ∙ own)) ∙ own in
          (new from.value, value_there (merge_double p st).facts st.next new merge_classes c f from.node from.value (within (Value from.node f from.value) from.has) at)

  pub merge_less : class_sum st.next (merged p st.class) < class_sum st.next st.class
  merge_less = merged_less p st.class st.next p.1 d.below (d.own_second ∙ sym high) (let l = d.less in omega arith)

pub record IsCollapsed (h : Hierarchy) (given : List Fact) (before : ℕ) (st : Filled) : Type 0 where
  pub filled : IsFilled h given before st
  pub single : (a b : ℕ) → IsDouble h st a b → ⊥

pub collapse_is : (h : Hierarchy) (given : List Fact) (before : ℕ) (st : Filled) → IsLawful h → IsFilled h given before st → IsCollapsed h given before (collapse h st)
unfolding collapse
collapse_is h given before st law k =
    let s = settled (first_double h) merge_double (λ st. class_sum st.next st.class) (IsFilled h given before) (record {
      less = λ st p k e. merge_less h given before law st k.closing k.full p (double_found h st p e);
      kept = λ st p k e. record { closing = merge_keeps h given before law st k.closing k.full p (double_found h st p e); full = merge_full h given before law st k.closing k.full p (double_found h st p e) };
    }) (class_sum st.next st.class) st k (le_refl (class_sum st.next st.class)) in
    record { filled = s.kept; single = λ a b d. double_none h (settle (first_double h) merge_double (class_sum st.next st.class) st) a b s.none d }
