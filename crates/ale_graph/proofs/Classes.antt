-- The classes of the first step are the least ones that obey the facts: two nodes have one class number
-- exactly where they are in one class, and the number is its least node.
use Rattle.std.proofs.Common.{◌≡◌, ℕ, ◌+◌, ◌<◌, ◌≤◌, min, max, Bool, true, false, ◌&&◌, eqb, List, ◌⊎◌, inl, inr, refl, sym, ap, ◌∙◌, subst, subst₂, le_refl, arith, Option, Some, None, if◌then◌else◌}
use Rattle.std.proofs.lemmas.Bool.{and_parts, and_from, eqb-true, eq-eqb, eqb-false}
use Rattle.ale_declared.specs.Lists.{Has, upto}
use Rattle.ale_hierarchy.specs.Hierarchy.{Hierarchy}
use Rattle.ale_graph.specs.declared.fact.Fact.{Fact}
use Rattle.ale_graph.specs.declared.fact.Fact.TheVariants.{OfType, Value, Same, Differ}
use Rattle.ale_graph.specs.Facts.{Fits}
use Rattle.ale_graph.specs.Least.{SameClass}
use Rattle.ale_graph.specs.Least.SameClass.{itself, turned, joined, told, alike}
pub use Rattle.ale_graph.specs.Keeping.{IsClasses}
use Rattle.ale_graph.specs.Classes.{two_classes, made_one, merged, class_sum, open_classes, classes}
use Rattle.ale_graph.proofs.Lists.{some_one, none_some, has_upto, sum_drop}
use Rattle.ale_graph.proofs.Settled.{settled, pair_found, pair_none}

-- a map of nodes that puts together what the facts put together
pub record ObeysSame (facts : List Fact) (cs : ℕ → ℕ) : Type 0 where
  pub sames : (a b : ℕ) → Has facts (Same a b) → cs a ≡ cs b
  pub values : (f a b x y : ℕ) → Has facts (Value a f x) → Has facts (Value b f y) → cs a ≡ cs b → cs x ≡ cs y

pub obeys_one : (facts : List Fact) (cs : ℕ → ℕ) → ObeysSame facts cs → (a b : ℕ) → SameClass facts a b → cs a ≡ cs b
obeys_one facts cs o a b (itself _) = refl
obeys_one facts cs o a b (turned _ _ k) = sym (obeys_one facts cs o b a k)
obeys_one facts cs o a b (joined _ c _ k l) = obeys_one facts cs o a c k ∙ obeys_one facts cs o c b l
obeys_one facts cs o a b (told _ _ k) = o.sames a b k
obeys_one facts cs o x y (alike f a b _ _ k l r) = o.values f a b x y k l (obeys_one facts cs o a b r)

-- nodes with one class number are in one class
pub same_from : (facts : List Fact) (cs : ℕ → ℕ) → ((a : ℕ) → SameClass facts a (cs a)) → (a b : ℕ) → cs a ≡ cs b → SameClass facts a b
same_from facts cs kept a b e = joined a (cs a) b (kept a) (subst (λ z. SameClass facts z b) (sym e) (turned b (cs b) (kept b)))

pub own_class : (facts : List Fact) (next : ℕ) (cs : ℕ → ℕ) → IsClasses facts next cs → (a : ℕ) → cs (cs a) ≡ cs a
own_class facts next cs is a = sym (is.one a (cs a) (is.kept a))

pub class_below : (facts : List Fact) (next : ℕ) (cs : ℕ → ℕ) → IsClasses facts next cs → (a : ℕ) → a < next → cs a < next
class_below facts next cs is a lt = let le = is.least a in omega arith

-- the loop's invariant
pub record IsJoining (facts : List Fact) (next : ℕ) (cs : ℕ → ℕ) : Type 0 where
  pub kept : (a : ℕ) → SameClass facts a (cs a)
  pub least : (a : ℕ) → cs a ≤ a
  pub outside : (a : ℕ) → next ≤ a → cs a ≡ a

-- what an open pair of facts is: two nodes below next of one class with two class numbers
pub record IsOpen (facts : List Fact) (next : ℕ) (cs : ℕ → ℕ) (p : ℕ × ℕ) : Type 0 where
  pub x : ℕ
  pub y : ℕ
  pub x_below : x < next
  pub y_below : y < next
  pub same : SameClass facts x y
  pub two : cs x ≡ cs y → ⊥
  pub first : p.0 ≡ cs x
  pub second : p.1 ≡ cs y

two_some : (facts : List Fact) (next : ℕ) (cs : ℕ → ℕ) (x y : ℕ) (p : ℕ × ℕ) → x < next → y < next → SameClass facts x y → two_classes cs x y ≡ Some p → IsOpen facts next cs p
two_some facts next cs x y p xb yb same e = go (eqb (cs x) (cs y)) refl e
  where
    go : (t : Bool) → eqb (cs x) (cs y) ≡ t → (if t then None else Some (cs x, cs y)) ≡ Some p → IsOpen facts next cs p
    go true is e = absurd (none_some e)
    go false is e =
        let q : ◌≡◌ {A = ℕ × ℕ} (cs x, cs y) p = some_one e in
        record { x = x; y = y; x_below = xb; y_below = yb; same = same; two = eqb-false (cs x) (cs y) is; first = sym (ap (λ (z : ℕ × ℕ). z.0) q); second = sym (ap (λ (z : ℕ × ℕ). z.1) q) }

two_none : (cs : ℕ → ℕ) (x y : ℕ) → two_classes cs x y ≡ None → cs x ≡ cs y
two_none cs x y e = go (eqb (cs x) (cs y)) refl e
  where
    go : (t : Bool) → eqb (cs x) (cs y) ≡ t → ◌≡◌ {A = Option (ℕ × ℕ)} (if t then None else Some (cs x, cs y)) None → cs x ≡ cs y
    go true is e = eqb-true (cs x) (cs y) is
    go false is e = absurd (none_some (sym e))

value_open : (facts : List Fact) (next : ℕ) (cs : ℕ → ℕ) → ((a : ℕ) → SameClass facts a (cs a)) → (a f m b g n : ℕ) (p : ℕ × ℕ) → Has facts (Value a f m) → Has facts (Value b g n) → m < next → n < next → made_one cs (Value a f m) (Value b g n) ≡ Some p → IsOpen facts next cs p
value_open facts next cs kept a f m b g n p ha hb mb nb e = go (eqb f g && eqb (cs a) (cs b)) refl e
  where
    go : (t : Bool) → (eqb f g && eqb (cs a) (cs b)) ≡ t → (if t then two_classes cs m n else None) ≡ Some p → IsOpen facts next cs p
    go false is e = absurd (none_some e)
    go true is e =
        let both = and_parts (eqb f g) (eqb (cs a) (cs b)) is in
        let one = same_from facts cs kept a b (eqb-true (cs a) (cs b) both.1) in
        let hf : Has facts (Value b f n) = subst (λ z. Has facts (Value b z n)) (sym (eqb-true f g both.0)) hb in
        two_some facts next cs m n p mb nb (alike f a b m n ha hf one) e

open_found : (h : Hierarchy) (facts : List Fact) (next : ℕ) (cs : ℕ → ℕ) → Fits h facts next → ((a : ℕ) → SameClass facts a (cs a)) → (x y : Fact) (p : ℕ × ℕ) → Has facts x → Has facts y → made_one cs x y ≡ Some p → IsOpen facts next cs p
open_found h facts next cs fits kept (Same a b) y p hx hy e =
    let w = fits (Same a b) hx in
    two_some facts next cs a b p w.0 w.1 (told a b hx) e
open_found h facts next cs fits kept (Value a f m) (Value b g n) p hx hy e =
    value_open facts next cs kept a f m b g n p hx hy (fits (Value a f m) hx).2 (fits (Value b g n) hy).2 e
open_found h facts next cs fits kept (Value a f m) (OfType n t) p hx hy e = absurd (none_some e)
open_found h facts next cs fits kept (Value a f m) (Same c d) p hx hy e = absurd (none_some e)
open_found h facts next cs fits kept (Value a f m) (Differ c d) p hx hy e = absurd (none_some e)
open_found h facts next cs fits kept (OfType n t) y p hx hy e = absurd (none_some e)
open_found h facts next cs fits kept (Differ a b) y p hx hy e = absurd (none_some e)

-- of two nodes of one class, the higher and the lower one
ordered : (facts : List Fact) (u v : ℕ) → SameClass facts u v → SameClass facts (max u v) (min u v)
ordered facts u v s = go (grind arith)
  where
    go : (u ≤ v) ⊎ (v ≤ u) → SameClass facts (max u v) (min u v)
    go (inl l) =
        let a : v ≡ max u v = omega arith in
        let b : u ≡ min u v = omega arith in
        subst₂ (λ x y. SameClass facts x y) a b (turned u v s)
    go (inr l) =
        let a : u ≡ max u v = omega arith in
        let b : v ≡ min u v = omega arith in
        subst₂ (λ x y. SameClass facts x y) a b s

-- what a merge makes of a class number
pub merged_at : (p : ℕ × ℕ) (cs : ℕ → ℕ) (a : ℕ) → ((cs a ≡ max p.0 p.1) × (merged p cs a ≡ min p.0 p.1)) ⊎ ((cs a ≡ max p.0 p.1 → ⊥) × (merged p cs a ≡ cs a))
merged_at p cs a = go (eqb (cs a) (max p.0 p.1)) refl
  where
    go : (t : Bool) → eqb (cs a) (max p.0 p.1) ≡ t → ((cs a ≡ max p.0 p.1) × ((if t then min p.0 p.1 else cs a) ≡ min p.0 p.1)) ⊎ ((cs a ≡ max p.0 p.1 → ⊥) × ((if t then min p.0 p.1 else cs a) ≡ cs a))
    go true is = inl (eqb-true (cs a) (max p.0 p.1) is, refl)
    go false is = inr (eqb-false (cs a) (max p.0 p.1) is, refl)

pub merged_le : (p : ℕ × ℕ) (cs : ℕ → ℕ) (a : ℕ) → merged p cs a ≤ cs a
merged_le p cs a = go (merged_at p cs a)
  where
    go : ((cs a ≡ max p.0 p.1) × (merged p cs a ≡ min p.0 p.1)) ⊎ ((cs a ≡ max p.0 p.1 → ⊥) × (merged p cs a ≡ cs a)) → merged p cs a ≤ cs a
    go (inl q) = let e = q.0 in let d = q.1 in omega arith
    go (inr q) = let d = q.1 in omega arith

-- a merge of two class numbers of nodes below next lowers the sum
pub merged_less : (p : ℕ × ℕ) (cs : ℕ → ℕ) (next a : ℕ) → a < next → cs a ≡ max p.0 p.1 → min p.0 p.1 < max p.0 p.1 → class_sum next (merged p cs) < class_sum next cs
merged_less p cs next a lt e two =
    let less : merged p cs a + 1 ≤ cs a = go (merged_at p cs a) in
    let drop = sum_drop (merged p cs) cs (upto next) a 1 (λ x h. merged_le p cs x) (has_upto next a lt) less in
    omega arith
  where
    go : ((cs a ≡ max p.0 p.1) × (merged p cs a ≡ min p.0 p.1)) ⊎ ((cs a ≡ max p.0 p.1 → ⊥) × (merged p cs a ≡ cs a)) → merged p cs a + 1 ≤ cs a
    go (inl q) = let d = q.1 in omega arith
    go (inr q) = absurd (q.0 e)

-- merging two classes that must be one keeps the invariant
pub open_kept : (facts : List Fact) (next : ℕ) (cs : ℕ → ℕ) (p : ℕ × ℕ) → IsJoining facts next cs → IsOpen facts next cs p → IsJoining facts next (merged p cs)
open_kept facts next cs p k o = record { kept = λ a. kept a (merged_at p cs a); least = λ a. (let m = merged_le p cs a in let l = k.least a in omega arith); outside = λ a le. outside a le (merged_at p cs a) }
  where
    pair : SameClass facts p.0 p.1
    pair =
        subst₂ (λ x y. SameClass facts x y) (sym o.first) (sym o.second)
        (joined (cs o.x) o.x (cs o.y) (turned o.x (cs o.x) (k.kept o.x)) (joined o.x o.y (cs o.y) o.same (k.kept o.y)))

    kept : (a : ℕ) → ((cs a ≡ max p.0 p.1) × (merged p cs a ≡ min p.0 p.1)) ⊎ ((cs a ≡ max p.0 p.1 → ⊥) × (merged p cs a ≡ cs a)) → SameClass facts a (merged p cs a)
    kept a (inl q) =
        subst (λ z. SameClass facts a z) (sym q.1)
        (joined a (max p.0 p.1) (min p.0 p.1) (subst (λ z. SameClass facts a z) q.0 (k.kept a)) (ordered facts p.0 p.1 pair))
    kept a (inr q) = subst (λ z. SameClass facts a z) (sym q.1) (k.kept a)

    outside : (a : ℕ) → next ≤ a → ((cs a ≡ max p.0 p.1) × (merged p cs a ≡ min p.0 p.1)) ⊎ ((cs a ≡ max p.0 p.1 → ⊥) × (merged p cs a ≡ cs a)) → merged p cs a ≡ a
    outside a le (inl q) =
        let own = k.outside a le in
        let one = o.first in
        let other = o.second in
        let lx = k.least o.x in
        let ly = k.least o.y in
        let bx = o.x_below in
        let by = o.y_below in
        let hi = q.0 in
        absurd (omega arith)
    outside a le (inr q) = q.1 ∙ k.outside a le

pub open_less : (facts : List Fact) (next : ℕ) (cs : ℕ → ℕ) (p : ℕ × ℕ) → IsOpen facts next cs p → class_sum next (merged p cs) < class_sum next cs
open_less facts next cs p o = go (grind arith)
  where
    two : p.0 ≡ p.1 → ⊥
    two q = o.two (sym o.first ∙ q ∙ o.second)

    go : (p.0 < p.1) ⊎ (p.1 < p.0) ⊎ (p.0 ≡ p.1) → class_sum next (merged p cs) < class_sum next cs
    go (inl l) = let s = o.second in merged_less p cs next o.y o.y_below (omega arith) (omega arith)
    go (inr (inl l)) = let s = o.first in merged_less p cs next o.x o.x_below (omega arith) (omega arith)
    go (inr (inr q)) = absurd (two q)

module _ (h : Hierarchy) (facts : List Fact) (next : ℕ) (fits : Fits h facts next) where
  merge_found : (cs : ℕ → ℕ) (p : ℕ × ℕ) → IsJoining facts next cs → open_classes facts cs ≡ Some p → IsOpen facts next cs p
  merge_found cs p k e =
      let r = pair_found (made_one cs) facts facts p e in
      open_found h facts next cs fits k.kept r.x r.y p r.in_xs r.in_ys r.gives

  obeys_none : (cs : ℕ → ℕ) → open_classes facts cs ≡ None → ObeysSame facts cs
  obeys_none cs e = record {
    sames = λ a b k. two_none cs a b (pair_none (made_one cs) facts facts (Same a b) (Same a b) e k k);
    values = λ f a b x y k l r. two_none cs x y (value f a b x y r (pair_none (made_one cs) facts facts (Value a f x) (Value b f y) e k l));
  }
    where
      value : (f a b x y : ℕ) → cs a ≡ cs b → made_one cs (Value a f x) (Value b f y) ≡ None → two_classes cs x y ≡ None
      value f a b x y r e =
          let t : (eqb f f && eqb (cs a) (cs b)) ≡ true = and_from (eqb f f) (eqb (cs a) (cs b)) (eq-eqb f f refl) (eq-eqb (cs a) (cs b) r) in
          subst (λ z. (if z then two_classes cs x y else None) ≡ None) t e

  pub classes_are : IsClasses facts next (classes facts next)
  unfolding classes
  classes_are =
      let s = settled (open_classes facts) merged (class_sum next) (IsJoining facts next) (record { less = λ cs p k e. open_less facts next cs p (merge_found cs p k e); kept = λ cs p k e. open_kept facts next cs p k (merge_found cs p k e) }) (class_sum next (λ a. a)) (λ a. a) (record { kept = λ a. itself a; least = λ a. le_refl a; outside = λ a le. refl }) (le_refl (class_sum next (λ a. a))) in
      record {
        kept = s.kept.kept;
        least = s.kept.least;
        one = obeys_one facts (classes facts next) (obeys_none (classes facts next) s.none);
        outside = s.kept.outside;
      }

-- the classes of the facts are determined by them
pub one_classes : (facts : List Fact) (next : ℕ) (cs ds : ℕ → ℕ) → IsClasses facts next cs → IsClasses facts next ds → (a : ℕ) → cs a ≡ ds a
one_classes facts next cs ds c d a =
    let up : cs (ds a) ≡ cs a = sym (c.one a (ds a) (d.kept a)) in
    let down : ds (cs a) ≡ ds a = sym (d.one a (cs a) (c.kept a)) in
    let l = c.least (ds a) in
    let m = d.least (cs a) in
    omega arith
