-- What a gap is, and that a fill lowers the number of nodes that all gaps will take.
use Rattle.std.proofs.Common.{◌≡◌, ℕ, suc, ◌+◌, ◌<◌, ◌≤◌, Bool, true, false, eqb, [], ◌∷◌, inl, refl, sym, ◌∙◌, subst, subst₂, le_refl, arith, Option, Some, None, if◌then◌else◌}
use Rattle.std.proofs.lemmas.Bool.{eqb-true, eq-eqb}
use Rattle.ale_declared.specs.Lists.{Has, upto, sum_over}
use Rattle.ale_hierarchy.specs.Hierarchy.{Hierarchy, IsLawful, size_at}
use Rattle.ale_graph.specs.declared.fact.Fact.TheVariants.{OfType, Value}
use Rattle.ale_graph.specs.Filling.{Filled, Gap, value_told, class_value, gap_at, gap, first_gap, fill_gap, gap_size, class_debt, debt}
use Rattle.ale_graph.proofs.Lists.{some_one, none_some, has_right, has_upto, below_upto, sum_upto, sum_le, sum_drop}
use Rattle.ale_graph.proofs.Settled.{pair_found, some_longer, some_none}
use Rattle.ale_graph.proofs.Classes.{IsClasses}
use Rattle.ale_graph.proofs.Types.{IsTypes, set_here, set_else}
use Rattle.ale_graph.proofs.Closing.{told_here}

-- a class below next lacks a feature, to whose value the type of the class restricts the fill
pub record IsGap (h : Hierarchy) (st : Filled) (g : Gap) : Type 0 where
  pub below : g.class < st.next
  pub feature_below : g.feature < h.features
  pub own : st.class g.class ≡ g.class
  pub restricts : h.approp g.feature (st.types g.class) ≡ Some g.fill
  pub lacks : class_value st.class st.facts g.class g.feature ≡ None

gap_is : (h : Hierarchy) (st : Filled) (c f : ℕ) (g : Gap) → c < st.next → f < h.features → gap h st c f ≡ Some g → IsGap h st g
gap_is h st c f g cb fb e = go (eqb (st.class c) c) refl e
  where
    at : (a v : Option ℕ) → h.approp f (st.types c) ≡ a → class_value st.class st.facts c f ≡ v → eqb (st.class c) c ≡ true → gap_at c f a v ≡ Some g → IsGap h st g
    at None v ae ve is e = absurd (none_some e)
    at (Some r) (Some m) ae ve is e = absurd (none_some e)
    at (Some r) None ae ve is e = subst (λ z. IsGap h st z) (some_one e) (record { below = cb; feature_below = fb; own = eqb-true (st.class c) c is; restricts = ae; lacks = ve })

    go : (t : Bool) → eqb (st.class c) c ≡ t → (if t then gap_at c f (h.approp f (st.types c)) (class_value st.class st.facts c f) else None) ≡ Some g → IsGap h st g
    go false is e = absurd (none_some e)
    go true is e = at (h.approp f (st.types c)) (class_value st.class st.facts c f) refl refl is e

pub gap_found : (h : Hierarchy) (st : Filled) (g : Gap) → first_gap h st ≡ Some g → IsGap h st g
gap_found h st g e =
    let r = pair_found (gap h st) (upto st.next) (upto h.features) g e in
    gap_is h st r.x r.y g (below_upto st.next r.x r.in_xs) (below_upto h.features r.y r.in_ys) r.gives

-- a gap takes no more than what its restriction does
gap_at_most : (h : Hierarchy) (c f : ℕ) (a v : Option ℕ) → gap_size h (gap_at c f a v) ≤ size_at h a
gap_at_most h c f None v = omega arith
gap_at_most h c f (Some r) (Some m) = omega arith
gap_at_most h c f (Some r) None = le_refl (h.size r)

gap_most : (h : Hierarchy) (st : Filled) (c f : ℕ) → gap_size h (gap h st c f) ≤ size_at h (h.approp f (st.types c))
gap_most h st c f = go (eqb (st.class c) c)
  where
    go : (t : Bool) → gap_size h (if t then gap_at c f (h.approp f (st.types c)) (class_value st.class st.facts c f) else None) ≤ size_at h (h.approp f (st.types c))
    go true = gap_at_most h c f (h.approp f (st.types c)) (class_value st.class st.facts c f)
    go false = omega arith

-- with more values there is no larger gap
gap_at_less : (h : Hierarchy) (c f : ℕ) (a v w : Option ℕ) → ((m : ℕ) → v ≡ Some m → w ≡ Some m) → gap_size h (gap_at c f a w) ≤ gap_size h (gap_at c f a v)
gap_at_less h c f None v w more = omega arith
gap_at_less h c f (Some r) None w more = gap_at_most h c f (Some r) w
gap_at_less h c f (Some r) (Some m) None more = absurd (none_some (more m refl))
gap_at_less h c f (Some r) (Some m) (Some n) more = omega arith

module _ (h : Hierarchy) (law : IsLawful h) (st : Filled) (cs : IsClasses st.facts st.next st.class) (ty : IsTypes h st.facts st.class st.types) (g : Gap) (is : IsGap h st g) where
  old_types : (c : ℕ) → c < st.next → (fill_gap g st).types c ≡ st.types c
  old_types c lt = set_else st.next g.fill st.types c (λ e. absurd (omega arith))

  old_gap : (c f : ℕ) → c < st.next → gap_size h (gap h (fill_gap g st) c f) ≤ gap_size h (gap h st c f)
  old_gap c f lt = go (eqb (st.class c) c)
    where
      go : (t : Bool) → gap_size h (if t then gap_at c f (h.approp f ((fill_gap g st).types c)) (class_value st.class (fill_gap g st).facts c f) else None) ≤ gap_size h (if t then gap_at c f (h.approp f (st.types c)) (class_value st.class st.facts c f) else None)
      go true =
          subst (λ z. gap_size h (gap_at c f (h.approp f z) (class_value st.class (fill_gap g st).facts c f)) ≤ gap_size h (gap_at c f (h.approp f (st.types c)) (class_value st.class st.facts c f))) (sym (old_types c lt))
          (gap_at_less h c f (h.approp f (st.types c)) (class_value st.class st.facts c f) (class_value st.class (fill_gap g st).facts c f)
          (λ m e. some_longer (value_told st.class c f) st.facts (Value g.class g.feature st.next ∷ OfType st.next g.fill ∷ []) m e))
      go false = omega arith

  -- the gap that was filled is gone
  gone : gap_size h (gap h (fill_gap g st) g.class g.feature) + h.size g.fill ≤ gap_size h (gap h st g.class g.feature)
  gone =
      let t : eqb (st.class g.class) g.class ≡ true = eq-eqb (st.class g.class) g.class is.own in
      let before : gap_size h (gap h st g.class g.feature) ≡ h.size g.fill =
      subst (λ z. gap_size h (if z then gap_at g.class g.feature (h.approp g.feature (st.types g.class)) (class_value st.class st.facts g.class g.feature) else None) ≡ h.size g.fill) (sym t)
      (subst₂ (λ a v. gap_size h (gap_at g.class g.feature a v) ≡ h.size g.fill) (sym is.restricts) (sym is.lacks) refl) in
      let after : gap_size h (gap h (fill_gap g st) g.class g.feature) ≡ 0 = filled (class_value st.class (fill_gap g st).facts g.class g.feature) refl (eqb (st.class g.class) g.class) in
      omega arith
    where
      told : Has (fill_gap g st).facts (Value g.class g.feature st.next)
      told = has_right st.facts (Value g.class g.feature st.next ∷ OfType st.next g.fill ∷ []) (Value g.class g.feature st.next) (inl refl)

      some_zero : (a : Option ℕ) (m : ℕ) → gap_size h (gap_at g.class g.feature a (Some m)) ≡ 0
      some_zero None m = refl
      some_zero (Some r) m = refl

      filled : (v : Option ℕ) → class_value st.class (fill_gap g st).facts g.class g.feature ≡ v → (t : Bool) → gap_size h (if t then gap_at g.class g.feature (h.approp g.feature ((fill_gap g st).types g.class)) v else None) ≡ 0
      filled None e t = absurd (none_some (sym (some_none (value_told st.class g.class g.feature) (fill_gap g st).facts (Value g.class g.feature st.next) e told) ∙ told_here st.class g.class g.feature g.class st.next is.own))
      filled (Some m) e true = some_zero (h.approp g.feature ((fill_gap g st).types g.class)) m
      filled (Some m) e false = refl

  -- the new node lacks no more than what its size counts besides itself
  new_debt : suc (class_debt h (fill_gap g st) st.next) ≤ h.size g.fill
  new_debt =
      let here : (fill_gap g st).types st.next ≡ g.fill = set_here st.next g.fill st.types st.next refl in
      let most = sum_le (λ f. gap_size h (gap h (fill_gap g st) st.next f)) (λ f. size_at h (h.approp f g.fill)) (upto h.features) (λ f _. subst (λ z. gap_size h (gap h (fill_gap g st) st.next f) ≤ size_at h (h.approp f z)) here (gap_most h (fill_gap g st) st.next f)) in
      let size = law.size_is g.fill (law.approp_inside g.feature (st.types g.class) g.fill is.restricts).1 in
      omega arith

  pub fill_less : debt h (fill_gap g st) < debt h st
  fill_less =
      let one : class_debt h (fill_gap g st) g.class + h.size g.fill ≤ class_debt h st g.class =
      sum_drop (λ f. gap_size h (gap h (fill_gap g st) g.class f)) (λ f. gap_size h (gap h st g.class f)) (upto h.features) g.feature (h.size g.fill) (λ f _. old_gap g.class f is.below) (has_upto h.features g.feature is.feature_below) gone in
      let all : sum_over (class_debt h (fill_gap g st)) (upto st.next) + h.size g.fill ≤ sum_over (class_debt h st) (upto st.next) =
      sum_drop (class_debt h (fill_gap g st)) (class_debt h st) (upto st.next) g.class (h.size g.fill) (λ c p. rest c (below_upto st.next c p)) (has_upto st.next g.class is.below) one in
      let last : debt h (fill_gap g st) ≡ sum_over (class_debt h (fill_gap g st)) (upto st.next) + class_debt h (fill_gap g st) st.next = sum_upto (class_debt h (fill_gap g st)) st.next in
      let new = new_debt in
      omega arith
    where
      rest : (c : ℕ) → c < st.next → class_debt h (fill_gap g st) c ≤ class_debt h st c
      rest c lt = sum_le (λ f. gap_size h (gap h (fill_gap g st) c f)) (λ f. gap_size h (gap h st c f)) (upto h.features) (λ f _. old_gap c f lt)
