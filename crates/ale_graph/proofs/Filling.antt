-- A fill keeps the invariant, and filling ends with no class that lacks a feature.
use Rattle.std.proofs.Common.{◌≡◌, ℕ, suc, ◌<◌, true, eqb, List, [], ◌∷◌, ◌++◌, append_assoc, ◌⊎◌, inl, inr, refl, sym, ap, ◌∙◌, subst, subst₂, le_refl, arith, Option, Some, None, if◌then◌else◌}
use Rattle.std.proofs.lemmas.Bool.{eq-eqb}
use Rattle.ale_declared.specs.Lists.{Has, upto}
use Rattle.ale_hierarchy.specs.Hierarchy.{Hierarchy, Above, IsLawful}
use Rattle.ale_graph.specs.declared.fact.Fact.{Fact}
use Rattle.ale_graph.specs.declared.fact.Fact.TheVariants.{OfType, Value, Same}
use Rattle.ale_graph.specs.Structures.{Structure, IsStructure, count, type_of, value_of}
use Rattle.ale_graph.specs.Facts.{HoldsFact, Fulfils, FitsFact, Fits}
use Rattle.ale_graph.specs.Least.{SameClass, MustBe}
use Rattle.ale_graph.specs.Settled.{settle}
use Rattle.ale_graph.specs.Types.{set_at}
use Rattle.ale_graph.specs.Filling.{Filled, Gap, class_value, gap_at, gap, first_gap, fill_gap, debt, fill}
use Rattle.ale_graph.specs.Universal.{Agree, HasExtension}
pub use Rattle.ale_graph.specs.Keeping.{IsFull}
use Rattle.ale_graph.proofs.Lists.{some_one, none_some, has_left, has_right, has_either, has_upto}
use Rattle.ale_graph.proofs.Least.{Within, same_more, must_more, must_holds, type_inside}
use Rattle.ale_graph.proofs.Settled.{settled, pair_none}
use Rattle.ale_graph.proofs.Classes.{IsClasses, ObeysSame, obeys_one, same_from, class_below}
use Rattle.ale_graph.proofs.Types.{IsTypes, ObeysTypes, obeys_bound, set_here, set_else}
use Rattle.ale_graph.proofs.Structures.{value_inside}
use Rattle.ale_graph.proofs.Closing.{IsClosing, holds_agree, fits_more, value_there}
use Rattle.ale_graph.proofs.Debt.{IsGap, gap_found, fill_less}

-- the two facts of a fill come last
pub filled_facts : Filled → Gap → List Fact
filled_facts st g = st.facts ++ Value g.class g.feature st.next ∷ OfType st.next g.fill ∷ []

module _ (h : Hierarchy) (given : List Fact) (before : ℕ) (law : IsLawful h) (st : Filled) (k : IsClosing h given before st) (g : Gap) (is : IsGap h st g) where
  within : Within st.facts (fill_gap g st).facts
  within x p = has_left st.facts (Value g.class g.feature st.next ∷ OfType st.next g.fill ∷ []) x p

  -- each fact of the longer list is an old one, or one of the two
  newer : (x : Fact) → Has (fill_gap g st).facts x → Has st.facts x ⊎ (x ≡ Value g.class g.feature st.next) ⊎ (x ≡ OfType st.next g.fill)
  newer x p = go (has_either st.facts (Value g.class g.feature st.next ∷ OfType st.next g.fill ∷ []) x p)
    where
      go : Has st.facts x ⊎ Has (Value g.class g.feature st.next ∷ OfType st.next g.fill ∷ []) x → Has st.facts x ⊎ (x ≡ Value g.class g.feature st.next) ⊎ (x ≡ OfType st.next g.fill)
      go (inl q) = inl q
      go (inr (inl e)) = inr (inl e)
      go (inr (inr (inl e))) = inr (inr e)
      go (inr (inr (inr q))) = absurd q

  -- a Value of the longer list
  newer_value : (n f m : ℕ) → Has (fill_gap g st).facts (Value n f m) → Has st.facts (Value n f m) ⊎ ((n ≡ g.class) × (f ≡ g.feature) × (m ≡ st.next))
  newer_value n f m p = go (newer (Value n f m) p)
    where
      go : Has st.facts (Value n f m) ⊎ (Value n f m ≡ Value g.class g.feature st.next) ⊎ (Value n f m ≡ OfType st.next g.fill) → Has st.facts (Value n f m) ⊎ ((n ≡ g.class) × (f ≡ g.feature) × (m ≡ st.next))
      go (inl q) = inl q
      go (inr (inl e)) = inr (cc, cc, cc)
      go (inr (inr e)) = absurd cc

  newer_same : (a b : ℕ) → Has (fill_gap g st).facts (Same a b) → Has st.facts (Same a b)
  newer_same a b p = go (newer (Same a b) p)
    where
      go : Has st.facts (Same a b) ⊎ (Same a b ≡ Value g.class g.feature st.next) ⊎ (Same a b ≡ OfType st.next g.fill) → Has st.facts (Same a b)
      go (inl q) = q
      go (inr (inl e)) = absurd cc
      go (inr (inr e)) = absurd cc

  newer_type : (n t : ℕ) → Has (fill_gap g st).facts (OfType n t) → Has st.facts (OfType n t) ⊎ ((n ≡ st.next) × (t ≡ g.fill))
  newer_type n t p = go (newer (OfType n t) p)
    where
      go : Has st.facts (OfType n t) ⊎ (OfType n t ≡ Value g.class g.feature st.next) ⊎ (OfType n t ≡ OfType st.next g.fill) → Has st.facts (OfType n t) ⊎ ((n ≡ st.next) × (t ≡ g.fill))
      go (inl q) = inl q
      go (inr (inl e)) = absurd cc
      go (inr (inr e)) = inr (cc, cc)

  told_value : Has (fill_gap g st).facts (Value g.class g.feature st.next)
  told_value = has_right st.facts (Value g.class g.feature st.next ∷ OfType st.next g.fill ∷ []) (Value g.class g.feature st.next) (inl refl)

  told_type : Has (fill_gap g st).facts (OfType st.next g.fill)
  told_type = has_right st.facts (Value g.class g.feature st.next ∷ OfType st.next g.fill ∷ []) (OfType st.next g.fill) (inr (inl refl))

  lacked : (n m : ℕ) → Has st.facts (Value n g.feature m) → st.class n ≡ st.class g.class → ⊥
  lacked n m p e = none_some (sym is.lacks ∙ value_there st.facts st.next st.class k.classes g.class g.feature n m p (e ∙ is.own))

  fill_obeys : ObeysSame (fill_gap g st).facts st.class
  fill_obeys = record { sames = λ a b p. k.classes.one a b (SameClass.told a b (newer_same a b p)); values = λ f a b x y p q e. values f a b x y e (newer_value a f x p) (newer_value b f y q) }
    where
      values : (f a b x y : ℕ) → st.class a ≡ st.class b → Has st.facts (Value a f x) ⊎ ((a ≡ g.class) × (f ≡ g.feature) × (x ≡ st.next)) → Has st.facts (Value b f y) ⊎ ((b ≡ g.class) × (f ≡ g.feature) × (y ≡ st.next)) → st.class x ≡ st.class y
      values f a b x y e (inl p) (inl q) = k.classes.one x y (SameClass.alike f a b x y p q (same_from st.facts st.class k.classes.kept a b e))
      values f a b x y e (inl p) (inr q) = absurd (lacked a x (subst (λ z. Has st.facts (Value a z x)) q.1 p) (e ∙ ap st.class q.0))
      values f a b x y e (inr p) (inl q) = absurd (lacked b y (subst (λ z. Has st.facts (Value b z y)) p.1 q) (sym e ∙ ap st.class p.0))
      values f a b x y e (inr p) (inr q) = ap st.class (p.2 ∙ sym q.2)

  fill_classes : IsClasses (fill_gap g st).facts (suc st.next) st.class
  fill_classes = record {
    kept = λ a. same_more st.facts (fill_gap g st).facts within a (st.class a) (k.classes.kept a);
    least = k.classes.least;
    one = obeys_one (fill_gap g st).facts st.class fill_obeys;
    outside = λ a le. k.classes.outside a (omega arith);
  }

  -- the class of an old node is not the new node
  old_class : (a : ℕ) → a < st.next → st.class a ≡ st.next → ⊥
  old_class a lt e = let c = class_below st.facts st.next st.class k.classes a lt in absurd (omega arith)

  old_type : (a : ℕ) → a < st.next → (fill_gap g st).types (st.class a) ≡ st.types (st.class a)
  old_type a lt = set_else st.next g.fill st.types (st.class a) (old_class a lt)

  own_new : st.class st.next ≡ st.next
  own_new = k.classes.outside st.next (le_refl st.next)

  new_type : (fill_gap g st).types (st.class st.next) ≡ g.fill
  new_type = set_here st.next g.fill st.types (st.class st.next) own_new

  fill_inside : (c : ℕ) → (fill_gap g st).types c < h.types
  fill_inside c = go (grind arith)
    where
      go : (c ≡ st.next) ⊎ (c ≡ st.next → ⊥) → (fill_gap g st).types c < h.types
      go (inl e) = subst (λ z. z < h.types) (sym (set_here st.next g.fill st.types c e)) (law.approp_inside g.feature (st.types g.class) g.fill is.restricts).1
      go (inr n) = subst (λ z. z < h.types) (sym (set_else st.next g.fill st.types c n)) (k.types.inside c)

  gap_type : (fill_gap g st).types (st.class g.class) ≡ st.types g.class
  gap_type = old_type g.class is.below ∙ ap st.types is.own

  fill_types_obey : ObeysTypes h (fill_gap g st).facts st.class (fill_gap g st).types
  fill_types_obey = record {
    told = λ a t p. told a t (newer_type a t p);
    intros = λ a f x p. intros a f x (newer_value a f x p);
    restricts = λ a f x r p e. restricts a f x r e (newer_value a f x p);
    inside = fill_inside;
  }
    where
      told : (a t : ℕ) → Has st.facts (OfType a t) ⊎ ((a ≡ st.next) × (t ≡ g.fill)) → Above h t ((fill_gap g st).types (st.class a))
      told a t (inl p) = subst (λ z. Above h t z) (sym (old_type a (k.fits (OfType a t) p).0)) (k.types.bound a t (MustBe.declared a t p))
      told a t (inr q) = subst (λ z. Above h t z) (q.1 ∙ sym new_type') (law.along_self t)
        where
          new_type' : (fill_gap g st).types (st.class a) ≡ g.fill
          new_type' = ap (λ z. (fill_gap g st).types (st.class z)) q.0 ∙ new_type

      intros : (a f x : ℕ) → Has st.facts (Value a f x) ⊎ ((a ≡ g.class) × (f ≡ g.feature) × (x ≡ st.next)) → Above h (h.intro f) ((fill_gap g st).types (st.class a))
      intros a f x (inl p) = subst (λ z. Above h (h.intro f) z) (sym (old_type a (k.fits (Value a f x) p).0)) (k.types.bound a (h.intro f) (MustBe.introduced a f x p))
      intros a f x (inr q) =
          let up : Above h (h.intro g.feature) (st.types g.class) = law.approp_intro g.feature (st.types g.class) g.fill is.restricts in
          let ty : (fill_gap g st).types (st.class a) ≡ st.types g.class = ap (λ z. (fill_gap g st).types (st.class z)) q.0 ∙ gap_type in
          subst₂ (λ y z. Above h (h.intro y) z) (sym q.1) (sym ty) up

      restricts : (a f x r : ℕ) → h.approp f ((fill_gap g st).types (st.class a)) ≡ Some r → Has st.facts (Value a f x) ⊎ ((a ≡ g.class) × (f ≡ g.feature) × (x ≡ st.next)) → Above h r ((fill_gap g st).types (st.class x))
      restricts a f x r e (inl p) =
          let fit = k.fits (Value a f x) p in
          let e' : h.approp f (st.types (st.class a)) ≡ Some r = sym (ap (λ z. h.approp f z) (old_type a fit.0)) ∙ e in
          subst (λ z. Above h r z) (sym (old_type x fit.2)) (k.types.bound x r (MustBe.restricted a f x (st.types (st.class a)) r p (k.types.forced a) e'))
      restricts a f x r e (inr q) =
          let ty : (fill_gap g st).types (st.class a) ≡ st.types g.class = ap (λ z. (fill_gap g st).types (st.class z)) q.0 ∙ gap_type in
          let here : Some r ≡ Some g.fill = sym e ∙ ap (λ z. h.approp f z) ty ∙ ap (λ z. h.approp z (st.types g.class)) q.1 ∙ is.restricts in
          let at : (fill_gap g st).types (st.class x) ≡ r = ap (λ z. (fill_gap g st).types (st.class z)) q.2 ∙ new_type ∙ sym (some_one here) in
          subst (λ z. Above h r z) (sym at) (law.along_self r)

  fill_types : IsTypes h (fill_gap g st).facts st.class (fill_gap g st).types
  fill_types = record {
    forced = λ a. forced a (grind arith);
    bound = obeys_bound h (fill_gap g st).facts st.class (fill_gap g st).types law fill_classes.one fill_types_obey;
    inside = fill_inside;
  }
    where
      forced : (a : ℕ) → (st.class a ≡ st.next) ⊎ (st.class a ≡ st.next → ⊥) → MustBe h (fill_gap g st).facts a ((fill_gap g st).types (st.class a))
      forced a (inr n) = subst (λ z. MustBe h (fill_gap g st).facts a z) (sym (set_else st.next g.fill st.types (st.class a) n)) (must_more h st.facts (fill_gap g st).facts within a (st.types (st.class a)) (k.types.forced a))
      forced a (inl e) =
          subst (λ z. MustBe h (fill_gap g st).facts a z) (sym (set_here st.next g.fill st.types (st.class a) e))
          (MustBe.carried (st.class a) a g.fill (SameClass.turned a (st.class a) (fill_classes.kept a))
          (subst (λ z. MustBe h (fill_gap g st).facts z g.fill) (sym e) (MustBe.declared st.next g.fill told_type)))

  fill_fits : Fits h (fill_gap g st).facts (suc st.next)
  fill_fits x p = go x (newer x p)
    where
      go : (x : Fact) → Has st.facts x ⊎ (x ≡ Value g.class g.feature st.next) ⊎ (x ≡ OfType st.next g.fill) → FitsFact h (suc st.next) x
      go x (inl q) = fits_more h st.next (suc st.next) (omega arith) x (k.fits x q)
      go x (inr (inl e)) = subst (λ z. FitsFact h (suc st.next) z) (sym e) (let b = is.below in (omega arith, is.feature_below, omega arith))
      go x (inr (inr e)) = subst (λ z. FitsFact h (suc st.next) z) (sym e) (omega arith, (law.approp_inside g.feature (st.types g.class) g.fill is.restricts).1)

  fill_extends : (s : Structure) (at : ℕ → ℕ) → IsStructure h s → Fulfils h s at given before → HasExtension h s at before (fill_gap g st).facts (suc st.next)
  fill_extends s at of ok = record {
    new = new;
    agrees = λ a lt. set_else st.next m e.new a (λ q. (let l = k.longer in absurd (omega arith))) ∙ e.agrees a lt;
    fulfils = record { into = λ a lt. into a lt (grind arith); holds = λ x p. holds x (newer x p) };
    only = only;
  }
    where
      e : HasExtension h s at before st.facts st.next
      e = k.extends s at of ok

      node : ℕ
      node = e.new g.class

      up : Above h (st.types g.class) (type_of s node)
      up = must_holds h s e.new st.facts law of.total e.fulfils.holds g.class (st.types g.class) (subst (λ z. MustBe h st.facts g.class (st.types z)) is.own (k.types.forced g.class))

      restricted : (q : ℕ) × (h.approp g.feature (type_of s node) ≡ Some q) × Above h g.fill q
      restricted = law.approp_along g.feature (st.types g.class) (type_of s node) g.fill (type_inside h s law of.total node) up is.restricts

      there : (m : ℕ) × (value_of s node g.feature ≡ Some m)
      there = of.total.there node g.feature restricted.0 (e.fulfils.into g.class is.below) restricted.1

      m : ℕ
      m = there.0

      typed : Above h g.fill (type_of s m)
      typed =
          let o = of.total.only node g.feature m there.1 in
          let one : o.0 ≡ restricted.0 = some_one (sym o.1 ∙ restricted.1) in
          law.along g.fill restricted.0 (type_of s m) restricted.2 (subst (λ z. Above h z (type_of s m)) one o.2)

      new : ℕ → ℕ
      new = set_at st.next m e.new

      old : Agree st.next e.new new
      old a lt = sym (set_else st.next m e.new a (λ q. absurd (omega arith)))

      here : new st.next ≡ m
      here = set_here st.next m e.new st.next refl

      into : (a : ℕ) → a < suc st.next → (a ≡ st.next) ⊎ (a < st.next) ⊎ (st.next < a) → new a < count s
      into a lt (inl q) = subst (λ z. z < count s) (sym (set_here st.next m e.new a q)) (value_inside s of.formed node g.feature m there.1)
      into a lt (inr (inl l)) = subst (λ z. z < count s) (old a l) (e.fulfils.into a l)
      into a lt (inr (inr l)) = absurd (omega arith)

      holds : (x : Fact) → Has st.facts x ⊎ (x ≡ Value g.class g.feature st.next) ⊎ (x ≡ OfType st.next g.fill) → HoldsFact h s new x
      holds x (inl p) = holds_agree h s st.next e.new new old x (k.fits x p) (e.fulfils.holds x p)
      holds x (inr (inl q)) =
          subst (λ z. HoldsFact h s new z) (sym q)
          (subst₂ (λ y z. value_of s y g.feature ≡ Some z) (old g.class is.below) (sym here) there.1)
      holds x (inr (inr q)) =
          subst (λ z. HoldsFact h s new z) (sym q)
          (subst (λ z. Above h g.fill (type_of s z)) (sym here) typed)

      only : (f : ℕ → ℕ) → Agree before f at → Fulfils h s f (fill_gap g st).facts (suc st.next) → Agree (suc st.next) f new
      only f agree full a lt = go (grind arith)
        where
          olds : Agree st.next f e.new
          olds = e.only f agree (record { into = λ b l. full.into b (omega arith); holds = λ x p. full.holds x (within x p) })

          last : f st.next ≡ m
          last =
              let v : value_of s (f g.class) g.feature ≡ Some (f st.next) = full.holds (Value g.class g.feature st.next) told_value in
              some_one (sym v ∙ ap (λ z. value_of s z g.feature) (olds g.class is.below) ∙ there.1)

          go : (a ≡ st.next) ⊎ (a < st.next) ⊎ (st.next < a) → f a ≡ new a
          go (inl q) = ap f q ∙ last ∙ sym here ∙ ap new (sym q)
          go (inr (inl l)) = olds a l ∙ old a l
          go (inr (inr l)) = absurd (omega arith)

  pub fill_keeps : IsClosing h given before (fill_gap g st)
  fill_keeps = record {
    classes = fill_classes;
    types = fill_types;
    fits = fill_fits;
    longer = (let l = k.longer in omega arith);
    front = (k.front.0 ++ Value g.class g.feature st.next ∷ OfType st.next g.fill ∷ [], ap (λ z. z ++ Value g.class g.feature st.next ∷ OfType st.next g.fill ∷ []) k.front.1 ∙ append_assoc given k.front.0 (Value g.class g.feature st.next ∷ OfType st.next g.fill ∷ []));
    extends = fill_extends;
  }

pub full_none : (h : Hierarchy) (st : Filled) → IsLawful h → first_gap h st ≡ None → IsFull h st
full_none h st law e c f r lt own a =
    let none = pair_none (gap h st) (upto st.next) (upto h.features) c f e (has_upto st.next c lt) (has_upto h.features f (law.approp_inside f (st.types c) r a).0) in
    let t : eqb (st.class c) c ≡ true = eq-eqb (st.class c) c own in
    let none' : gap_at c f (h.approp f (st.types c)) (class_value st.class st.facts c f) ≡ None = subst (λ z. (if z then gap_at c f (h.approp f (st.types c)) (class_value st.class st.facts c f) else None) ≡ None) t none in
    go (class_value st.class st.facts c f) (subst (λ z. gap_at c f z (class_value st.class st.facts c f) ≡ None) a none')
  where
    go : (o : Option ℕ) → gap_at c f (Some r) o ≡ None → (m : ℕ) × (o ≡ Some m)
    go None q = absurd (none_some (sym q))
    go (Some m) q = (m, refl)

pub record IsFilled (h : Hierarchy) (given : List Fact) (before : ℕ) (st : Filled) : Type 0 where
  pub closing : IsClosing h given before st
  pub full : IsFull h st

pub fill_is : (h : Hierarchy) (given : List Fact) (before : ℕ) (st : Filled) → IsLawful h → IsClosing h given before st → IsFilled h given before (fill h st)
unfolding fill
fill_is h given before st law k =
    let s = settled (first_gap h) fill_gap (debt h) (IsClosing h given before) (record {
      less = λ st g k e. fill_less h law st k.classes k.types g (gap_found h st g e);
      kept = λ st g k e. fill_keeps h given before law st k g (gap_found h st g e);
    }) (debt h st) st k (le_refl (debt h st)) in
    record { closing = s.kept; full = full_none h (settle (first_gap h) fill_gap (debt h st) st) law s.none }
