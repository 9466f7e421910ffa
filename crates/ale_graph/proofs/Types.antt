-- The types of the first step are the least ones that obey the facts: the type of a class is the most
-- specific one that its nodes must be at least; and where there are none, two types without a join are asked.
use Rattle.std.proofs.Common.{◌≡◌, ℕ, ◌+◌, ◌<◌, ◌≤◌, Bool, true, false, List, ◌⊎◌, inl, inr, refl, sym, ◌∙◌, subst, subst₂, le_refl, arith, Option, Some, None, if◌then◌else◌}
use Rattle.std.proofs.lemmas.Bool.{eq-eqb, ne_eqb}
use Rattle.ale_declared.specs.Lists.{Has, upto}
use Rattle.ale_hierarchy.specs.Hierarchy.{Hierarchy, Above, IsLawful}
use Rattle.ale_graph.specs.declared.fact.Fact.{Fact}
use Rattle.ale_graph.specs.declared.fact.Fact.TheVariants.{OfType, Value, Same, Differ}
use Rattle.ale_graph.specs.Facts.{Fits}
use Rattle.ale_graph.specs.Least.{SameClass, MustBe, Clashes}
use Rattle.ale_graph.specs.Least.MustBe.{bottom, declared, introduced, restricted, carried, general, both}
pub use Rattle.ale_graph.specs.Keeping.{IsTypes}
use Rattle.ale_graph.specs.Settled.{or_else}
use Rattle.ale_graph.specs.Types.{set_at, too_low, too_low_by, asked, open_types, raised_by, raised, types_left, least_types}
use Rattle.ale_graph.proofs.Lists.{some_one, none_some, has_upto, sum_drop}
use Rattle.ale_graph.proofs.Settled.{IsSettled, settled, some_found, some_none}
use Rattle.ale_graph.proofs.Classes.{IsClasses, class_below}

pub set_here : (c v : ℕ) (f : ℕ → ℕ) (k : ℕ) → k ≡ c → set_at c v f k ≡ v
set_here c v f k e = subst (λ t. (if t then v else f k) ≡ v) (sym (eq-eqb k c e)) refl

pub set_else : (c v : ℕ) (f : ℕ → ℕ) (k : ℕ) → (k ≡ c → ⊥) → set_at c v f k ≡ f k
set_else c v f k e = subst (λ t. (if t then v else f k) ≡ f k) (sym (ne_eqb k c e)) refl

-- types of classes that obey the facts
pub record ObeysTypes (h : Hierarchy) (facts : List Fact) (cs ty : ℕ → ℕ) : Type 0 where
  pub told : (a t : ℕ) → Has facts (OfType a t) → Above h t (ty (cs a))
  pub intros : (a f x : ℕ) → Has facts (Value a f x) → Above h (h.intro f) (ty (cs a))
  pub restricts : (a f x r : ℕ) → Has facts (Value a f x) → h.approp f (ty (cs a)) ≡ Some r → Above h r (ty (cs x))
  pub inside : (c : ℕ) → ty c < h.types

pub obeys_bound : (h : Hierarchy) (facts : List Fact) (cs ty : ℕ → ℕ) → IsLawful h → ((a b : ℕ) → SameClass facts a b → cs a ≡ cs b) → ObeysTypes h facts cs ty → (a t : ℕ) → MustBe h facts a t → Above h t (ty (cs a))
obeys_bound h facts cs ty law one o a t (bottom _) = law.bottom (ty (cs a)) (o.inside (cs a))
obeys_bound h facts cs ty law one o a t (declared _ _ p) = o.told a t p
obeys_bound h facts cs ty law one o a t (introduced _ f x p) = o.intros a f x p
obeys_bound h facts cs ty law one o x r (restricted a f _ t _ p m e) =
    let up = obeys_bound h facts cs ty law one o a t m in
    let q = law.approp_along f t (ty (cs a)) r (o.inside (cs a)) up e in
    law.along r q.0 (ty (cs x)) q.2 (o.restricts a f x q.0 p q.1)
obeys_bound h facts cs ty law one o b t (carried a _ _ k m) =
    subst (λ z. Above h t (ty z)) (one a b k) (obeys_bound h facts cs ty law one o a t m)
obeys_bound h facts cs ty law one o a t (general _ _ u up m) = law.along t u (ty (cs a)) up (obeys_bound h facts cs ty law one o a u m)
obeys_bound h facts cs ty law one o a v (both _ t u _ m n e) =
    law.join_least t u v (ty (cs a)) e (o.inside (cs a)) (obeys_bound h facts cs ty law one o a t m) (obeys_bound h facts cs ty law one o a u n)

-- the loop's invariant
pub record IsRaising (h : Hierarchy) (facts : List Fact) (ty : ℕ → ℕ) : Type 0 where
  pub forced : (c : ℕ) → MustBe h facts c (ty c)
  pub inside : (c : ℕ) → ty c < h.types

KeepTypes : Hierarchy → List Fact → Option (ℕ → ℕ) → Type 0
KeepTypes h facts None = Clashes h facts
KeepTypes h facts (Some ty) = IsRaising h facts ty

-- a class below next must be at least a type that its own isn't
pub record IsLow (h : Hierarchy) (facts : List Fact) (next : ℕ) (ty : ℕ → ℕ) (p : ℕ × ℕ) : Type 0 where
  pub below : p.0 < next
  pub must : MustBe h facts p.0 p.1
  pub low : Above h p.1 (ty p.0) → ⊥

-- raising the type keeps the invariant
pub low_kept : (h : Hierarchy) (facts : List Fact) (next : ℕ) (ty : ℕ → ℕ) (p : ℕ × ℕ) → IsLawful h → IsRaising h facts ty → IsLow h facts next ty p → (v : ℕ) → h.join (ty p.0) p.1 ≡ Some v → IsRaising h facts (set_at p.0 v ty)
low_kept h facts next ty p law k l v j = record { forced = λ c. forced c (grind arith); inside = λ c. inside c (grind arith) }
  where
    forced : (c : ℕ) → (c ≡ p.0) ⊎ (c ≡ p.0 → ⊥) → MustBe h facts c (set_at p.0 v ty c)
    forced c (inl q) =
        subst (λ z. MustBe h facts c z) (sym (set_here p.0 v ty c q))
        (subst (λ z. MustBe h facts z v) (sym q) (both p.0 (ty p.0) p.1 v (k.forced p.0) l.must j))
    forced c (inr n) = subst (λ z. MustBe h facts c z) (sym (set_else p.0 v ty c n)) (k.forced c)

    inside : (c : ℕ) → (c ≡ p.0) ⊎ (c ≡ p.0 → ⊥) → set_at p.0 v ty c < h.types
    inside c (inl q) = subst (λ z. z < h.types) (sym (set_here p.0 v ty c q)) (law.join_inside (ty p.0) p.1 v j)
    inside c (inr n) = subst (λ z. z < h.types) (sym (set_else p.0 v ty c n)) (k.inside c)

pub low_less : (h : Hierarchy) (facts : List Fact) (next : ℕ) (ty : ℕ → ℕ) (p : ℕ × ℕ) → IsLawful h → IsLow h facts next ty p → (v : ℕ) → h.join (ty p.0) p.1 ≡ Some v → types_left h next (Some (set_at p.0 v ty)) < types_left h next (Some ty)
low_less h facts next ty p law l v j =
    let here = set_here p.0 v ty p.0 refl in
    let higher = rank_falls in
    let at : h.rank (set_at p.0 v ty p.0) + 1 ≤ h.rank (ty p.0) = subst (λ z. h.rank z + 1 ≤ h.rank (ty p.0)) (sym here) (omega arith) in
    let drop = sum_drop (λ c. h.rank (set_at p.0 v ty c)) (λ c. h.rank (ty c)) (upto next) p.0 1 (λ c m. le c (grind arith)) (has_upto next p.0 l.below) at in
    omega arith
  where
    rank_falls : h.rank v < h.rank (ty p.0)
    rank_falls = law.rank_less (ty p.0) v (law.join_left (ty p.0) p.1 v j) (λ q. l.low (subst (λ z. Above h p.1 z) (sym q) (law.join_right (ty p.0) p.1 v j)))

    le : (c : ℕ) → (c ≡ p.0) ⊎ (c ≡ p.0 → ⊥) → h.rank (set_at p.0 v ty c) ≤ h.rank (ty c)
    le c (inl q) =
        let higher = rank_falls in
        subst₂ (λ x y. h.rank x ≤ h.rank (ty y)) (sym (set_here p.0 v ty c q)) (sym q) (omega arith)
    le c (inr n) = subst (λ x. h.rank x ≤ h.rank (ty c)) (sym (set_else p.0 v ty c n)) (le_refl (h.rank (ty c)))

low_some : (h : Hierarchy) (facts : List Fact) (next : ℕ) (ty : ℕ → ℕ) (c t : ℕ) (p : ℕ × ℕ) → c < next → MustBe h facts c t → too_low h ty c t ≡ Some p → IsLow h facts next ty p
low_some h facts next ty c t p lt must e = go (h.is_above t (ty c)) refl e
  where
    go : (b : Bool) → h.is_above t (ty c) ≡ b → (if b then None else Some (c, t)) ≡ Some p → IsLow h facts next ty p
    go true is e = absurd (none_some e)
    go false is e = subst (λ z. IsLow h facts next ty z) (some_one e) (record { below = lt; must = must; low = λ u. (let x : true ≡ false = sym u ∙ is in absurd cc) })

low_none : (h : Hierarchy) (ty : ℕ → ℕ) (c t : ℕ) → too_low h ty c t ≡ None → Above h t (ty c)
low_none h ty c t e = go (h.is_above t (ty c)) refl e
  where
    go : (b : Bool) → h.is_above t (ty c) ≡ b → ◌≡◌ {A = Option (ℕ × ℕ)} (if b then None else Some (c, t)) None → Above h t (ty c)
    go true is e = is
    go false is e = absurd (none_some (sym e))

module _ (h : Hierarchy) (facts : List Fact) (next : ℕ) (cs : ℕ → ℕ) (law : IsLawful h) (fits : Fits h facts next) (is : IsClasses facts next cs) where
  -- what a class must be, from a node of it, and back
  at_class : (a t : ℕ) → MustBe h facts a t → MustBe h facts (cs a) t
  at_class a t m = carried a (cs a) t (is.kept a) m

  at_node : (a t : ℕ) → MustBe h facts (cs a) t → MustBe h facts a t
  at_node a t m = carried (cs a) a t (SameClass.turned a (cs a) (is.kept a)) m

  asked_some : (ty : ℕ → ℕ) → IsRaising h facts ty → (x : Fact) (p : ℕ × ℕ) → Has facts x → asked h cs ty x ≡ Some p → IsLow h facts next ty p
  asked_some ty k (OfType n t) p hx e =
      low_some h facts next ty (cs n) t p (class_below facts next cs is n (fits (OfType n t) hx).0) (at_class n t (declared n t hx)) e
  asked_some ty k (Same a b) p hx e = absurd (none_some e)
  asked_some ty k (Differ a b) p hx e = absurd (none_some e)
  asked_some ty k (Value n f m) p hx e = go (too_low h ty (cs n) (h.intro f)) refl e
    where
      by : (o : Option ℕ) → h.approp f (ty (cs n)) ≡ o → too_low_by h ty (cs m) o ≡ Some p → IsLow h facts next ty p
      by None a e = absurd (none_some e)
      by (Some r) a e =
          low_some h facts next ty (cs m) r p (class_below facts next cs is m (fits (Value n f m) hx).2) (at_class m r (restricted n f m (ty (cs n)) r hx (at_node n (ty (cs n)) (k.forced (cs n))) a)) e

      go : (o : Option (ℕ × ℕ)) → too_low h ty (cs n) (h.intro f) ≡ o → or_else o (too_low_by h ty (cs m) (h.approp f (ty (cs n)))) ≡ Some p → IsLow h facts next ty p
      go None a e = by (h.approp f (ty (cs n))) refl e
      go (Some q) a e =
          low_some h facts next ty (cs n) (h.intro f) p (class_below facts next cs is n (fits (Value n f m) hx).0) (at_class n (h.intro f) (introduced n f m hx)) (a ∙ e)

  raise_found : (ty : ℕ → ℕ) (p : ℕ × ℕ) → IsRaising h facts ty → open_types h facts cs (Some ty) ≡ Some p → IsLow h facts next ty p
  raise_found ty p k e = let r = some_found (asked h cs ty) facts p e in asked_some ty k r.0 p r.1 r.2

  raise_kept : (s : Option (ℕ → ℕ)) (p : ℕ × ℕ) → KeepTypes h facts s → open_types h facts cs s ≡ Some p → KeepTypes h facts (raised h p s)
  unfolding KeepTypes
  raise_kept None p k e = absurd (none_some e)
  raise_kept (Some ty) p k e = go (h.join (ty p.0) p.1) refl
    where
      l : IsLow h facts next ty p
      l = raise_found ty p k e

      go : (o : Option ℕ) → h.join (ty p.0) p.1 ≡ o → KeepTypes h facts (raised_by p.0 ty o)
      go None j = record { node = p.0; one = ty p.0; other = p.1; must_one = k.forced p.0; must_other = l.must; missing = j }
      go (Some v) j = low_kept h facts next ty p law k l v j

  raise_less : (s : Option (ℕ → ℕ)) (p : ℕ × ℕ) → KeepTypes h facts s → open_types h facts cs s ≡ Some p → types_left h next (raised h p s) < types_left h next s
  unfolding KeepTypes
  raise_less None p k e = absurd (none_some e)
  raise_less (Some ty) p k e = go (h.join (ty p.0) p.1) refl
    where
      l : IsLow h facts next ty p
      l = raise_found ty p k e

      go : (o : Option ℕ) → h.join (ty p.0) p.1 ≡ o → types_left h next (raised_by p.0 ty o) < types_left h next (Some ty)
      go None j = omega arith
      go (Some v) j = low_less h facts next ty p law l v j

  pub obeys_types : (ty : ℕ → ℕ) → IsRaising h facts ty → open_types h facts cs (Some ty) ≡ None → ObeysTypes h facts cs ty
  obeys_types ty k e = record {
    told = λ a t p. low_none h ty (cs a) t (some_none (asked h cs ty) facts (OfType a t) e p);
    intros = λ a f x p. low_none h ty (cs a) (h.intro f) (or_first (too_low h ty (cs a) (h.intro f)) _ (some_none (asked h cs ty) facts (Value a f x) e p));
    restricts = λ a f x r p q. low_none h ty (cs x) r (subst (λ o. too_low_by h ty (cs x) o ≡ None) q (or_second (too_low h ty (cs a) (h.intro f)) _ (some_none (asked h cs ty) facts (Value a f x) e p)));
    inside = k.inside;
  }
    where
      or_first : (o q : Option (ℕ × ℕ)) → or_else o q ≡ None → o ≡ None
      or_first None q e = refl
      or_first (Some a) q e = e

      or_second : (o q : Option (ℕ × ℕ)) → or_else o q ≡ None → q ≡ None
      or_second None q e = e
      or_second (Some a) q e = absurd (none_some (sym e))

  KeptTypes : Option (ℕ → ℕ) → Type 0
  KeptTypes None = Clashes h facts
  KeptTypes (Some ty) = IsTypes h facts cs ty

  settled_types : (s : Option (ℕ → ℕ)) → IsSettled (open_types h facts cs) (KeepTypes h facts) s → KeptTypes s
  unfolding KeepTypes KeptTypes
  settled_types None k = k.kept
  settled_types (Some ty) k = record {
    forced = λ a. at_node a (ty (cs a)) (k.kept.forced (cs a));
    bound = obeys_bound h facts cs ty law is.one (obeys_types ty k.kept k.none);
    inside = k.kept.inside;
  }

  least_are : KeptTypes (least_types h facts next cs)
  unfolding KeepTypes least_types
  least_are =
      settled_types (least_types h facts next cs)
      (settled (open_types h facts cs) (raised h) (types_left h next) (KeepTypes h facts) (record { less = λ s p k e. raise_less s p k e; kept = λ s p k e. raise_kept s p k e }) (types_left h next (Some (λ c. 0))) (Some (λ c. 0)) (record { forced = λ c. bottom c; inside = λ c. law.some_type }) (le_refl (types_left h next (Some (λ c. 0)))))

  -- the least types, where no join is missing
  pub types_are : (ty : ℕ → ℕ) → least_types h facts next cs ≡ Some ty → IsTypes h facts cs ty
  unfolding KeptTypes
  types_are ty e = subst KeptTypes e least_are

  pub types_none : least_types h facts next cs ≡ None → Clashes h facts
  unfolding KeptTypes
  types_none e = subst KeptTypes e least_are
