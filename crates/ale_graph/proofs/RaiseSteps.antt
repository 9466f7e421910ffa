-- Raising types pass by pass: each raise is forced, and when a pass changes nothing the types are the least ones.
use Rattle.std.proofs.Common.{◌≡◌, ℕ, zero, suc, ◌<◌, ◌≤◌, Bool, true, false, List, [], ◌∷◌, length, set, replicate, ◌⊎◌, inl, inr, refl, sym, ap, ◌∙◌, subst, le_refl, arith, Option, Some, None, if◌then◌else◌}
use Rattle.std.proofs.lemmas.List.{length-set, length-replicate, set_past}
use Rattle.ale_declared.specs.Lists.{Has}
use Rattle.ale_hierarchy.specs.Hierarchy.{Hierarchy, Above, IsLawful}
use Rattle.ale_graph.specs.declared.fact.Fact.{Fact}
use Rattle.ale_graph.specs.declared.fact.Fact.TheVariants.{OfType, Value, Same, Differ}
use Rattle.ale_graph.specs.Facts.{Fits}
use Rattle.ale_graph.specs.Least.{SameClass, MustBe, Clashes}
use Rattle.ale_graph.specs.Least.MustBe.{bottom, declared, introduced, restricted, carried}
use Rattle.ale_graph.specs.Settled.{or_else}
use Rattle.ale_graph.specs.Types.{set_at, too_low, too_low_by, asked, open_types, raised_by, raised, types_left, least_types}
use Rattle.ale_graph.specs.Drafts.{type_in}
use Rattle.ale_graph.specs.Raising.{Raising, raise_to, raise, restrict, raise_value, raise_fact, raise_facts, AllInside}
use Rattle.ale_graph.proofs.Lists.{some_one, none_some}
use Rattle.ale_graph.proofs.Least.{Within}
use Rattle.ale_graph.proofs.Settled.{some_found, settle_keeps, all_none}
use Rattle.ale_graph.proofs.Classes.{IsClasses, own_class, class_below}
use Rattle.ale_graph.proofs.Types.{IsTypes, IsRaising, IsLow, low_kept, low_less, obeys_types, obeys_bound, set_here, set_else, types_are, types_none}
use Rattle.ale_graph.proofs.FirstStep.{above_both, no_clash}
use Rattle.ale_graph.proofs.Vectors.{type_set}
use Rattle.ale_graph.proofs.Entries.{same_or_not}

pub inside_set : (h : Hierarchy) (types : List ℕ) (c v : ℕ) → AllInside h types → v < h.types → AllInside h (set types c v)
inside_set h types c v all lt k = go (grind arith)
  where
    go : (c < length types) ⊎ (length types ≤ c) → type_in (set types c v) k < h.types
    go (inr le) = subst (λ (z : List ℕ). type_in z k < h.types) (sym (set_past types c v le)) (all k)
    go (inl l) = pick (same_or_not k c)
      where
        at : type_in (set types c v) k ≡ set_at c v (type_in types) k
        at = ap (λ (z : ℕ → ℕ). z k) (type_set types c v l)

        pick : (k ≡ c) ⊎ (k ≡ c → ⊥) → type_in (set types c v) k < h.types
        pick (inl e) = subst (λ z. z < h.types) (sym (at ∙ set_here c v (type_in types) k e)) lt
        pick (inr n) = subst (λ z. z < h.types) (sym (at ∙ set_else c v (type_in types) k n)) (all k)

-- the invariant of a pass
pub record IsLifting (h : Hierarchy) (facts : List Fact) (next : ℕ) (cs : ℕ → ℕ) (r : Raising) : Type 0 where
  pub raising : IsRaising h facts (type_in r.types)
  pub rest : (c : ℕ) → (cs c ≡ c → ⊥) → type_in r.types c ≡ 0
  pub types_length : length r.types ≡ next

pub record IsLifted (h : Hierarchy) (facts : List Fact) (next : ℕ) (cs : ℕ → ℕ) (r k : Raising) (rule : Type 0) : Type 0 where
  pub kept : IsLifting h facts next cs k
  pub le : types_left h next (Some (type_in k.types)) ≤ types_left h next (Some (type_in r.types))
  pub less : r.changed ≡ false → k.changed ≡ true → types_left h next (Some (type_in k.types)) < types_left h next (Some (type_in r.types))
  pub quiet : k.changed ≡ false → (k ≡ r) × rule

-- what a step of a pass gives
abbrev pub Lifts : Hierarchy → List Fact → ℕ → (ℕ → ℕ) → Raising → Type 0 → Option Raising → Type 0
Lifts h facts next cs r rule None = Clashes h facts
Lifts h facts next cs r rule (Some k) = IsLifted h facts next cs r k rule

lifted_along : (h : Hierarchy) (facts : List Fact) (next : ℕ) (cs : ℕ → ℕ) (r k l : Raising) (rule rule' both : Type 0) → (k ≡ r → rule → rule' → both) → IsLifted h facts next cs r k rule → IsLifted h facts next cs k l rule' → IsLifted h facts next cs r l both
lifted_along h facts next cs r k l rule rule' both and p q = record {
  kept = q.kept;
  le = (let a = p.le in let b = q.le in omega arith);
  less = λ u v. less u v k.changed refl;
  quiet = λ u. (let b = q.quiet u in let a = p.quiet (ap (λ (z : Raising). z.changed) (sym b.0) ∙ u) in (b.0 ∙ a.0, and a.0 a.1 b.1));
}
  where
    less : r.changed ≡ false → l.changed ≡ true → (t : Bool) → k.changed ≡ t → types_left h next (Some (type_in l.types)) < types_left h next (Some (type_in r.types))
    less u v true e = let a = p.less u e in let b = q.le in omega arith
    less u v false e = let a = p.le in let b = q.less e v in omega arith

lifted_same : (h : Hierarchy) (facts : List Fact) (next : ℕ) (cs : ℕ → ℕ) (r : Raising) (rule : Type 0) → IsLifting h facts next cs r → rule → IsLifted h facts next cs r r rule
lifted_same h facts next cs r rule k holds = record {
  kept = k;
  le = le_refl (types_left h next (Some (type_in r.types)));
  less = λ u v. (let bad : true ≡ false = sym v ∙ u in absurd cc);
  quiet = λ u. (refl, holds);
}

low_if : (h : Hierarchy) (ty : ℕ → ℕ) (c t : ℕ) → Above h t (ty c) → too_low h ty c t ≡ None
low_if h ty c t e = subst (λ z. ◌≡◌ {A = Option (ℕ × ℕ)} (if z then None else Some (c, t)) None) (sym e) refl

module _ (h : Hierarchy) (facts : List Fact) (next : ℕ) (cs : ℕ → ℕ) (law : IsLawful h) (fits : Fits h facts next) (is : IsClasses facts next cs) where
  own : (a : ℕ) → cs (cs a) ≡ cs a
  own = own_class facts next cs is

  raise_lifts : (r : Raising) (c t : ℕ) → IsLifting h facts next cs r → c < next → cs c ≡ c → MustBe h facts c t → Lifts h facts next cs r (too_low h (type_in r.types) c t ≡ None) (raise h c t r)
  raise_lifts r c t k lt self must = go (h.is_above t (type_in r.types c)) refl
    where
      to : (o : Option ℕ) → h.join (type_in r.types c) t ≡ o → (Above h t (type_in r.types c) → ⊥) → Lifts h facts next cs r (too_low h (type_in r.types) c t ≡ None) (raise_to c o r)
      to None j low = record { node = c; one = type_in r.types c; other = t; must_one = k.raising.forced c; must_other = must; missing = j }
      to (Some v) j low =
          let in_list : c < length r.types = (let len = k.types_length in omega arith) in
          let l : IsLow h facts next (type_in r.types) (c, t) = record { below = lt; must = must; low = low } in
          let less = subst (λ (z : ℕ → ℕ). types_left h next (Some z) < types_left h next (Some (type_in r.types))) (sym (at in_list)) (low_less h facts next (type_in r.types) (c, t) law l v j) in
          record {
            kept = record {
              raising = subst (λ (z : ℕ → ℕ). IsRaising h facts z) (sym (at in_list)) (low_kept h facts next (type_in r.types) (c, t) law k.raising l v j);
              rest = λ d n. ap (λ (z : ℕ → ℕ). z d) (at in_list) ∙ set_else c v (type_in r.types) d (λ e. n (ap cs e ∙ self ∙ sym e)) ∙ k.rest d n;
              types_length = length-set r.types c v ∙ k.types_length;
            };
            le = omega arith;
            less = λ u w. less;
            quiet = λ u. absurd (let bad : true ≡ false = u in absurd cc);
          }
        where
          at : c < length r.types → type_in (set r.types c v) ≡ set_at c v (type_in r.types)
          at l = type_set r.types c v l

      go : (b : Bool) → h.is_above t (type_in r.types c) ≡ b → Lifts h facts next cs r (too_low h (type_in r.types) c t ≡ None) (if b then Some r else raise_to c (h.join (type_in r.types c) t) r)
      go true e = lifted_same h facts next cs r (too_low h (type_in r.types) c t ≡ None) k (low_if h (type_in r.types) c t e)
      go false e = to (h.join (type_in r.types c) t) refl (λ u. (let bad : true ≡ false = sym u ∙ e in absurd cc))

  restrict_lifts : (r : Raising) (c : ℕ) (o : Option ℕ) → IsLifting h facts next cs r → c < next → cs c ≡ c → ((t : ℕ) → o ≡ Some t → MustBe h facts c t) → Lifts h facts next cs r (too_low_by h (type_in r.types) c o ≡ None) (restrict h c o r)
  restrict_lifts r c None k lt self must = lifted_same h facts next cs r (None ≡ None) k refl
  restrict_lifts r c (Some t) k lt self must = raise_lifts r c t k lt self (must t refl)

  at_class : (a t : ℕ) → MustBe h facts a t → MustBe h facts (cs a) t
  at_class a t m = carried a (cs a) t (is.kept a) m

  at_node : (a t : ℕ) → MustBe h facts (cs a) t → MustBe h facts a t
  at_node a t m = carried (cs a) a t (SameClass.turned a (cs a) (is.kept a)) m

  value_lifts : (r : Raising) (n f m : ℕ) → IsLifting h facts next cs r → Has facts (Value n f m) → (o : Option Raising) → Lifts h facts next cs r (too_low h (type_in r.types) (cs n) (h.intro f) ≡ None) o → Lifts h facts next cs r (asked h cs (type_in r.types) (Value n f m) ≡ None) (raise_value h (cs n) f (cs m) o)
  value_lifts r n f m k hx None l = l
  value_lifts r n f m k hx (Some q) l = go (restrict h (cs m) (h.approp f (type_in q.types (cs n))) q) rest
    where
      rest : Lifts h facts next cs q (too_low_by h (type_in q.types) (cs m) (h.approp f (type_in q.types (cs n))) ≡ None) (restrict h (cs m) (h.approp f (type_in q.types (cs n))) q)
      rest =
          restrict_lifts q (cs m) (h.approp f (type_in q.types (cs n))) l.kept (class_below facts next cs is m (fits (Value n f m) hx).2) (own m)
          (λ t e. at_class m t (restricted n f m (type_in q.types (cs n)) t hx (at_node n (type_in q.types (cs n)) (l.kept.raising.forced (cs n))) e))

      both : q ≡ r → too_low h (type_in r.types) (cs n) (h.intro f) ≡ None → too_low_by h (type_in q.types) (cs m) (h.approp f (type_in q.types (cs n))) ≡ None → asked h cs (type_in r.types) (Value n f m) ≡ None
      both e a b =
          subst (λ o. or_else o (too_low_by h (type_in r.types) (cs m) (h.approp f (type_in r.types (cs n)))) ≡ None) (sym a)
          (subst (λ (z : Raising). too_low_by h (type_in z.types) (cs m) (h.approp f (type_in z.types (cs n))) ≡ None) e b)

      go : (p : Option Raising) → Lifts h facts next cs q (too_low_by h (type_in q.types) (cs m) (h.approp f (type_in q.types (cs n))) ≡ None) p → Lifts h facts next cs r (asked h cs (type_in r.types) (Value n f m) ≡ None) p
      go None x = x
      go (Some p) x = lifted_along h facts next cs r q p _ _ _ both l x

  fact_lifts : (r : Raising) (x : Fact) → IsLifting h facts next cs r → Has facts x → Lifts h facts next cs r (asked h cs (type_in r.types) x ≡ None) (raise_fact h cs x r)
  fact_lifts r (OfType n t) k hx = raise_lifts r (cs n) t k (class_below facts next cs is n (fits (OfType n t) hx).0) (own n) (at_class n t (declared n t hx))
  fact_lifts r (Value n f m) k hx =
      value_lifts r n f m k hx (raise h (cs n) (h.intro f) r)
      (raise_lifts r (cs n) (h.intro f) k (class_below facts next cs is n (fits (Value n f m) hx).0) (own n) (at_class n (h.intro f) (introduced n f m hx)))
  fact_lifts r (Same a b) k hx = lifted_same h facts next cs r (None ≡ None) k refl
  fact_lifts r (Differ a b) k hx = lifted_same h facts next cs r (None ≡ None) k refl

  pub facts_lift : (xs : List Fact) (r : Raising) → Within xs facts → IsLifting h facts next cs r → Lifts h facts next cs r ((x : Fact) → Has xs x → asked h cs (type_in r.types) x ≡ None) (raise_facts h cs xs r)
  facts_lift [] r w k = lifted_same h facts next cs r _ k (λ x p. absurd p)
  facts_lift (x ∷ xs) r w k = go (λ q. facts_lift xs q (λ y p. w y (inr p))) (raise_fact h cs x r) (fact_lifts r x k (w x (inl refl)))
    where
      all : (q : Raising) → q ≡ r → asked h cs (type_in r.types) x ≡ None → ((y : Fact) → Has xs y → asked h cs (type_in q.types) y ≡ None) → (y : Fact) → Has (x ∷ xs) y → asked h cs (type_in r.types) y ≡ None
      all q e a b y (inl p) = ap (asked h cs (type_in r.types)) p ∙ a
      all q e a b y (inr p) = subst (λ (z : Raising). asked h cs (type_in z.types) y ≡ None) e (b y p)

      after : (q : Raising) (o : Option Raising) → IsLifted h facts next cs r q (asked h cs (type_in r.types) x ≡ None) → Lifts h facts next cs q ((y : Fact) → Has xs y → asked h cs (type_in q.types) y ≡ None) o → Lifts h facts next cs r ((y : Fact) → Has (x ∷ xs) y → asked h cs (type_in r.types) y ≡ None) o
      after q None a b = b
      after q (Some p) a b = lifted_along h facts next cs r q p _ _ _ (all q) a b

      go : ((q : Raising) → IsLifting h facts next cs q → Lifts h facts next cs q ((y : Fact) → Has xs y → asked h cs (type_in q.types) y ≡ None) (raise_facts h cs xs q)) → (o : Option Raising) → Lifts h facts next cs r (asked h cs (type_in r.types) x ≡ None) o → Lifts h facts next cs r ((y : Fact) → Has (x ∷ xs) y → asked h cs (type_in r.types) y ≡ None) (elim o [ None ↦ None | Some q ↦ raise_facts h cs xs q ])
      go ih None l = l
      go ih (Some q) l = after q (raise_facts h cs xs q) l (ih q l.kept)

  -- classes that are not their own keep the most general type
  RestZero : Option (ℕ → ℕ) → Type 0
  RestZero None = Unit {0}
  RestZero (Some ty) = (c : ℕ) → (cs c ≡ c → ⊥) → ty c ≡ 0

  low_class : (ty : ℕ → ℕ) (c t : ℕ) (p : ℕ × ℕ) → too_low h ty c t ≡ Some p → p.0 ≡ c
  low_class ty c t p e = go (h.is_above t (ty c)) e
    where
      go : (b : Bool) → ◌≡◌ {A = Option (ℕ × ℕ)} (if b then None else Some (c, t)) (Some p) → p.0 ≡ c
      go true e = absurd (none_some e)
      go false e = sym (ap (λ (z : ℕ × ℕ). z.0) (some_one e))

  asked_class : (ty : ℕ → ℕ) (x : Fact) (p : ℕ × ℕ) → asked h cs ty x ≡ Some p → (n : ℕ) × (p.0 ≡ cs n)
  asked_class ty (OfType n t) p e = (n, low_class ty (cs n) t p e)
  asked_class ty (Same a b) p e = absurd (none_some e)
  asked_class ty (Differ a b) p e = absurd (none_some e)
  asked_class ty (Value n f m) p e = go (too_low h ty (cs n) (h.intro f)) refl e
    where
      by : (o : Option ℕ) → too_low_by h ty (cs m) o ≡ Some p → (n : ℕ) × (p.0 ≡ cs n)
      by None e = absurd (none_some e)
      by (Some r) e = (m, low_class ty (cs m) r p e)

      go : (o : Option (ℕ × ℕ)) → too_low h ty (cs n) (h.intro f) ≡ o → or_else o (too_low_by h ty (cs m) (h.approp f (ty (cs n)))) ≡ Some p → (n : ℕ) × (p.0 ≡ cs n)
      go None a e = by (h.approp f (ty (cs n))) e
      go (Some q) a e = (n, low_class ty (cs n) (h.intro f) p (a ∙ e))

  rest_kept : (s : Option (ℕ → ℕ)) (p : ℕ × ℕ) → RestZero s → open_types h facts cs s ≡ Some p → RestZero (raised h p s)
  unfolding RestZero
  rest_kept None p k e = absurd (none_some e)
  rest_kept (Some ty) p k e = go (h.join (ty p.0) p.1)
    where
      found : (n : ℕ) × (p.0 ≡ cs n)
      found = let r = some_found (asked h cs ty) facts p e in asked_class ty r.0 p r.2

      self : cs p.0 ≡ p.0
      self = ap cs found.1 ∙ own found.0 ∙ sym found.1

      go : (o : Option ℕ) → RestZero (raised_by p.0 ty o)
      go None = tt
      go (Some v) = λ c n. set_else p.0 v ty c (λ e. n (ap cs e ∙ self ∙ sym e)) ∙ k c n

  rest_zero : RestZero (least_types h facts next cs)
  unfolding RestZero least_types
  rest_zero = settle_keeps (open_types h facts cs) (raised h) RestZero (λ s p k e. rest_kept s p k e) (types_left h next (Some (λ c. 0))) (Some (λ c. 0)) (λ c n. refl)

  -- types that nothing asks to raise are the least ones
  pub lifted_types : (r : Raising) → IsLifting h facts next cs r → ((x : Fact) → Has facts x → asked h cs (type_in r.types) x ≡ None) → IsTypes h facts cs (type_in r.types)
  lifted_types r k all = record {
    forced = λ a. at_node a (type_in r.types (cs a)) (k.raising.forced (cs a));
    bound = obeys_bound h facts cs (type_in r.types) law is.one (obeys_types h facts next cs law fits is (type_in r.types) k.raising (all_none (asked h cs (type_in r.types)) facts all));
    inside = k.raising.inside;
  }

  pub types_found : (ty : ℕ → ℕ) → IsTypes h facts cs ty → ((c : ℕ) → (cs c ≡ c → ⊥) → ty c ≡ 0) → least_types h facts next cs ≡ Some ty
  unfolding RestZero
  types_found ty t rest = go (least_types h facts next cs) refl rest_zero
    where
      go : (o : Option (ℕ → ℕ)) → least_types h facts next cs ≡ o → RestZero o → least_types h facts next cs ≡ Some ty
      go None e z = absurd (no_clash h facts cs ty law t (types_none h facts next cs law fits is e))
      go (Some u) e z = e ∙ ap (λ (w : ℕ → ℕ). Some w) (λ i. λ c. at c (same_or_not (cs c) c) i)
        where
          other : IsTypes h facts cs u
          other = types_are h facts next cs law fits is u e

          at : (c : ℕ) → (cs c ≡ c) ⊎ (cs c ≡ c → ⊥) → u c ≡ ty c
          at c (inr n) = z c n ∙ sym (rest c n)
          at c (inl self) =
              above_both h law (u c) (ty c)
              (subst (λ w. Above h (u w) (ty w)) self (t.bound c (u (cs c)) (other.forced c)))
              (subst (λ w. Above h (ty w) (u w)) self (other.bound c (ty (cs c)) (t.forced c)))

  pub types_missing : Clashes h facts → least_types h facts next cs ≡ None
  types_missing c = go (least_types h facts next cs) refl
    where
      go : (o : Option (ℕ → ℕ)) → least_types h facts next cs ≡ o → least_types h facts next cs ≡ None
      go None e = e
      go (Some u) e = absurd (no_clash h facts cs u law (types_are h facts next cs law fits is u e) c)

  no_types : (n c : ℕ) → type_in (replicate n 0) c ≡ 0
  no_types zero c = refl
  no_types (suc n) zero = refl
  no_types (suc n) (suc c) = no_types n c

  pub lifting_starts : IsLifting h facts next cs (record { types = replicate next 0; changed = false })
  lifting_starts = record {
    raising = record { forced = λ c. subst (λ z. MustBe h facts c z) (sym (no_types next c)) (bottom c); inside = λ c. subst (λ z. z < h.types) (sym (no_types next c)) law.some_type };
    rest = λ c n. no_types next c;
    types_length = length-replicate next 0;
  }

  -- a pass, as the code makes it
  pub pass_lifts : (types : List ℕ) → IsLifting h facts next cs (record { types = types; changed = false }) → (o : Option Raising) → o ≡ raise_facts h cs facts (record { types = types; changed = false }) → Lifts h facts next cs (record { types = types; changed = false }) ((x : Fact) → Has facts x → asked h cs (type_in types) x ≡ None) o
  pass_lifts types k o e = subst (Lifts h facts next cs (record { types = types; changed = false }) ((x : Fact) → Has facts x → asked h cs (type_in types) x ≡ None)) (sym e) (facts_lift facts (record { types = types; changed = false }) (λ x p. p) k)

  -- a pass that changed nothing
  pub pass_done : (r k : Raising) → IsLifted h facts next cs r k ((x : Fact) → Has facts x → asked h cs (type_in r.types) x ≡ None) → k.changed ≡ false → IsTypes h facts cs (type_in k.types) × (least_types h facts next cs ≡ Some (type_in k.types))
  pass_done r k l u =
      let q = l.quiet u in
      let are = lifted_types k l.kept (λ x p. subst (λ (z : Raising). asked h cs (type_in z.types) x ≡ None) (sym q.0) (q.1 x p)) in
      (are, types_found (type_in k.types) are l.kept.rest)
