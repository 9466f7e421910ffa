-- A pass that joins: what it puts together must be together, and when it changes nothing every rule holds.
use Rattle.std.proofs.Common.{◌≡◌, ℕ, zero, suc, ◌<◌, ◌≤◌, Bool, true, false, eqb, List, [], ◌∷◌, length, replicate, ◌⊎◌, inl, inr, refl, sym, ap, ◌∙◌, subst, subst₂, le_refl, arith, Option, Some, None, if◌then◌else◌}
use Rattle.std.proofs.lemmas.Bool.{eqb-true, eqb-false}
use Rattle.std.proofs.lemmas.List.{length-map, length-set, length-replicate}
use Rattle.ale_declared.specs.Lists.{Has, upto}
use Rattle.ale_hierarchy.specs.Hierarchy.{Hierarchy}
use Rattle.ale_graph.specs.declared.fact.Fact.{Fact}
use Rattle.ale_graph.specs.declared.fact.Fact.TheVariants.{OfType, Value, Same, Differ}
use Rattle.ale_graph.specs.Structures.{value_in, is_rising}
use Rattle.ale_graph.specs.Facts.{Fits}
use Rattle.ale_graph.specs.Least.{SameClass}
use Rattle.ale_graph.specs.Least.SameClass.{itself, turned, joined, told, alike}
use Rattle.ale_graph.specs.Classes.{merged, class_sum}
use Rattle.ale_graph.specs.Drafts.{class_in, values_in, insert_value}
use Rattle.ale_graph.specs.Keeping.{IsClasses, IsJoined, SpeakBelow}
use Rattle.ale_graph.specs.Joining.{Joining, merge, join_nodes, join_value, join_fact, join_facts}
use Rattle.ale_graph.proofs.Lists.{some_one, none_some}
use Rattle.ale_graph.proofs.Least.{Within}
use Rattle.ale_graph.proofs.Classes.{IsJoining, IsOpen, open_kept, open_less, ObeysSame, obeys_one}
use Rattle.ale_graph.proofs.Vectors.{class_merged, class_upto}
use Rattle.ale_graph.proofs.Tables.{put_new, put_rises, put_from, put_grows}

-- a fact tells a node of the same class that the value by the feature is k
pub record Tells (facts : List Fact) (c f k : ℕ) : Type 0 where
  pub node : ℕ
  pub has : Has facts (Value node f k)
  pub same : SameClass facts node c

-- the invariant of a pass
pub record IsCollecting (facts : List Fact) (next : ℕ) (j : Joining) : Type 0 where
  pub joining : IsJoining facts next (class_in j.class)
  pub class_length : length j.class ≡ next
  pub values_length : length j.values ≡ next
  pub rises : (c : ℕ) → is_rising (values_in j.values c) ≡ true
  pub tells : (c f k : ℕ) → value_in (values_in j.values c) f ≡ Some k → Tells facts c f k

-- a fact's rule holds
abbrev pub Obeyed : Joining → Fact → Type 0
Obeyed j (Same a b) = class_in j.class a ≡ class_in j.class b
Obeyed j (Value n f m) = (k : ℕ) × (value_in (values_in j.values (class_in j.class n)) f ≡ Some k) × (class_in j.class k ≡ class_in j.class m)
Obeyed j (OfType n t) = Unit {0}
Obeyed j (Differ a b) = Unit {0}

-- no classes were put together from j to k
pub record IsQuiet (j k : Joining) : Type 0 where
  pub unchanged : j.changed ≡ false
  pub class : k.class ≡ j.class
  pub grows : (c f m : ℕ) → value_in (values_in j.values c) f ≡ Some m → value_in (values_in k.values c) f ≡ Some m

pub record Falls (next : ℕ) (j k : Joining) : Type 0 where
  pub le : class_sum next (class_in k.class) ≤ class_sum next (class_in j.class)
  pub less : j.changed ≡ false → k.changed ≡ true → class_sum next (class_in k.class) < class_sum next (class_in j.class)

quiet_same : (j k : Joining) → j.changed ≡ false → k ≡ j → IsQuiet j k
quiet_same j k u e = record { unchanged = u; class = ap (λ (z : Joining). z.class) e; grows = λ c f m q. subst (λ (z : Joining). value_in (values_in z.values c) f ≡ Some m) (sym e) q }

falls_same : (next : ℕ) (j k : Joining) → k.class ≡ j.class → k.changed ≡ j.changed → Falls next j k
falls_same next j k e c = record {
  le = subst (λ z. class_sum next (class_in z) ≤ class_sum next (class_in j.class)) (sym e) (le_refl (class_sum next (class_in j.class)));
  less = λ u v. (let bad : true ≡ false = sym v ∙ c ∙ u in absurd cc);
}

pub falls_along : (next : ℕ) (j k l : Joining) → Falls next j k → Falls next k l → Falls next j l
falls_along next j k l f g = record { le = (let a = f.le in let b = g.le in omega arith); less = λ u v. less u v k.changed refl }
  where
    less : j.changed ≡ false → l.changed ≡ true → (t : Bool) → k.changed ≡ t → class_sum next (class_in l.class) < class_sum next (class_in j.class)
    less u v true e = let a = f.less u e in let b = g.le in omega arith
    less u v false e = let a = f.le in let b = g.less e v in omega arith

pub quiet_along : (j k l : Joining) → IsQuiet j k → IsQuiet k l → IsQuiet j l
quiet_along j k l p q = record { unchanged = p.unchanged; class = q.class ∙ p.class; grows = λ c f m e. q.grows c f m (p.grows c f m e) }

pub obeyed_later : (j k : Joining) (x : Fact) → IsQuiet j k → Obeyed j x → Obeyed k x
obeyed_later j k (Same a b) q o = ap (λ z. class_in z a) q.class ∙ o ∙ sym (ap (λ z. class_in z b) q.class)
obeyed_later j k (Value n f m) q o = (
  o.0,
  ap (λ z. value_in (values_in k.values (class_in z n)) f) q.class ∙ q.grows (class_in j.class n) f o.0 o.1,
  ap (λ z. class_in z o.0) q.class ∙ o.2 ∙ sym (ap (λ z. class_in z m) q.class),
)
obeyed_later j k (OfType n t) q o = tt
obeyed_later j k (Differ a b) q o = tt

-- what one step does
pub record IsPass (facts : List Fact) (next : ℕ) (j k : Joining) (rule : Type 0) : Type 0 where
  pub kept : IsCollecting facts next k
  pub falls : Falls next j k
  pub quiet : k.changed ≡ false → IsQuiet j k × rule

module _ (h : Hierarchy) (facts : List Fact) (next : ℕ) (fits : Fits h facts next) where
  nodes_pass : (j : Joining) (a b : ℕ) → IsCollecting facts next j → a < next → b < next → SameClass facts a b → IsPass facts next j (join_nodes a b j) (class_in (join_nodes a b j).class a ≡ class_in (join_nodes a b j).class b)
  nodes_pass j a b k la lb same = go (eqb (class_in j.class a) (class_in j.class b)) refl
    where
      below : (n : ℕ) → n < next → class_in j.class n < length j.class
      below n lt = let le = k.joining.least n in let len = k.class_length in omega arith

      map_is : class_in (merge (class_in j.class a) (class_in j.class b) j.class) ≡ merged (class_in j.class a, class_in j.class b) (class_in j.class)
      map_is = class_merged j.class (class_in j.class a) (class_in j.class b) (below a la) (below b lb)

      open_is : (class_in j.class a ≡ class_in j.class b → ⊥) → IsOpen facts next (class_in j.class) (class_in j.class a, class_in j.class b)
      open_is n = record { x = a; y = b; x_below = la; y_below = lb; same = same; two = n; first = refl; second = refl }

      go : (t : Bool) → eqb (class_in j.class a) (class_in j.class b) ≡ t → IsPass facts next j (if t then j else record { class = merge (class_in j.class a) (class_in j.class b) j.class; values = j.values; changed = true }) (class_in (if t then j else record { class = merge (class_in j.class a) (class_in j.class b) j.class; values = j.values; changed = true }).class a ≡ class_in (if t then j else record { class = merge (class_in j.class a) (class_in j.class b) j.class; values = j.values; changed = true }).class b)
      go true is = record { kept = k; falls = falls_same next j j refl refl; quiet = λ u. (quiet_same j j u refl, eqb-true (class_in j.class a) (class_in j.class b) is) }
      go false is =
          let n = eqb-false (class_in j.class a) (class_in j.class b) is in
          let less = subst (λ (z : ℕ → ℕ). class_sum next z < class_sum next (class_in j.class)) (sym map_is) (open_less facts next (class_in j.class) (class_in j.class a, class_in j.class b) (open_is n)) in
          record {
            kept = record {
              joining = subst (λ (z : ℕ → ℕ). IsJoining facts next z) (sym map_is) (open_kept facts next (class_in j.class) (class_in j.class a, class_in j.class b) k.joining (open_is n));
              class_length = length-map j.class _ ∙ k.class_length;
              values_length = k.values_length;
              rises = k.rises;
              tells = k.tells;
            };
            falls = record { le = omega arith; less = λ u v. less };
            quiet = λ u. absurd (let bad : true ≡ false = u in absurd cc);
          }

  put_pass : (j : Joining) (n f m : ℕ) → IsCollecting facts next j → n < next → Has facts (Value n f m) → value_in (values_in j.values (class_in j.class n)) f ≡ None → IsPass facts next j (join_value (class_in j.class n) f m None j) (Obeyed (join_value (class_in j.class n) f m None j) (Value n f m))
  put_pass j n f m k ln hx none = record {
    kept = record {
      joining = k.joining;
      class_length = k.class_length;
      values_length = length-set j.values (class_in j.class n) (insert_value (values_in j.values (class_in j.class n)) f m) ∙ k.values_length;
      rises = put_rises j.values (class_in j.class n) f m below none k.rises;
      tells = λ d g v e. tells d g v (put_from j.values (class_in j.class n) f m below none d g v e);
    };
    falls = falls_same next j (join_value (class_in j.class n) f m None j) refl refl;
    quiet = λ u. (record { unchanged = u; class = refl; grows = put_grows j.values (class_in j.class n) f m below none }, (m, put_new j.values (class_in j.class n) f m below none, refl));
  }
    where
      below : class_in j.class n < length j.values
      below = let le = k.joining.least n in let len = k.values_length in omega arith

      tells : (d g v : ℕ) → (value_in (values_in j.values d) g ≡ Some v) ⊎ ((d ≡ class_in j.class n) × (g ≡ f) × (v ≡ m)) → Tells facts d g v
      tells d g v (inl e) = k.tells d g v e
      tells d g v (inr q) = record {
        node = n;
        has = subst₂ (λ y z. Has facts (Value n y z)) (sym q.1) (sym q.2) hx;
        same = subst (λ z. SameClass facts n z) (sym q.0) (k.joining.kept n);
      }

  -- the value that was there and the new one are in one class
  value_pass : (j : Joining) (n f m : ℕ) → IsCollecting facts next j → Has facts (Value n f m) → (o : Option ℕ) → value_in (values_in j.values (class_in j.class n)) f ≡ o → IsPass facts next j (join_value (class_in j.class n) f m o j) (Obeyed (join_value (class_in j.class n) f m o j) (Value n f m))
  value_pass j n f m k hx None e = put_pass j n f m k (fits (Value n f m) hx).0 hx e
  value_pass j n f m k hx (Some v) e =
      let t = k.tells (class_in j.class n) f v e in
      let same : SameClass facts t.node n = joined t.node (class_in j.class n) n t.same (turned n (class_in j.class n) (k.joining.kept n)) in
      let p = nodes_pass j v m k (fits (Value t.node f v) t.has).2 (fits (Value n f m) hx).2 (alike f t.node n v m t.has hx same) in
      record { kept = p.kept; falls = p.falls; quiet = λ u. (let q = p.quiet u in (q.0, (v, ap (λ z. value_in (values_in (join_nodes v m j).values (class_in z n)) f) q.0.class ∙ q.0.grows (class_in j.class n) f v e, q.1))) }

  fact_pass : (j : Joining) (x : Fact) → IsCollecting facts next j → Has facts x → IsPass facts next j (join_fact x j) (Obeyed (join_fact x j) x)
  fact_pass j (Same a b) k hx = nodes_pass j a b k (fits (Same a b) hx).0 (fits (Same a b) hx).1 (told a b hx)
  fact_pass j (Value n f m) k hx = value_pass j n f m k hx (value_in (values_in j.values (class_in j.class n)) f) refl
  fact_pass j (OfType n t) k hx = record { kept = k; falls = falls_same next j j refl refl; quiet = λ u. (quiet_same j j u refl, tt) }
  fact_pass j (Differ a b) k hx = record { kept = k; falls = falls_same next j j refl refl; quiet = λ u. (quiet_same j j u refl, tt) }

  pub facts_pass : (xs : List Fact) (j : Joining) → Within xs facts → IsCollecting facts next j → IsPass facts next j (join_facts xs j) ((x : Fact) → Has xs x → Obeyed (join_facts xs j) x)
  facts_pass [] j w k = record { kept = k; falls = falls_same next j j refl refl; quiet = λ u. (quiet_same j j u refl, λ x p. absurd p) }
  facts_pass (x ∷ xs) j w k =
      let one = fact_pass j x k (w x (inl refl)) in
      let rest = facts_pass xs (join_fact x j) (λ y p. w y (inr p)) one.kept in
      record {
        kept = rest.kept;
        falls = falls_along next j (join_fact x j) (join_facts xs (join_fact x j)) one.falls rest.falls;
        quiet = λ u. (let q = rest.quiet u in let p = one.quiet q.0.unchanged in (quiet_along j (join_fact x j) (join_facts xs (join_fact x j)) p.0 q.0, λ y z. all q.0 p.1 q.1 y z));
      }
    where
      all : IsQuiet (join_fact x j) (join_facts xs (join_fact x j)) → Obeyed (join_fact x j) x → ((y : Fact) → Has xs y → Obeyed (join_facts xs (join_fact x j)) y) → (y : Fact) → Has (x ∷ xs) y → Obeyed (join_facts xs (join_fact x j)) y
      all q o r y (inl e) = obeyed_later (join_fact x j) (join_facts xs (join_fact x j)) y q (subst (Obeyed (join_fact x j)) (sym e) o)
      all q o r y (inr p) = r y p

-- where a pass over all facts changes nothing, the classes are the least ones, and the lists hold their values
pub joined_from : (facts : List Fact) (next : ℕ) (j : Joining) → IsCollecting facts next j → ((x : Fact) → Has facts x → Obeyed j x) → IsJoined facts next j.class j.values
joined_from facts next j k all = record {
  classes = classes;
  class_length = k.class_length;
  values_length = k.values_length;
  table = record {
    rises = k.rises;
    told = λ c f v own e. (let t = k.tells c f v e in record { node = t.node; has = t.has; of = classes.one t.node c t.same ∙ own });
    there = λ n f m hx. (let o = all (Value n f m) hx in (o.0, o.1));
  };
}
  where
    obeys : ObeysSame facts (class_in j.class)
    obeys = record { sames = λ a b hx. all (Same a b) hx; values = λ f a b x y hx hy e. values f a b x y e (all (Value a f x) hx) (all (Value b f y) hy) }
      where
        values : (f a b x y : ℕ) → class_in j.class a ≡ class_in j.class b → Obeyed j (Value a f x) → Obeyed j (Value b f y) → class_in j.class x ≡ class_in j.class y
        values f a b x y e o p =
            let one : o.0 ≡ p.0 = some_one (sym o.1 ∙ ap (λ z. value_in (values_in j.values z) f) e ∙ p.1) in
            sym o.2 ∙ ap (class_in j.class) one ∙ p.2

    classes : IsClasses facts next (class_in j.class)
    classes = record { kept = k.joining.kept; least = k.joining.least; one = obeys_one facts (class_in j.class) obeys; outside = k.joining.outside }

-- the state with which a pass starts
abbrev pub pass_start : ℕ → List ℕ → Joining
pass_start next class = record { class = class; values = replicate next []; changed = false }

no_values_in : (n c : ℕ) → values_in (replicate n []) c ≡ []
no_values_in zero c = refl
no_values_in (suc n) zero = refl
no_values_in (suc n) (suc c) = no_values_in n c

pub pass_starts : (facts : List Fact) (next : ℕ) (class : List ℕ) → IsJoining facts next (class_in class) → length class ≡ next → IsCollecting facts next (pass_start next class)
pass_starts facts next class k len = record {
  joining = k;
  class_length = len;
  values_length = length-replicate next [];
  rises = λ c. ap is_rising (no_values_in next c);
  tells = λ c f v e. absurd (none_some (sym (ap (λ z. value_in z f) (no_values_in next c)) ∙ e));
}

-- the passes start with each node in a class of its own
pub joining_starts : (facts : List Fact) (next : ℕ) → IsJoining facts next (class_in (upto next))
joining_starts facts next = subst (λ (z : ℕ → ℕ). IsJoining facts next z) (sym (class_upto next)) (record { kept = λ a. itself a; least = λ a. le_refl a; outside = λ a le. refl })

-- a whole pass, as the code makes it
pub whole_pass : (facts : List Fact) (next : ℕ) (class : List ℕ) → SpeakBelow next facts → IsJoining facts next (class_in class) → length class ≡ next → IsPass facts next (pass_start next class) (join_facts facts (pass_start next class)) ((x : Fact) → Has facts x → Obeyed (join_facts facts (pass_start next class)) x)
whole_pass facts next class speak k len = facts_pass speak.0 facts next speak.1 facts (pass_start next class) (λ x p. p) (pass_starts facts next class k len)

pub pass_was : (facts : List Fact) (next : ℕ) (class : List ℕ) (values : List (List (ℕ × ℕ))) (new : Joining) → SpeakBelow next facts → IsJoining facts next (class_in class) → length class ≡ next → values ≡ replicate next [] → new ≡ join_facts facts (record { class = class; values = values; changed = false }) → IsPass facts next (pass_start next class) new ((x : Fact) → Has facts x → Obeyed new x)
pass_was facts next class values new speak k len empty e =
    subst (λ (z : Joining). IsPass facts next (pass_start next class) z ((x : Fact) → Has facts x → Obeyed z x)) (sym (e ∙ ap (λ z. join_facts facts (record { class = class; values = z; changed = false })) empty))
    (whole_pass facts next class speak k len)
