-- The graph of a closure is total, extensional and kept apart, and the facts hold in it.
use Rattle.std.proofs.Common.{◌≡◌, ℕ, ◌<◌, true, ◌&&◌, eqb, ltb, List, [], ◌⊎◌, inl, inr, refl, sym, ap, ◌∙◌, subst, arith, Option, Some, None}
use Rattle.std.proofs.lemmas.Bool.{and_from, eqb-false, not-true, lt-ltb}
use Rattle.std.proofs.lemmas.List.{length-map, get_or-map}
use Rattle.ale_declared.specs.Lists.{Has, upto, every}
use Rattle.ale_hierarchy.specs.Hierarchy.{Hierarchy, Above, IsLawful}
use Rattle.ale_graph.specs.declared.node.Node.{Node}
use Rattle.ale_graph.specs.declared.fact.Fact.{Fact}
use Rattle.ale_graph.specs.declared.fact.Fact.TheVariants.{OfType, Value, Same, Differ}
use Rattle.ale_graph.specs.Structures.{Structure, IsStructure, IsTotal, IsExtensional, IsApart, count, node_at, type_of, value_in, value_of, is_rising, is_node, is_root, is_formed}
use Rattle.ale_graph.specs.Facts.{HoldsFact, Fulfils}
use Rattle.ale_graph.specs.Least.{SameClass, MustBe}
use Rattle.ale_graph.specs.Filling.{Filled, class_value}
use Rattle.ale_graph.specs.Closure.{is_kept_apart, classes_below, place, values_by, class_node, graph_of}
use Rattle.ale_graph.proofs.Lists.{none_some, has_map, has_upto, every_has, every_from}
use Rattle.ale_graph.proofs.Classes.{own_class, class_below}
use Rattle.ale_graph.proofs.Structures.{value_from}
use Rattle.ale_graph.proofs.Closing.{IsClosing, value_found, value_there}
use Rattle.ale_graph.proofs.Collapsing.{IsCollapsed}
use Rattle.ale_graph.proofs.Places.{HasClass, stands, has_class, place_one}
use Rattle.ale_graph.proofs.Values.{IsValue, values_to, values_from, entry_from, values_rise, upto_rises, differ_from}

-- no Differ's nodes are in one class
abbrev pub AllApart : Filled → Type 0
AllApart st = every (is_kept_apart st.class) st.facts ≡ true

-- the node of the graph that a node's class is
abbrev pub node_in : Filled → ℕ → ℕ
node_in st a = place st.class (st.class a)

pub count_is : (h : Hierarchy) (st : Filled) → count (graph_of h st) ≡ place st.class st.next
count_is h st = length-map (classes_below st.class st.next) (class_node h st)

module _ (h : Hierarchy) (given : List Fact) (before : ℕ) (law : IsLawful h) (st : Filled) (k : IsCollapsed h given before st) (apart : AllApart st) where
  closing : IsClosing h given before st
  closing = k.filled.closing

  pub node_is : (c : ℕ) → c < st.next → st.class c ≡ c → node_at (graph_of h st) (place st.class c) ≡ class_node h st c
  node_is c lt own =
      let s = stands st.class st.next c lt own in
      get_or-map (class_node h st) (classes_below st.class st.next) (place st.class c) 0 (record { of = 0; values = [] }) s.below ∙ ap (class_node h st) s.is

  pub type_is : (c : ℕ) → c < st.next → st.class c ≡ c → type_of (graph_of h st) (place st.class c) ≡ st.types c
  type_is c lt own = ap (λ (x : Node). x.of) (node_is c lt own)

  pub class_at : (n : ℕ) → n < count (graph_of h st) → HasClass st.class st.next n
  class_at n lt = has_class st.class st.next n (subst (λ z. n < z) (count_is h st) lt)

  pub node_below : (c : ℕ) → c < st.next → st.class c ≡ c → place st.class c < count (graph_of h st)
  node_below c lt own = subst (λ z. place st.class c < z) (sym (count_is h st)) (stands st.class st.next c lt own).below

  pub value_to : (c f m : ℕ) → c < st.next → st.class c ≡ c → class_value st.class st.facts c f ≡ Some m → value_of (graph_of h st) (place st.class c) f ≡ Some (place st.class m)
  value_to c f m lt own e =
      let v = value_found st.facts st.class c f m e in
      ap (λ (x : Node). value_in x.values f) (node_is c lt own) ∙ values_to st c f m (upto h.features) e (has_upto h.features f (closing.fits (Value v.node f v.value) v.has).1)

  pub value_back : (c f q : ℕ) → c < st.next → st.class c ≡ c → value_of (graph_of h st) (place st.class c) f ≡ Some q → IsValue st c f q
  value_back c f q lt own e = values_from st c f q (upto h.features) (sym (ap (λ (x : Node). value_in x.values f) (node_is c lt own)) ∙ e)

  -- a value is a class
  pub value_class : (c f m : ℕ) → class_value st.class st.facts c f ≡ Some m → (m < st.next) × (st.class m ≡ m)
  value_class c f m e =
      let v = value_found st.facts st.class c f m e in
      let lt = class_below st.facts st.next st.class closing.classes v.value (closing.fits (Value v.node f v.value) v.has).2 in
      (subst (λ z. z < st.next) v.is lt, subst (λ z. st.class z ≡ z) v.is (own_class st.facts st.next st.class closing.classes v.value))

  -- the feature of a value is appropriate, and the value is of the restricting type
  value_typed : (c f m : ℕ) → class_value st.class st.facts c f ≡ Some m → (r : ℕ) × (h.approp f (st.types c) ≡ Some r) × Above h r (st.types m)
  value_typed c f m e =
      let v = value_found st.facts st.class c f m e in
      let intro = closing.types.bound v.node (h.intro f) (MustBe.introduced v.node f v.value v.has) in
      let a = law.intro_there f (st.types (st.class v.node)) (closing.fits (Value v.node f v.value) v.has).1 (closing.types.inside (st.class v.node)) intro in
      let up = closing.types.bound v.value a.0 (MustBe.restricted v.node f v.value (st.types (st.class v.node)) a.0 v.has (closing.types.forced v.node) a.1) in
      (a.0, subst (λ z. h.approp f (st.types z) ≡ Some a.0) v.of a.1, subst (λ z. Above h a.0 (st.types z)) v.is up)

  graph_total : IsTotal h (graph_of h st)
  graph_total = record { types = types; there = there; only = only }
    where
      types : (n : ℕ) → n < count (graph_of h st) → type_of (graph_of h st) n < h.types
      types n lt =
          let c = class_at n lt in
          subst (λ z. type_of (graph_of h st) z < h.types) c.place_is (subst (λ z. z < h.types) (sym (type_is c.class c.below c.own)) (closing.types.inside c.class))

      there : (n f r : ℕ) → n < count (graph_of h st) → h.approp f (type_of (graph_of h st) n) ≡ Some r → (m : ℕ) × (value_of (graph_of h st) n f ≡ Some m)
      there n f r lt e =
          let c = class_at n lt in
          let e' : h.approp f (st.types c.class) ≡ Some r = ap (λ z. h.approp f z) (sym (type_is c.class c.below c.own) ∙ ap (type_of (graph_of h st)) c.place_is) ∙ e in
          let v = k.filled.full c.class f r c.below c.own e' in
          (place st.class v.0, subst (λ z. value_of (graph_of h st) z f ≡ Some (place st.class v.0)) c.place_is (value_to c.class f v.0 c.below c.own v.1))

      only : (n f m : ℕ) → value_of (graph_of h st) n f ≡ Some m → (r : ℕ) × (h.approp f (type_of (graph_of h st) n) ≡ Some r) × Above h r (type_of (graph_of h st) m)
      only n f m e =
          let c = class_at n (value_from (graph_of h st) n f m e) in
          let v = value_back c.class f m c.below c.own (ap (λ z. value_of (graph_of h st) z f) c.place_is ∙ e) in
          let t = value_typed c.class f v.class v.value in
          let w = value_class c.class f v.class v.value in
          (t.0, ap (λ z. h.approp f z) (ap (type_of (graph_of h st)) (sym c.place_is) ∙ type_is c.class c.below c.own) ∙ t.1, subst (λ z. Above h t.0 z) (sym (ap (type_of (graph_of h st)) v.place_is ∙ type_is v.class w.0 w.1)) t.2)

  graph_extensional : IsExtensional h (graph_of h st)
  graph_extensional a b la lb ty ext values =
      sym c.place_is ∙ ap (place st.class) one ∙ d.place_is
    where
      c : HasClass st.class st.next a
      c = class_at a la

      d : HasClass st.class st.next b
      d = class_at b lb

      type_c : type_of (graph_of h st) a ≡ st.types c.class
      type_c = ap (type_of (graph_of h st)) (sym c.place_is) ∙ type_is c.class c.below c.own

      type_d : type_of (graph_of h st) b ≡ st.types d.class
      type_d = ap (type_of (graph_of h st)) (sym d.place_is) ∙ type_is d.class d.below d.own

      there : (x y : ℕ) (u : HasClass st.class st.next x) (v : HasClass st.class st.next y) → ((f : ℕ) → value_of (graph_of h st) x f ≡ value_of (graph_of h st) y f) → (f m : ℕ) → class_value st.class st.facts u.class f ≡ Some m → class_value st.class st.facts v.class f ≡ Some m
      there x y u v same f m e =
          let at_x : value_of (graph_of h st) x f ≡ Some (place st.class m) = ap (λ z. value_of (graph_of h st) z f) (sym u.place_is) ∙ value_to u.class f m u.below u.own e in
          let at_y : value_of (graph_of h st) (place st.class v.class) f ≡ Some (place st.class m) = ap (λ z. value_of (graph_of h st) z f) v.place_is ∙ sym (same f) ∙ at_x in
          let w = value_back v.class f (place st.class m) v.below v.own at_y in
          let mc = value_class u.class f m e in
          let wc = value_class v.class f w.class w.value in
          w.value ∙ ap (λ (z : ℕ). Some z) (place_one st.class st.next w.class m wc.0 mc.0 wc.1 mc.1 (sym w.place_is))

      class_values : (x y : ℕ) (u : HasClass st.class st.next x) (v : HasClass st.class st.next y) → ((f : ℕ) → value_of (graph_of h st) x f ≡ value_of (graph_of h st) y f) → (f : ℕ) → class_value st.class st.facts u.class f ≡ class_value st.class st.facts v.class f
      class_values x y u v same f = go (class_value st.class st.facts u.class f) refl (class_value st.class st.facts v.class f) refl
        where
          go : (o : Option ℕ) → class_value st.class st.facts u.class f ≡ o → (p : Option ℕ) → class_value st.class st.facts v.class f ≡ p → class_value st.class st.facts u.class f ≡ class_value st.class st.facts v.class f
          go (Some m) e p q = e ∙ sym (there x y u v same f m e)
          go None e None q = e ∙ sym q
          go None e (Some m) q = absurd (none_some (sym e ∙ there y x v u (λ f. sym (same f)) f m q))

      double : (x y : ℕ) (u : HasClass st.class st.next x) (v : HasClass st.class st.next y) → ((f : ℕ) → value_of (graph_of h st) x f ≡ value_of (graph_of h st) y f) → st.types u.class ≡ st.types v.class → h.is_ext (st.types u.class) ≡ true → u.class < v.class → ⊥
      double x y u v same t e lt = k.single u.class v.class (record { less = lt; below = v.below; own_first = u.own; own_second = v.own; one_type = t; ext = e; values = λ f _. class_values x y u v same f })

      one_type : st.types c.class ≡ st.types d.class
      one_type = sym type_c ∙ ty ∙ type_d

      ext_c : h.is_ext (st.types c.class) ≡ true
      ext_c = subst (λ z. h.is_ext z ≡ true) type_c ext

      pick : (c.class < d.class) ⊎ (d.class < c.class) ⊎ (c.class ≡ d.class) → c.class ≡ d.class
      pick (inl l) = absurd (double a b c d values one_type ext_c l)
      pick (inr (inl l)) = absurd (double b a d c (λ f. sym (values f)) (sym one_type) (subst (λ z. h.is_ext z ≡ true) one_type ext_c) l)
      pick (inr (inr e)) = e

      one : c.class ≡ d.class
      one = pick (grind arith)

  class_apart : (a b : ℕ) → Has st.facts (Differ a b) → st.class a ≡ st.class b → ⊥
  class_apart a b p e =
      let t = every_has (is_kept_apart st.class) st.facts (Differ a b) apart p in
      eqb-false (st.class a) (st.class b) (not-true (eqb (st.class a) (st.class b)) t) e

  pub node_apart : (a b : ℕ) → Has st.facts (Differ a b) → node_in st a ≡ node_in st b → ⊥
  node_apart a b p e =
      let fit = closing.fits (Differ a b) p in
      class_apart a b p (place_one st.class st.next (st.class a) (st.class b) (class_below st.facts st.next st.class closing.classes a fit.0) (class_below st.facts st.next st.class closing.classes b fit.1) (own_class st.facts st.next st.class closing.classes a) (own_class st.facts st.next st.class closing.classes b) e)

  graph_apart : IsApart (graph_of h st)
  graph_apart a b p e =
      let d = differ_from st.class st.facts (a, b) p in
      node_apart d.a d.b d.has (sym d.first ∙ e ∙ d.second)

  graph_formed : is_formed (graph_of h st) ≡ true
  graph_formed =
      and_from (every (is_node n) g.nodes) (every (λ (p : ℕ × ℕ). ltb p.0 n && ltb p.1 n) g.differ && every (is_root n) g.roots)
      (every_from (is_node n) g.nodes nodes)
      (and_from (every (λ (p : ℕ × ℕ). ltb p.0 n && ltb p.1 n) g.differ) (every (is_root n) g.roots) (every_from (λ (p : ℕ × ℕ). ltb p.0 n && ltb p.1 n) g.differ pairs) refl)
    where
      g : Structure
      g = graph_of h st

      n : ℕ
      n = count g

      pairs : (p : ℕ × ℕ) → Has g.differ p → (ltb p.0 n && ltb p.1 n) ≡ true
      pairs p q =
          let d = differ_from st.class st.facts p q in
          let fit = closing.fits (Differ d.a d.b) d.has in
          let first = node_below (st.class d.a) (class_below st.facts st.next st.class closing.classes d.a fit.0) (own_class st.facts st.next st.class closing.classes d.a) in
          let second = node_below (st.class d.b) (class_below st.facts st.next st.class closing.classes d.b fit.1) (own_class st.facts st.next st.class closing.classes d.b) in
          and_from (ltb p.0 n) (ltb p.1 n) (lt-ltb p.0 n (subst (λ z. z < n) (sym d.first) first)) (lt-ltb p.1 n (subst (λ z. z < n) (sym d.second) second))

      node : (c : ℕ) → is_node n (class_node h st c) ≡ true
      node c =
          and_from (every (λ (v : ℕ × ℕ). ltb v.1 n) (values_by st c (upto h.features))) (is_rising (values_by st c (upto h.features)))
          (every_from (λ (v : ℕ × ℕ). ltb v.1 n) (values_by st c (upto h.features)) below)
          (values_rise st c (upto h.features) (upto_rises h.features))
        where
          below : (v : ℕ × ℕ) → Has (values_by st c (upto h.features)) v → ltb v.1 n ≡ true
          below v q =
              let i = entry_from st c (upto h.features) v q in
              let m = value_class c v.0 i.class i.value in
              lt-ltb v.1 n (subst (λ z. z < n) (sym i.place_is) (node_below i.class m.0 m.1))

      nodes : (x : Node) → Has g.nodes x → is_node n x ≡ true
      nodes x q =
          let r = has_map (class_node h st) (classes_below st.class st.next) x q in
          ap (is_node n) r.2 ∙ node r.0

  pub graph_structure : IsStructure h (graph_of h st)
  graph_structure = record { formed = graph_formed; total = graph_total; extensional = graph_extensional; apart = graph_apart }

  pub class_fits : (a : ℕ) → a < st.next → (st.class a < st.next) × (st.class (st.class a) ≡ st.class a)
  class_fits a lt = (class_below st.facts st.next st.class closing.classes a lt, own_class st.facts st.next st.class closing.classes a)

  pub node_type : (a : ℕ) → a < st.next → type_of (graph_of h st) (node_in st a) ≡ st.types (st.class a)
  node_type a lt = let c = class_fits a lt in type_is (st.class a) c.0 c.1

  pub graph_fulfils : Fulfils h (graph_of h st) (node_in st) st.facts st.next
  graph_fulfils = record { into = λ a lt. (let c = class_fits a lt in node_below (st.class a) c.0 c.1); holds = holds }
    where
      holds : (x : Fact) → Has st.facts x → HoldsFact h (graph_of h st) (node_in st) x
      holds (OfType n t) p = subst (λ z. Above h t z) (sym (node_type n (closing.fits (OfType n t) p).0)) (closing.types.bound n t (MustBe.declared n t p))
      holds (Value n f m) p =
          let c = class_fits n (closing.fits (Value n f m) p).0 in
          value_to (st.class n) f (st.class m) c.0 c.1 (value_there st.facts st.next st.class closing.classes (st.class n) f n m p refl)
      holds (Same a b) p = ap (place st.class) (closing.classes.one a b (SameClass.told a b p))
      holds (Differ a b) p = node_apart a b p
