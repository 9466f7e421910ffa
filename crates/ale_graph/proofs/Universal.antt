-- The graph of a closure has exactly one morphism into each structure that fulfils the given facts.
use Rattle.std.proofs.Common.{◌≡◌, ◌≢◌, ℕ, ◌<◌, ◌≤◌, List, get_or, map, length, ◌⊎◌, inl, inr, sym, ap, ◌∙◌, subst, subst₂, arith, Some}
use Rattle.std.proofs.Math.Path.{fun_ext}
use Rattle.std.proofs.lemmas.List.{length-map, get_or-map}
use Rattle.ale_declared.specs.Lists.{Has, upto}
use Rattle.ale_hierarchy.specs.Hierarchy.{Hierarchy, Above, IsLawful}
use Rattle.ale_graph.specs.declared.fact.Fact.{Fact}
use Rattle.ale_graph.specs.declared.fact.Fact.TheVariants.{OfType, Value, Same, Differ}
use Rattle.ale_graph.specs.Structures.{Structure, IsStructure, count, type_of, value_of}
use Rattle.ale_graph.specs.Morphisms.{IsMorphismAside}
use Rattle.ale_graph.specs.Facts.{HoldsFact, Fulfils, FitsFact, Fits}
use Rattle.ale_graph.specs.Least.{MustBe}
use Rattle.ale_graph.specs.Filling.{Filled}
use Rattle.ale_graph.specs.Closure.{classes_below, place, graph_of, closed_of, class_of, node_of}
use Rattle.ale_graph.specs.Universal.{Agree, HasExtension, IsUniversal}
use Rattle.ale_graph.proofs.Lists.{length_upto, get_upto}
use Rattle.ale_graph.proofs.Least.{same_holds, must_holds}
use Rattle.ale_graph.proofs.Classes.{IsClasses}
use Rattle.ale_graph.proofs.Structures.{value_from, get_past}
use Rattle.ale_graph.proofs.Closing.{IsClosing, value_holds}
use Rattle.ale_graph.proofs.Collapsing.{IsCollapsed}
use Rattle.ale_graph.proofs.Places.{HasClass, stands}
use Rattle.ale_graph.proofs.Values.{differ_from, differ_to}
use Rattle.ale_graph.proofs.Graphs.{AllApart, node_in, type_is, class_at, value_back, value_class, class_fits, graph_fulfils}

-- the list of classes gives the class of each node, also of one past its end
pub class_is : (h : Hierarchy) (st : Filled) → IsClasses st.facts st.next st.class → (a : ℕ) → class_of (closed_of h st) a ≡ st.class a
class_is h st is a = go (grind arith)
  where
    long : length (upto st.next) ≡ st.next
    long = length_upto st.next

    go : (a < st.next) ⊎ (st.next ≤ a) → get_or (map st.class (upto st.next)) a a ≡ st.class a
    go (inl l) = get_or-map st.class (upto st.next) a a a (subst (λ z. a < z) (sym long) l) ∙ ap st.class (get_upto st.next a a l)
    go (inr g) = get_past (map st.class (upto st.next)) a a (let e = length-map (upto st.next) st.class in let l = length_upto st.next in omega arith) ∙ sym (is.outside a g)

pub classes_eq : (h : Hierarchy) (st : Filled) → IsClasses st.facts st.next st.class → class_of (closed_of h st) ≡ st.class
classes_eq h st is = fun_ext (λ a. class_is h st is a)

pub nodes_eq : (h : Hierarchy) (st : Filled) → IsClasses st.facts st.next st.class → node_of (closed_of h st) ≡ node_in st
nodes_eq h st is = ap {B = ℕ → ℕ} (λ (k : ℕ → ℕ) (a : ℕ). place k (k a)) (classes_eq h st is)

pub node_of_is : (h : Hierarchy) (st : Filled) → IsClasses st.facts st.next st.class → (a : ℕ) → node_of (closed_of h st) a ≡ node_in st a
node_of_is h st is a = ap (λ (k : ℕ → ℕ). k a) (nodes_eq h st is)

-- a morphism from a graph in which the facts hold gives a map under which they hold
pub back : (h : Hierarchy) (g s : Structure) (node : ℕ → ℕ) (facts : List Fact) (next : ℕ) (f : ℕ → ℕ) → IsLawful h → Fits h facts next → Fulfils h g node facts next → ((a b : ℕ) → Has facts (Differ a b) → Has g.differ (node a, node b)) → IsMorphismAside h g s f → Fulfils h s (λ a. f (node a)) facts next
back h g s node facts next f law fits ok pairs is = record { into = λ a lt. is.into (node a) (ok.into a lt); holds = λ x p. holds x p (fits x p) (ok.holds x p) }
  where
    holds : (x : Fact) → Has facts x → FitsFact h next x → HoldsFact h g node x → HoldsFact h s (λ a. f (node a)) x
    holds (OfType n t) p fit k = law.along t (type_of g (node n)) (type_of s (f (node n))) k (is.types (node n) (ok.into n fit.0))
    holds (Value n r m) p fit k = is.values (node n) r (node m) k
    holds (Same a b) p fit k = ap f k
    holds (Differ a b) p fit k = is.differs (node a) (node b) (pairs a b p)

module _ (h : Hierarchy) (given : List Fact) (before : ℕ) (law : IsLawful h) (st : Filled) (k : IsCollapsed h given before st) (apart : AllApart st) where
  -- the facts hold wherever the classes' graph goes by a morphism
  goes : (s : Structure) (map : ℕ → ℕ) → IsMorphismAside h (graph_of h st) s map → Fulfils h s (λ a. map (node_in st a)) st.facts st.next
  goes s map is = back h (graph_of h st) s (node_in st) st.facts st.next map law k.filled.closing.fits (graph_fulfils h given before law st k apart) (λ a b p. differ_to st.class st.facts a b p) is

  pub carried : (s : Structure) (map : ℕ → ℕ) → IsMorphismAside h (graph_of h st) s map → Fulfils h s (λ a. map (node_of (closed_of h st) a)) st.facts st.next
  carried s map is = subst (λ (z : ℕ → ℕ). Fulfils h s (λ a. map (z a)) st.facts st.next) (sym (nodes_eq h st k.filled.closing.classes)) (goes s map is)

module _ (h : Hierarchy) (given : List Fact) (before : ℕ) (law : IsLawful h) (st : Filled) (k : IsCollapsed h given before st) (apart : AllApart st) (s : Structure) (at : ℕ → ℕ) (of : IsStructure h s) (ok : Fulfils h s at given before) where
  closing : IsClosing h given before st
  closing = k.filled.closing

  e : HasExtension h s at before st.facts st.next
  e = closing.extends s at of ok

  -- a node of the graph goes where its class goes
  to : ℕ → ℕ
  to n = e.new (get_or (classes_below st.class st.next) n 0)

  to_class : (c : ℕ) → c < st.next → st.class c ≡ c → to (place st.class c) ≡ e.new c
  unfolding to
  to_class c lt own = ap e.new (stands st.class st.next c lt own).is

  to_at : (n : ℕ) (c : HasClass st.class st.next n) → to n ≡ e.new c.class
  to_at n c = ap to (sym c.place_is) ∙ to_class c.class c.below c.own

  class_goes : (a : ℕ) → e.new (st.class a) ≡ e.new a
  class_goes a = sym (same_holds h s e.new st.facts e.fulfils.holds a (st.class a) (closing.classes.kept a))

  to_node : (a : ℕ) → a < st.next → to (node_in st a) ≡ e.new a
  to_node a lt = let c = class_fits h given before law st k apart a lt in to_class (st.class a) c.0 c.1 ∙ class_goes a

  must : (c : ℕ) → st.class c ≡ c → Above h (st.types c) (type_of s (e.new c))
  must c own = must_holds h s e.new st.facts law of.total e.fulfils.holds c (st.types c) (subst (λ z. MustBe h st.facts c (st.types z)) own (closing.types.forced c))

  morphism : IsMorphismAside h (graph_of h st) s to
  morphism = record { into = into; types = types; values = values; differs = differs }
    where
      into : (n : ℕ) → n < count (graph_of h st) → to n < count s
      into n lt = let c = class_at h given before law st k apart n lt in subst (λ z. z < count s) (sym (to_at n c)) (e.fulfils.into c.class c.below)

      types : (n : ℕ) → n < count (graph_of h st) → Above h (type_of (graph_of h st) n) (type_of s (to n))
      types n lt =
          let c = class_at h given before law st k apart n lt in
          let ty : st.types c.class ≡ type_of (graph_of h st) n = sym (type_is h given before law st k apart c.class c.below c.own) ∙ ap (type_of (graph_of h st)) c.place_is in
          subst₂ (λ y z. Above h y (type_of s z)) ty (sym (to_at n c)) (must c.class c.own)

      values : (n f m : ℕ) → value_of (graph_of h st) n f ≡ Some m → value_of s (to n) f ≡ Some (to m)
      values n f m q =
          let c = class_at h given before law st k apart n (value_from (graph_of h st) n f m q) in
          let v = value_back h given before law st k apart c.class f m c.below c.own (ap (λ z. value_of (graph_of h st) z f) c.place_is ∙ q) in
          let w = value_class h given before law st k apart c.class f v.class v.value in
          let m_to : to m ≡ e.new v.class = ap to v.place_is ∙ to_class v.class w.0 w.1 in
          subst₂ (λ y z. value_of s y f ≡ Some z) (sym (to_at n c)) (sym m_to) (value_holds h s e.new st.facts st.class closing.classes.kept e.fulfils.holds c.class f v.class v.value)

      differs : (a b : ℕ) → Has (graph_of h st).differ (a, b) → to a ≢ to b
      differs a b p =
          let d = differ_from st.class st.facts (a, b) p in
          let fit = closing.fits (Differ d.a d.b) d.has in
          let first : to a ≡ e.new d.a = ap to d.first ∙ to_node d.a fit.0 in
          let second : to b ≡ e.new d.b = ap to d.second ∙ to_node d.b fit.1 in
          λ q. e.fulfils.holds (Differ d.a d.b) d.has (sym first ∙ q ∙ second)

  only : (g : ℕ → ℕ) → IsMorphismAside h (graph_of h st) s g → ((a : ℕ) → a < before → g (node_in st a) ≡ at a) → Agree (count (graph_of h st)) g to
  only g is agree n lt =
      let c = class_at h given before law st k apart n lt in
      let one : g (node_in st c.class) ≡ e.new c.class = e.only (λ a. g (node_in st a)) agree (goes h given before law st k apart s g is) c.class c.below in
      let node : node_in st c.class ≡ n = ap (place st.class) c.own ∙ c.place_is in
      ap g (sym node) ∙ one ∙ sym (to_at n c)

  pub universal : IsUniversal h (closed_of h st) s at before
  universal = record {
    extension = e;
    morphism = record {
      map = to;
      is = morphism;
      agrees = λ a lt. ap to (node_of_is h st closing.classes a) ∙ to_node a (let l = closing.longer in omega arith) ∙ e.agrees a lt;
      only = λ g is agree. only g is (λ a lt. ap g (sym (node_of_is h st closing.classes a)) ∙ agree a lt);
    };
    takes = λ a lt. ap to (node_of_is h st closing.classes a) ∙ to_node a lt;
  }
