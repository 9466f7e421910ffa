-- The law of the closure, from its steps.
use Rattle.std.proofs.Common.{◌≡◌, ◌↔◌, ℕ, ◌<◌, ◌≤◌, Bool, true, false, ◌&&◌, not, eqb, List, [], ◌∷◌, inl, inr, refl, sym, ap, ◌∙◌, subst, Option, Some, None, if◌then◌else◌}
use Rattle.std.proofs.lemmas.Bool.{eqb-true}
use Rattle.std.proofs.lemmas.List.{length-map}
use Rattle.ale_declared.specs.Lists.{Has, upto, every}
use Rattle.ale_hierarchy.specs.Hierarchy.{Hierarchy, Above, IsLawful}
use Rattle.ale_graph.specs.declared.fact.Fact.{Fact}
use Rattle.ale_graph.specs.declared.fact.Fact.TheVariants.{OfType, Value, Same, Differ}
use Rattle.ale_graph.specs.Structures.{Structure, IsStructure, count, type_of, value_of}
use Rattle.ale_graph.specs.Facts.{Fulfils}
use Rattle.ale_graph.specs.Least.{SameClass, MustBe}
use Rattle.ale_graph.specs.Classes.{classes}
use Rattle.ale_graph.specs.Types.{least_types}
use Rattle.ale_graph.specs.Filling.{Filled, class_value, fill}
use Rattle.ale_graph.specs.Collapsing.{collapse}
use Rattle.ale_graph.specs.Closure.{is_kept_apart, place, graph_of, closed_of, finish, close_from, close, class_of, node_of}
use Rattle.ale_graph.specs.Universal.{IsClosure, ClosesTo, ClosureLaw}
use Rattle.ale_graph.proofs.Lists.{length_upto}
use Rattle.ale_graph.proofs.Least.{same_holds, clash_none}
use Rattle.ale_graph.proofs.Classes.{IsClasses, classes_are, same_from, own_class}
use Rattle.ale_graph.proofs.Types.{types_are, types_none}
use Rattle.ale_graph.proofs.Closing.{IsClosing, closing_starts}
use Rattle.ale_graph.proofs.Filling.{fill_is}
use Rattle.ale_graph.proofs.Collapsing.{IsCollapsed, collapse_is}
use Rattle.ale_graph.proofs.Places.{place_one}
use Rattle.ale_graph.proofs.Graphs.{AllApart, node_in, class_at, value_back, value_class, class_fits, node_type, graph_structure, graph_fulfils}
use Rattle.ale_graph.proofs.Universal.{class_is, classes_eq, nodes_eq, node_of_is, carried, universal}

module _ (h : Hierarchy) (given : List Fact) (before : ℕ) (law : IsLawful h) (st : Filled) (k : IsCollapsed h given before st) where
  closing : IsClosing h given before st
  closing = k.filled.closing

  class_at_is : (a : ℕ) → class_of (closed_of h st) a ≡ st.class a
  class_at_is a = class_is h st closing.classes a

  node_at_is : (a : ℕ) → node_of (closed_of h st) a ≡ node_in st a
  node_at_is a = node_of_is h st closing.classes a

  pub is_closure : AllApart st → IsClosure h given before (closed_of h st)
  is_closure apart = record {
    front = closing.front;
    longer = closing.longer;
    fits = closing.fits;
    classes = length-map (upto st.next) st.class ∙ length_upto st.next;
    same = same;
    least = λ a. subst (λ z. z ≤ a) (sym (class_at_is a)) (closing.classes.least a);
    own = λ a. class_at_is (class_of (closed_of h st) a) ∙ ap st.class (class_at_is a) ∙ own_class st.facts st.next st.class closing.classes a ∙ sym (class_at_is a);
    onto = onto;
    one_node = one_node;
    types = types;
    told = told;
    structure = graph_structure h given before law st k apart;
    fulfils = subst (λ (z : ℕ → ℕ). Fulfils h (graph_of h st) z st.facts st.next) (sym (nodes_eq h st closing.classes)) (graph_fulfils h given before law st k apart);
    carried = carried h given before law st k apart;
    universal = universal h given before law st k apart;
  }
    where
      same : (a b : ℕ) → (class_of (closed_of h st) a ≡ class_of (closed_of h st) b) ↔ SameClass st.facts a b
      same a b = (
        λ e. same_from st.facts st.class closing.classes.kept a b (sym (class_at_is a) ∙ e ∙ class_at_is b),
        λ s. class_at_is a ∙ closing.classes.one a b s ∙ sym (class_at_is b),
      )

      onto : (n : ℕ) → n < count (graph_of h st) → (a : ℕ) × (a < st.next) × (class_of (closed_of h st) a ≡ a) × (node_of (closed_of h st) a ≡ n)
      onto n lt =
          let c = class_at h given before law st k apart n lt in
          (c.class, c.below, class_at_is c.class ∙ c.own, node_at_is c.class ∙ ap (place st.class) c.own ∙ c.place_is)

      one_node : (a b : ℕ) → a < st.next → b < st.next → node_of (closed_of h st) a ≡ node_of (closed_of h st) b → class_of (closed_of h st) a ≡ class_of (closed_of h st) b
      one_node a b la lb e =
          let c = class_fits h given before law st k apart a la in
          let d = class_fits h given before law st k apart b lb in
          class_at_is a ∙ place_one st.class st.next (st.class a) (st.class b) c.0 d.0 c.1 d.1 (sym (node_at_is a) ∙ e ∙ node_at_is b) ∙ sym (class_at_is b)

      told : (a f q : ℕ) → a < st.next → value_of (graph_of h st) (node_of (closed_of h st) a) f ≡ Some q → (m : ℕ) × (class_value (class_of (closed_of h st)) st.facts (class_of (closed_of h st) a) f ≡ Some m) × (node_of (closed_of h st) m ≡ q)
      told a f q lt e =
          let c = class_fits h given before law st k apart a lt in
          let v = value_back h given before law st k apart (st.class a) f q c.0 c.1 (ap (λ z. value_of (graph_of h st) z f) (sym (node_at_is a)) ∙ e) in
          (v.class, subst (λ (z : ℕ → ℕ). class_value z st.facts (z a) f ≡ Some v.class) (sym (classes_eq h st closing.classes)) v.value, node_at_is v.class ∙ ap (place st.class) (value_class h given before law st k apart (st.class a) f v.class v.value).1 ∙ sym v.place_is)

      types : (a t : ℕ) → a < st.next → Above h t (type_of (graph_of h st) (node_of (closed_of h st) a)) ↔ MustBe h st.facts a t
      types a t lt =
          let ty : type_of (graph_of h st) (node_of (closed_of h st) a) ≡ st.types (st.class a) = ap (type_of (graph_of h st)) (node_at_is a) ∙ node_type h given before law st k apart a lt in (
            λ up. MustBe.general a t (st.types (st.class a)) (subst (λ z. Above h t z) ty up) (closing.types.forced a),
            λ m. subst (λ z. Above h t z) (sym ty) (closing.types.bound a t m),
          )

  -- where the nodes of a Differ met, no structure fulfils the given facts
  met_none : every (is_kept_apart st.class) st.facts ≡ false → (s : Structure) (at : ℕ → ℕ) → IsStructure h s → Fulfils h s at given before → ⊥
  met_none bad s at of ok = go st.facts (λ x p. p) bad
    where
      new : ℕ → ℕ
      new = (closing.extends s at of ok).new

      ends : (x : Fact) → Has st.facts x → is_kept_apart st.class x ≡ false → ⊥
      ends (OfType n t) p e = absurd cc
      ends (Value n f m) p e = absurd cc
      ends (Same a b) p e = absurd cc
      ends (Differ a b) p e =
          (closing.extends s at of ok).fulfils.holds (Differ a b) p
          (same_holds h s new st.facts (closing.extends s at of ok).fulfils.holds a b (same_from st.facts st.class closing.classes.kept a b (met (eqb (st.class a) (st.class b)) refl e)))
        where
          met : (t : Bool) → eqb (st.class a) (st.class b) ≡ t → not t ≡ false → st.class a ≡ st.class b
          met true is e = eqb-true (st.class a) (st.class b) is
          met false is e = absurd cc

      go : (xs : List Fact) → ((x : Fact) → Has xs x → Has st.facts x) → every (is_kept_apart st.class) xs ≡ false → ⊥
      go [] w e = absurd cc
      go (x ∷ xs) w e = one (go xs (λ y p. w y (inr p))) (is_kept_apart st.class x) refl e
        where
          one : (every (is_kept_apart st.class) xs ≡ false → ⊥) → (t : Bool) → is_kept_apart st.class x ≡ t → (t && every (is_kept_apart st.class) xs) ≡ false → ⊥
          one ih true is e = ih e
          one ih false is e = ends x (w x (inl refl)) is

  finish_closes : ClosesTo h given before (finish h st)
  finish_closes = go (every (is_kept_apart st.class) st.facts) refl
    where
      go : (t : Bool) → every (is_kept_apart st.class) st.facts ≡ t → ClosesTo h given before (if t then Some (closed_of h st) else None)
      go true e = is_closure e
      go false e = met_none e

pub closure_law : ClosureLaw
unfolding close
closure_law h facts next law fits = go (least_types h facts next (classes facts next)) refl
  where
    cs : ℕ → ℕ
    cs = classes facts next

    is : IsClasses facts next cs
    is = classes_are h facts next fits

    go : (o : Option (ℕ → ℕ)) → least_types h facts next cs ≡ o → ClosesTo h facts next (close_from h facts next cs o)
    go None e = λ s at of ok. clash_none h s at facts law of.total ok.holds (types_none h facts next cs law fits is e)
    go (Some ty) e =
        let st : Filled = record { facts = facts; next = next; class = cs; types = ty } in
        let start = closing_starts h facts next cs ty fits is (types_are h facts next cs law fits is ty e) in
        let filled = fill_is h facts next st law start in
        finish_closes h facts next law (collapse h (fill h st)) (collapse_is h facts next (fill h st) law filled)
