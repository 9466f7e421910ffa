-- The result read off the working lists is the defined one.
use Rattle.std.proofs.Common.{◌≡◌, ℕ, zero, suc, ◌<◌, Bool, true, false, eqb, IsTrue, List, [], ◌∷◌, ◌++◌, map, length, get_or, ◌⊎◌, inl, inr, refl, sym, ap, ◌∙◌, subst, arith, Option, Some, None, option_map, if◌then◌else◌}
use Rattle.std.proofs.lemmas.Bool.{eqb-true}
use Rattle.ale_declared.specs.Lists.{Has, upto, every}
use Rattle.ale_hierarchy.specs.Hierarchy.{Hierarchy, IsLawful}
use Rattle.ale_graph.specs.declared.fact.Fact.{Fact}
use Rattle.ale_graph.specs.declared.fact.Fact.TheVariants.{OfType, Value, Same, Differ}
use Rattle.ale_graph.specs.declared.node.Node.{Node}
use Rattle.ale_graph.specs.declared.closed.Closed.{Closed}
use Rattle.ale_graph.specs.Structures.{Structure, value_in, is_formed}
use Rattle.ale_graph.specs.Facts.{Fits}
use Rattle.ale_graph.specs.Classes.{classes}
use Rattle.ale_graph.specs.Types.{least_types}
use Rattle.ale_graph.specs.Filling.{Filled, class_value, fill}
use Rattle.ale_graph.specs.Collapsing.{collapse}
use Rattle.ale_graph.specs.Closure.{is_kept_apart, classes_below, place, values_by, class_node, differing, graph_of, closed_of, finish, close_from, close}
use Rattle.ale_graph.specs.Drafts.{class_in, type_in, values_in, mapped}
use Rattle.ale_graph.specs.Keeping.{IsClasses, IsJoined}
use Rattle.ale_graph.specs.Raising.{HasTypes}
use Rattle.ale_graph.specs.Working.{Working, IsDraft, IsFirstDraft, filled_of}
use Rattle.ale_graph.specs.Results.{place_in, node_in, pairs_of}
use Rattle.ale_graph.proofs.Lists.{none_some, has_either, has_upto, length_upto, get_upto}
use Rattle.ale_graph.proofs.Classes.{classes_are, one_classes, class_below}
use Rattle.ale_graph.proofs.Filling.{IsFilled, fill_is}
use Rattle.ale_graph.proofs.Collapsing.{IsCollapsed, collapse_is}
use Rattle.ale_graph.proofs.Values.{values_to, values_from, values_rise, upto_rises}
use Rattle.ale_graph.proofs.Graphs.{graph_structure}
use Rattle.ale_graph.proofs.Vectors.{get_map, map_class}
use Rattle.ale_graph.proofs.Entries.{rising_one}
use Rattle.ale_graph.proofs.Mapped.{mapped_value, mapped_rises}
use Rattle.ale_graph.proofs.Tables.{table_value}
use Rattle.ale_graph.proofs.FillSteps.{ready_closing}

map_same : {A B : Type 0} (f g : A → B) (xs : List A) → ((x : A) → Has xs x → f x ≡ g x) → map f xs ≡ map g xs
map_same f g [] all = refl
map_same f g (x ∷ xs) all =
    let first = all x (inl refl) in
    let rest = map_same f g xs (λ y p. all y (inr p)) in
    λ i. first i ∷ rest i

below_own : (cs : ℕ → ℕ) (n c : ℕ) → Has (classes_below cs n) c → cs c ≡ c
below_own cs zero c p = absurd p
below_own cs (suc n) c p = go (below_own cs n c) (eqb (cs n) n) refl p
  where
    go : (Has (classes_below cs n) c → cs c ≡ c) → (t : Bool) → eqb (cs n) n ≡ t → Has (if t then classes_below cs n ++ n ∷ [] else classes_below cs n) c → cs c ≡ c
    go ih false e p = ih p
    go ih true e p = last (has_either (classes_below cs n) (n ∷ []) c p)
      where
        last : Has (classes_below cs n) c ⊎ Has (n ∷ []) c → cs c ≡ c
        last (inl q) = ih q
        last (inr (inl q)) = ap cs q ∙ eqb-true (cs n) n e ∙ sym q
        last (inr (inr q)) = absurd q

module _ (h : Hierarchy) (w : Working) (d : IsDraft h w) (places : List ℕ) (are : places ≡ map (place (class_in w.class)) (upto (length w.class))) where
  st : Filled
  st = filled_of w

  place_is : (a : ℕ) → a < length w.class → place_in places w.class a ≡ place (class_in w.class) (class_in w.class a)
  place_is a lt =
      let below = class_below w.facts (length w.class) (class_in w.class) d.ready.classes a lt in
      let len = length_upto (length w.class) in
      ap (λ z. get_or z (class_in w.class a) 0) are
      ∙ get_map (place (class_in w.class)) (upto (length w.class)) (class_in w.class a) 0 0 (omega arith)
      ∙ ap (place (class_in w.class)) (get_upto (length w.class) (class_in w.class a) 0 below)

  value_placed : (c f : ℕ) → class_in w.class c ≡ c → value_in (mapped (place_in places w.class) (values_in w.values c)) f ≡ option_map (place (class_in w.class)) (class_value (class_in w.class) w.facts c f)
  value_placed c f own =
      mapped_value (place_in places w.class) (values_in w.values c) f
      ∙ go (value_in (values_in w.values c) f) refl
      ∙ sym (ap (option_map (place (class_in w.class))) (table_value w.facts (length w.class) (class_in w.class) w.values d.ready.classes d.table c f own))
    where
      go : (o : Option ℕ) → value_in (values_in w.values c) f ≡ o → option_map (place_in places w.class) o ≡ option_map (place (class_in w.class)) (option_map (class_in w.class) o)
      go None e = refl
      go (Some k) e =
          let t = d.table.told c f k own e in
          ap (λ (z : ℕ). Some z) (place_is k (d.ready.fits (Value t.node f k) t.has).2)

  value_by : (c f : ℕ) → class_in w.class c ≡ c → value_in (values_by (filled_of w) c (upto h.features)) f ≡ option_map (place (class_in w.class)) (class_value (class_in w.class) w.facts c f)
  value_by c f own = go (class_value (class_in w.class) w.facts c f) refl (value_in (values_by (filled_of w) c (upto h.features)) f) refl
    where
      go : (o : Option ℕ) → class_value (class_in w.class) w.facts c f ≡ o → (p : Option ℕ) → value_in (values_by (filled_of w) c (upto h.features)) f ≡ p → value_in (values_by (filled_of w) c (upto h.features)) f ≡ option_map (place (class_in w.class)) o
      go (Some m) e p q = values_to (filled_of w) c f m (upto h.features) e (has_upto h.features f known)
        where
          known : f < h.features
          known = pick (value_in (values_in w.values c) f) refl (sym (table_value w.facts (length w.class) (class_in w.class) w.values d.ready.classes d.table c f own) ∙ e)
            where
              pick : (r : Option ℕ) → value_in (values_in w.values c) f ≡ r → option_map (class_in w.class) r ≡ Some m → f < h.features
              pick None x y = absurd (none_some y)
              pick (Some k) x y = let t = d.table.told c f k own x in (d.ready.fits (Value t.node f k) t.has).1
      go None e None q = q
      go None e (Some k) q = let v = values_from (filled_of w) c f k (upto h.features) q in absurd (none_some (sym e ∙ v.value))

  node_is : (c : ℕ) → class_in w.class c ≡ c → node_in places w c ≡ class_node h (filled_of w) c
  node_is c own =
      let same = rising_one (mapped (place_in places w.class) (values_in w.values c)) (values_by (filled_of w) c (upto h.features))
      (mapped_rises (place_in places w.class) (values_in w.values c) ∙ d.table.rises c)
      (values_rise (filled_of w) c (upto h.features) (upto_rises h.features))
      (λ f. value_placed c f own ∙ sym (value_by c f own)) in
      λ i. record { of = type_in w.types c; values = same i }

  pairs_are : (xs : List Fact) → ((x : Fact) → Has xs x → Has w.facts x) → pairs_of (place_in places w.class) xs ≡ differing (class_in w.class) xs
  pairs_are [] all = refl
  pairs_are (Differ a b ∷ xs) all =
      let fit = d.ready.fits (Differ a b) (all (Differ a b) (inl refl)) in
      let first = place_is a fit.0 in
      let second = place_is b fit.1 in
      let rest = pairs_are xs (λ x p. all x (inr p)) in
      λ i. (first i, second i) ∷ rest i
  pairs_are (OfType n t ∷ xs) all = pairs_are xs (λ x p. all x (inr p))
  pairs_are (Value n f m ∷ xs) all = pairs_are xs (λ x p. all x (inr p))
  pairs_are (Same a b ∷ xs) all = pairs_are xs (λ x p. all x (inr p))

  pub graph_is : (nodes : List Node) (differ : List (ℕ × ℕ)) → nodes ≡ map (node_in places w) (classes_below (class_in w.class) (length w.class)) → differ ≡ pairs_of (place_in places w.class) w.facts → ◌≡◌ {A = Structure} (record { nodes = nodes; differ = differ; roots = [] }) (graph_of h (filled_of w))
  graph_is nodes differ n p =
      let ns = n ∙ map_same (node_in places w) (class_node h (filled_of w)) (classes_below (class_in w.class) (length w.class)) (λ c q. node_is c (below_own (class_in w.class) (length w.class) c q)) in
      let ds = p ∙ pairs_are w.facts (λ x q. q) in
      λ i. record { nodes = ns i; differ = ds i; roots = [] }

pub closed_is : (h : Hierarchy) (w : Working) (g : Structure) → g ≡ graph_of h (filled_of w) → ◌≡◌ {A = Closed} (record { facts = w.facts; next = length w.class; class = w.class; graph = g }) (closed_of h (filled_of w))
closed_is h w g e =
    let c = sym (map_class w.class) in
    λ i. record { facts = w.facts; next = length w.class; class = c i; graph = e i }

-- the first step of the code gives the defined classes and types
classes_same : (h : Hierarchy) (facts : List Fact) (next : ℕ) (class : List ℕ) → Fits h facts next → IsClasses facts next (class_in class) → class_in class ≡ classes facts next
classes_same h facts next class fits is = λ i. λ a. one_classes facts next (class_in class) (classes facts next) is (classes_are h facts next fits) a i

pub first_none : (h : Hierarchy) (facts : List Fact) (next : ℕ) (class : List ℕ) (values : List (List (ℕ × ℕ))) → Fits h facts next → IsJoined facts next class values → least_types h facts (length class) (class_in class) ≡ None → least_types h facts next (classes facts next) ≡ None
first_none h facts next class values fits j e =
    ap (least_types h facts next) (sym (classes_same h facts next class fits j.classes)) ∙ ap (λ z. least_types h facts z (class_in class)) (sym j.class_length) ∙ e

pub first_draft : (h : Hierarchy) (facts : List Fact) (next : ℕ) (class types : List ℕ) (values : List (List (ℕ × ℕ))) → Fits h facts next → IsJoined facts next class values → HasTypes h facts class types → IsFirstDraft h facts next (record { facts = facts; class = class; types = types; values = values })
first_draft h facts next class types values fits j t = record {
  draft = record {
    ready = record { classes = subst (λ z. IsClasses facts z (class_in class)) (sym j.class_length) j.classes; types = t.are; fits = subst (λ z. Fits h facts z) (sym j.class_length) fits };
    table = j.table;
    types_length = t.types_length;
    values_length = j.values_length ∙ sym j.class_length;
  };
  types = ap (least_types h facts next) (sym (classes_same h facts next class fits j.classes)) ∙ ap (λ z. least_types h facts z (class_in class)) (sym j.class_length) ∙ t.found;
  is = (let c = classes_same h facts next class fits j.classes in let n = j.class_length in λ i. record { facts = facts; next = n i; class = c i; types = type_in types });
}

-- the definition, where the first step gives nothing
pub close_none : (h : Hierarchy) (facts : List Fact) (next : ℕ) → least_types h facts next (classes facts next) ≡ None → close h facts next ≡ None
unfolding close
close_none h facts next e = ap (close_from h facts next (classes facts next)) e

-- and where it gives a draft
pub close_some : (h : Hierarchy) (facts : List Fact) (next : ℕ) (w : Working) → IsFirstDraft h facts next w → close h facts next ≡ finish h (collapse h (fill h (filled_of w)))
unfolding close
close_some h facts next w d =
    ap (close_from h facts next (classes facts next)) d.types ∙ ap (λ (z : Filled). finish h (collapse h (fill h z))) (sym d.is)

pub draft_filled : (h : Hierarchy) (w v : Working) → IsLawful h → IsDraft h w → filled_of v ≡ fill h (filled_of w) → IsFilled h w.facts (length w.class) (filled_of v)
draft_filled h w v law d e = subst (IsFilled h w.facts (length w.class)) (sym e) (fill_is h w.facts (length w.class) (filled_of w) law (ready_closing h (filled_of w) d.ready))

-- the graph of the merged draft is formed, where nothing is told to differ that met
pub merged_formed : (h : Hierarchy) (w v u : Working) → IsLawful h → IsDraft h w → filled_of v ≡ fill h (filled_of w) → filled_of u ≡ collapse h (filled_of v) → every (is_kept_apart (class_in u.class)) u.facts ≡ true → IsTrue (is_formed (graph_of h (filled_of u)))
merged_formed h w v u law d e f apart =
    let k : IsCollapsed h w.facts (length w.class) (filled_of u) = subst (IsCollapsed h w.facts (length w.class)) (sym f) (collapse_is h w.facts (length w.class) (filled_of v) law (draft_filled h w v law d e)) in
    (graph_structure h w.facts (length w.class) law (filled_of u) k apart).formed

finish_none : (h : Hierarchy) (st : Filled) → every (is_kept_apart st.class) st.facts ≡ false → finish h st ≡ None
finish_none h st e = ap (λ t. if t then Some (closed_of h st) else None) e

finish_some : (h : Hierarchy) (st : Filled) → every (is_kept_apart st.class) st.facts ≡ true → finish h st ≡ Some (closed_of h st)
finish_some h st e = ap (λ t. if t then Some (closed_of h st) else None) e

pub close_met : (h : Hierarchy) (facts : List Fact) (next : ℕ) (w v u : Working) → IsFirstDraft h facts next w → filled_of v ≡ fill h (filled_of w) → filled_of u ≡ collapse h (filled_of v) → every (is_kept_apart (class_in u.class)) u.facts ≡ false → close h facts next ≡ None
close_met h facts next w v u d e f met =
    close_some h facts next w d ∙ ap (λ (z : Filled). finish h (collapse h z)) (sym e) ∙ ap (finish h) (sym f) ∙ finish_none h (filled_of u) met

pub close_done : (h : Hierarchy) (facts : List Fact) (next : ℕ) (w v u : Working) → IsFirstDraft h facts next w → filled_of v ≡ fill h (filled_of w) → filled_of u ≡ collapse h (filled_of v) → every (is_kept_apart (class_in u.class)) u.facts ≡ true → close h facts next ≡ Some (closed_of h (filled_of u))
close_done h facts next w v u d e f apart =
    close_some h facts next w d ∙ ap (λ (z : Filled). finish h (collapse h z)) (sym e) ∙ ap (finish h) (sym f) ∙ finish_some h (filled_of u) apart

-- the graph, from the lists of which the code makes it
pub graph_made : (h : Hierarchy) (w : Working) → IsDraft h w → (class class' places places' places'' : List ℕ) (facts : List Fact) (nodes : List Node) (differ : List (ℕ × ℕ)) (roots : List (Option ℕ)) → class ≡ w.class → class' ≡ w.class → places ≡ map (place (class_in class)) (upto (length class)) → places' ≡ places → places'' ≡ places → facts ≡ w.facts → nodes ≡ map (node_in places' w) (classes_below (class_in w.class) (length w.class)) → differ ≡ pairs_of (place_in places'' class') facts → roots ≡ [] → ◌≡◌ {A = Structure} (record { nodes = nodes; differ = differ; roots = roots }) (graph_of h (filled_of w))
graph_made h w d class class' places places' places'' facts nodes differ roots c c' p p' p'' f n q r =
    (λ i. record { nodes = nodes; differ = differ; roots = r i })
    ∙ graph_is h w d places (p ∙ ap (λ z. map (place (class_in z)) (upto (length z))) c) nodes differ
    (n ∙ ap (λ z. map (node_in z w) (classes_below (class_in w.class) (length w.class))) p')
    (q ∙ ap (λ z. pairs_of (place_in z class') facts) p'' ∙ ap (λ z. pairs_of (place_in places z) facts) c' ∙ ap (pairs_of (place_in places w.class)) f)
