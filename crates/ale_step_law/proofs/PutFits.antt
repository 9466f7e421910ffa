-- A kept structure put among a state's nodes: its facts fit, it gives a state, and it goes by a morphism where it is
-- satisfied.
use Rattle.std.proofs.Common.{◌≡◌, ℕ, suc, ◌+◌, ◌<◌, ◌≤◌, true, ◌&&◌, ltb, List, [], ◌∷◌, ◌++◌, length, map, get_or, ◌⊎◌, inl, inr, refl, sym, ap, ◌∙◌, subst, arith, Some}
use Rattle.std.proofs.Math.Path.{fun_ext}
use Rattle.std.proofs.lemmas.Bool.{and_parts, ltb-true}
use Rattle.std.proofs.lemmas.List.{append_assoc}
use Rattle.ale_declared.specs.Lists.{Has, every}
use Rattle.ale_hierarchy.specs.Hierarchy.{Hierarchy, IsLawful}
use Rattle.ale_graph.specs.declared.fact.Fact.{Fact}
use Rattle.ale_graph.specs.declared.fact.Fact.TheVariants.{OfType}
use Rattle.ale_graph.specs.declared.node.Node.{Node}
use Rattle.ale_graph.specs.Structures.{Structure, IsStructure, count, type_of, value_in, value_of, is_rising, is_node, is_root}
use Rattle.ale_graph.specs.Facts.{Fits, FitsFact, HoldsFact}
use Rattle.ale_graph.specs.Morphisms.{IsMorphismAside}
use Rattle.ale_graph.proofs.Lists.{has_left, has_right, has_either, has_map, every_has}
use Rattle.ale_logic.specs.Programs.{Element}
use Rattle.ale_logic.specs.Words.{Kept, IsKept, Grammar}
use Rattle.ale_logic.specs.States.{State, grown}
use Rattle.ale_logic.specs.Putting.{value_facts, node_facts, pair_facts, graph_facts, moved, putting}
use Rattle.ale_logic.specs.Satisfaction.{Sense, Satisfies}
use Rattle.ale_logic.specs.WellFormed.{scope_of, IsState}
use Rattle.ale_extension_law.proofs.Puts.{past, value_there, put_law}
use Rattle.ale_step_law.proofs.Wider.{Wider, wider_on, fact_wider}
use Rattle.ale_step_law.proofs.Growing.{Goes, widened}
use Rattle.ale_step_law.proofs.Senses.{shift_new, with_nodes}
use Rattle.ale_step_law.proofs.Carrying.{grown_up}

-- an element of a list has a place
at_place : {A : Type 0} (d : A) (xs : List A) (x : A) → Has xs x → (j : ℕ) × (j < length xs) × (get_or xs j d ≡ x)
at_place d [] x k = absurd k
at_place d (y ∷ ys) x (inl e) = (0, omega arith, sym e)
at_place d (y ∷ ys) x (inr k) = let r = at_place d ys x k in let low = r.1 in (suc r.0, omega arith, r.2)

-- what a node of the graph tells fits
record IsFit (h : Hierarchy) (g : Structure) (x : Node) : Type 0 where
  pub type : x.of < h.types
  pub values : (v : ℕ × ℕ) → Has x.values v → (v.0 < h.features) × (v.1 < count g)

module _ (h : Hierarchy) (law : IsLawful h) (g : Structure) (str : IsStructure h g) where
  parts : (every (is_node (count g)) g.nodes ≡ true) × (every (λ (p : ℕ × ℕ). ltb p.0 (count g) && ltb p.1 (count g)) g.differ ≡ true)
  parts =
      let p = and_parts (every (is_node (count g)) g.nodes) (every (λ (p : ℕ × ℕ). ltb p.0 (count g) && ltb p.1 (count g)) g.differ && every (is_root (count g)) g.roots) str.formed in
      (p.0, (and_parts (every (λ (p : ℕ × ℕ). ltb p.0 (count g) && ltb p.1 (count g)) g.differ) (every (is_root (count g)) g.roots) p.1).0)

  node_fit : (x : Node) → Has g.nodes x → IsFit h g x
  node_fit x k =
      let place = at_place past g.nodes x k in
      let j : ℕ = place.0 in
      let node : is_node (count g) x ≡ true = every_has (is_node (count g)) g.nodes x parts.0 k in
      let both = and_parts (every (λ (v : ℕ × ℕ). ltb v.1 (count g)) x.values) (is_rising x.values) node in
      record {
        type = subst (λ (y : Node). y.of < h.types) place.2 (str.total.types j place.1);
        values = λ v there.
            let there_in : value_in x.values v.0 ≡ Some v.1 = value_there 0 h g (λ n. n) x.values both.1 v there in
            let told : value_of g j v.0 ≡ Some v.1 = subst (λ (y : Node). value_in y.values v.0 ≡ Some v.1) (sym place.2) there_in in
            let r = str.total.only j v.0 v.1 told in
            ((law.approp_inside v.0 (type_of g j) r.0 r.1).0, ltb-true v.1 (count g) (every_has (λ (v : ℕ × ℕ). ltb v.1 (count g)) x.values v both.0 there));
      }

  module _ (by top : ℕ) (inside : by + count g ≤ top) where
    values_fit : (n : ℕ) → n < count g → (vs : List (ℕ × ℕ)) → ((v : ℕ × ℕ) → Has vs v → (v.0 < h.features) × (v.1 < count g)) → Fits h (value_facts by n vs) top
    values_fit n low [] fit x k = absurd k
    values_fit n low (v ∷ vs) fit x (inl e) =
        let r = fit v (inl refl) in
        let a = r.1 in
        subst (FitsFact h top) (sym e) (omega arith, r.0, omega arith)
    values_fit n low (v ∷ vs) fit x (inr k) = values_fit n low vs (λ w there. fit w (inr there)) x k

    nodes_fit : (n : ℕ) (xs : List Node) → n + length xs ≤ count g → ((x : Node) → Has xs x → IsFit h g x) → Fits h (node_facts by n xs) top
    nodes_fit n [] le fit x k = absurd k
    nodes_fit n (y ∷ ys) le fit x k = go (nodes_fit (suc n) ys (omega (arith, le)) (λ z q. fit z (inr q)) x) (has_either (OfType (by + n) y.of ∷ value_facts by n y.values) (node_facts by (suc n) ys) x k)
      where
        low : n < count g
        low = omega (arith, le)

        go : (Has (node_facts by (suc n) ys) x → FitsFact h top x) → Has (OfType (by + n) y.of ∷ value_facts by n y.values) x ⊎ Has (node_facts by (suc n) ys) x → FitsFact h top x
        go later (inl (inl e)) = subst (FitsFact h top) (sym e) (omega (arith, low, inside), (fit y (inl refl)).type)
        go later (inl (inr there)) = values_fit n low y.values (fit y (inl refl)).values x there
        go later (inr there) = later there

    pairs_fit : (ps : List (ℕ × ℕ)) → ((p : ℕ × ℕ) → Has ps p → (p.0 < count g) × (p.1 < count g)) → Fits h (pair_facts by ps) top
    pairs_fit [] low x k = absurd k
    pairs_fit (p ∷ ps) low x (inl e) =
        let a = (low p (inl refl)).0 in
        let b = (low p (inl refl)).1 in
        subst (FitsFact h top) (sym e) (omega arith, omega arith)
    pairs_fit (p ∷ ps) low x (inr k) = pairs_fit ps (λ q there. low q (inr there)) x k

    pub graph_fits : Fits h (graph_facts by g) top
    graph_fits x k = go (has_either (node_facts by 0 g.nodes) (pair_facts by g.differ) x k)
      where
        low : (p : ℕ × ℕ) → Has g.differ p → (p.0 < count g) × (p.1 < count g)
        low p there =
            let r = and_parts (ltb p.0 (count g)) (ltb p.1 (count g)) (every_has (λ (p : ℕ × ℕ). ltb p.0 (count g) && ltb p.1 (count g)) g.differ p parts.1 there) in
            (ltb-true p.0 (count g) r.0, ltb-true p.1 (count g) r.1)

        go : Has (node_facts by 0 g.nodes) x ⊎ Has (pair_facts by g.differ) x → FitsFact h top x
        go (inl there) = nodes_fit 0 g.nodes (omega arith) node_fit x there
        go (inr there) = pairs_fit g.differ low x there

-- the state with the kept structure put there
pub goes_putting : (h : Hierarchy) (a b : State) → IsLawful h → Goes h a b → (kept : Kept) (root : ℕ) → IsKept h kept root → Goes h a (putting kept b)
goes_putting h a b law k kept root is =
    let r = widened h b (scope_of (putting kept b)) k.is w in
    record {
      is = record {
        some_node = let low = k.is.some_node in omega arith;
        facts = λ x there. facts x (has_either b.facts (graph_facts b.next kept.graph) x there);
        below = λ e v n p. let low = k.is.below e v n p in omega arith;
        items = r.items;
        rest = r.rest;
        imposed = λ n c there. imposed n c (has_either b.imposed (moved b.next kept.imposed) (n, c) there);
        said = r.said;
      };
      wider = wider_on (scope_of a) (scope_of b) (scope_of (putting kept b)) k.wider w;
      imposed = (k.imposed.0 ++ moved b.next kept.imposed, ap (λ z. z ++ moved b.next kept.imposed) k.imposed.1 ∙ append_assoc a.imposed k.imposed.0 (moved b.next kept.imposed));
      choices = k.choices;
    }
  where
    w : Wider (scope_of b) (scope_of (putting kept b))
    w = record { facts = λ x p. has_left b.facts (graph_facts b.next kept.graph) x p; next = omega arith; envs = omega arith; lengths = λ e low. refl; phrases = omega arith }

    facts : (x : Fact) → Has b.facts x ⊎ Has (graph_facts b.next kept.graph) x → FitsFact h (b.next + count kept.graph) x
    facts x (inl p) = fact_wider h b.next (b.next + count kept.graph) (omega arith) x (k.is.facts x p)
    facts x (inr p) = graph_fits h law kept.graph is.structure b.next (b.next + count kept.graph) (omega arith) x p

    imposed : (n c : ℕ) → Has b.imposed (n, c) ⊎ Has (moved b.next kept.imposed) (n, c) → n < b.next + count kept.graph
    imposed n c (inl p) = let low = k.is.imposed n c p in omega arith
    imposed n c (inr p) =
        let r = has_map (λ (p : ℕ × ℕ). (b.next + p.0, p.1)) kept.imposed (n, c) p in
        let low = is.imposed_below r.0.0 r.0.1 r.1 in
        let same : n ≡ b.next + r.0.0 = ap (λ (p : ℕ × ℕ). p.0) r.2 in
        omega (arith, low, same)

module _ (gr : Grammar) (s : Structure) (remain : List Element) where
  pub put_down : (x : Sense) (kept : Kept) (st : State) → Satisfies gr s x (putting kept st) remain → IsMorphismAside gr.signature kept.graph s (λ n. x.node (st.next + n)) × Satisfies gr s x st remain
  put_down x kept st p = (
    (put_law gr.signature s x.node st.next kept.graph).down (λ n low. p.fulfils.into (st.next + n) (omega arith)) (λ y there. p.fulfils.holds y (has_right st.facts (graph_facts st.next kept.graph) y there)),
    record {
      fulfils = record { into = λ a low. p.fulfils.into a (omega arith); holds = λ y there. p.fulfils.holds y (has_left st.facts (graph_facts st.next kept.graph) y there) };
      nodes = p.nodes;
      is_bound = p.is_bound;
      is_said = p.is_said;
      items = p.items;
    },
  )

  pub put_up : (x : Sense) (kept : Kept) (root : ℕ) (map : ℕ → ℕ) (st : State) → IsKept gr.signature kept root → IsState gr.signature st → IsMorphismAside gr.signature kept.graph s map → Satisfies gr s x st remain → Satisfies gr s (with_nodes x st.next map) (putting kept st) remain
  put_up x kept root map st k is m p = record {
    fulfils = record { into = q.fulfils.into; holds = λ f there. holds f (has_either st.facts (graph_facts st.next kept.graph) f there) };
    nodes = q.nodes;
    is_bound = q.is_bound;
    is_said = q.is_said;
    items = q.items;
  }
    where
      q : Satisfies gr s (with_nodes x st.next map) (grown (count kept.graph) st) remain
      q = grown_up gr s remain x (count kept.graph) map st is m.into p

      same : map ≡ (λ n. (with_nodes x st.next map).node (st.next + n))
      same = fun_ext (λ n. sym (shift_new x.node st.next map n))

      holds : (f : Fact) → Has st.facts f ⊎ Has (graph_facts st.next kept.graph) f → HoldsFact gr.signature s (with_nodes x st.next map).node f
      holds f (inl there) = q.fulfils.holds f there
      holds f (inr there) = (put_law gr.signature s (with_nodes x st.next map).node st.next kept.graph).up k.structure.formed (subst (IsMorphismAside gr.signature kept.graph s) same m) f there
