-- Soundness: what an item says of where its structure goes, and that what is kept of an answer of its searches says so
-- again: a passive item spans its places in an extension, an active one does as soon as the elements that remain are covered.
use Rattle.std.proofs.Common.{◌≡◌, ℕ, ◌+◌, ◌<◌, ◌≤◌, List, [], ◌∷◌, map, length, ◌⊎◌, inl, inr, refl, sym, ap, ◌∙◌, subst, arith, Some}
use Rattle.ale_declared.specs.Lists.{Has}
use Rattle.ale_hierarchy.specs.Hierarchy.{Hierarchy}
use Rattle.ale_graph.specs.Structures.{Structure, IsStructure, count}
use Rattle.ale_graph.specs.Morphisms.{IsMorphismAside}
use Rattle.ale_graph.specs.Extensions.{Extends}
use Rattle.ale_graph.specs.Closure.{node_of}
use Rattle.ale_graph.proofs.Lists.{has_either}
use Rattle.ale_logic.specs.Descriptions.{Description, HoldsAt, IsAssignment}
use Rattle.ale_logic.specs.Programs.{Word, Element, Program}
use Rattle.ale_logic.specs.Models.{MeetsAt}
use Rattle.ale_logic.specs.Words.{Environment, bound_in}
use Rattle.ale_logic.specs.Spans.{Spans, Covers}
use Rattle.ale_logic.specs.Spans.Covers.{no_more}
use Rattle.ale_logic.specs.States.{bound, State}
use Rattle.ale_logic.specs.Putting.{moved}
use Rattle.ale_logic.specs.Satisfaction.{Sense}
use Rattle.ale_logic.specs.Parts.{Extract, renamed, kept_answer}
use Rattle.ale_logic.specs.PartLaws.{IsReattached, IsPart, PartLaw}
use Rattle.ale_logic.specs.PutLaws.{PutLaws}
use Rattle.ale_logic.specs.Extending.{AddedMeet, IsSoundFor, OwesNothing}
use Rattle.ale_logic.specs.Runs.{RunLaws}
use Rattle.ale_logic.specs.Visits.{Answer}
use Rattle.ale_logic.specs.Lexicons.{wordless}
use Rattle.ale_logic.specs.Answers.{IsAccepted}
use Rattle.ale_logic.specs.Starts.{ChartItem, mother_at, own_start, daughter_start}
use Rattle.ale_logic.specs.Charts.{item_of}
use Rattle.ale_engine.proofs.Lists.{in_map}
use Rattle.ale_run_law.proofs.Rises.{rise_on}
use Rattle.ale_extension_law.proofs.Stays as stays
use Rattle.ale_extension_law.proofs.Through.{extends_through}
use Rattle.ale_chart_law.proofs.Items.{IsItem, IsStart, own_is, daughter_is, moved_has}
use Rattle.ale_chart_law.proofs.Searches.{none_left, IsFor, Back, Came, part_of, renamed_twice, renamed_same}
use Rattle.ale_chart_law.proofs.Advancing.{OwnShape, own_shape, PairShape, pair_shape, Advances, own_advances, pair_advances}
use Rattle.ale_chart_law.proofs.Results.{assign_by, assign_bound, assign_inside, Leads, own_leads, pair_leads, other_down, result_is}
use Rattle.ale_chart_law.proofs.Extensions.{extends_self, morphism_on, meets_on, added_on}

module _ (h : Hierarchy) (program : Program) (sentence : List Word) where
  -- an active item: whatever covers the elements that remain, with the mother at the root, makes the root span
  abbrev pub Pending : ChartItem → Structure → (ℕ → ℕ) → List Element → Type 0
  Pending x t to rest =
      (u : Structure) → Extends h t u → (assign : ℕ → ℕ) → IsAssignment u assign → ((v n : ℕ) → bound_in x.kept.env v ≡ Some n → assign v ≡ to n) → (d : Description) → mother_at program.rules x.rule ≡ Some d → HoldsAt h u assign d (to x.root) →
      (k : ℕ) → Covers h program u sentence assign (map (renamed to) rest) x.to k → Spans h program u sentence (to x.root) x.from k

  -- what an item says of a structure into which it goes
  abbrev pub Says : ChartItem → Structure → (ℕ → ℕ) → List Element → Type 0
  Says x t to [] = Spans h program t sentence (to x.root) x.from x.to
  Says x t to (e ∷ es) = Pending x t to (e ∷ es)

  -- in an extension, in which what was imposed is met
  pub record Rises (x : ChartItem) (s : Structure) (to : ℕ → ℕ) : Type 0 where
    pub larger : Structure
    pub extends : Extends h s larger
    pub added : AddedMeet h program s larger
    pub imposed : (n k : ℕ) → Has x.kept.imposed (n, k) → MeetsAt h program larger k (to n)
    pub says : Says x larger to x.rest

  pub record IsGood (x : ChartItem) : Type 0 where
    pub item : IsItem h program x
    pub ordered : x.from ≤ x.to
    pub place : x.to ≤ length sentence
    pub owes : x.rest ≡ [] → OwesNothing h program x.kept
    pub rises : (s : Structure) (to : ℕ → ℕ) → IsStructure h s → IsMorphismAside h x.kept.graph s to → Rises x s to

module _ (h : Hierarchy) (program : Program) (ok : IsAccepted h program) (runs : RunLaws) (puts : PutLaws) (extract : Extract) (part : PartLaw h program extract) (sentence : List Word) where
  -- where the answer's graph goes: an extension in which all that was imposed at the start is met, and what the items say
  pub record Grounded (x : ChartItem) (e : Element) (es : List Element) (st : State) (a : Answer) (to : ℕ) (s : Structure) (f : ℕ → ℕ) : Type 0 where
    pub larger : Structure
    pub extends : Extends h s larger
    pub added : AddedMeet h program s larger
    pub imposed : (n k : ℕ) → Has st.imposed (n, k) → MeetsAt h program larger k (f (node_of a.closed n))
    pub pending : Pending h program sentence x larger (λ n. f (node_of a.closed n)) (e ∷ es)
    pub advances : (u : Structure) (str : IsStructure h u) → Extends h larger u → (assign : ℕ → ℕ) (b : Back h program ok runs st a u f assign) → Advances h program u str b.sense x sentence e es to a.state.rest

  module _ (x : ChartItem) (it : IsItem h program x) (e : Element) (es : List Element) (st : State) (start : IsStart h x st) (a : Answer) (r : Came h program ok runs st a) (to : ℕ) where
    low : x.root < st.next
    low = let far = start.far in let root = it.is.root_below in omega arith

    abbrev z : ChartItem
    z = item_of x.from to x.rule (extract x.root a)

    p : IsPart h program x.root a (extract x.root a)
    p = part_of h program ok runs extract part st a r.is x.root low

    inside : (n : ℕ) → n < a.state.next → node_of a.closed n < count a.closed.graph
    inside n less = let longer = r.is.longer in r.is.nodes n (omega arith)

    root_low : node_of a.closed x.root < count a.closed.graph
    root_low = let next = r.is.next in inside x.root (omega arith)

    -- the item's environment is the first one of the start
    first_bound : (s : Structure) (f assign : ℕ → ℕ) (b : Back h program ok runs st a s f assign) (v n : ℕ) → bound_in x.kept.env v ≡ Some n → b.sense.var 0 v ≡ b.sense.node n
    first_bound s f assign b v n q = b.satisfies.is_bound 0 v n (subst (λ (w : List Environment). bound w 0 v ≡ Some n) (sym start.envs) q)

    -- what is covered by what remains, with the mother, makes the root span
    pended : (s : Structure) (f : ℕ → ℕ) (g : Grounded x e es st a to s f) (u : Structure) (str : IsStructure h u) → Extends h g.larger u → (assign : ℕ → ℕ) (b : Back h program ok runs st a u f assign) → (d : Description) → mother_at program.rules x.rule ≡ Some d →
        HoldsAt h u (b.sense.var 0) d (b.sense.node x.root) → (k : ℕ) → Covers h program u sentence (b.sense.var 0) (map (renamed b.sense.node) a.state.rest) to k → Spans h program u sentence (f (node_of a.closed x.root)) x.from k
    pended s f g u str ext assign b d number holds_d k covers =
        let pending : Pending h program sentence x g.larger b.sense.node (e ∷ es) = subst (λ w. Pending h program sentence x g.larger w (e ∷ es)) (sym b.node) g.pending in
        subst (λ n. Spans h program u sentence n x.from k) (ap (λ w. w x.root) b.node)
        (pending u ext (b.sense.var 0) (λ v. b.satisfies.nodes 0 v) (first_bound u f assign b) d number holds_d k ((g.advances u str ext assign b).covers k covers))

    result_rises : (mother : Description) → mother_at program.rules x.rule ≡ Some mother → ((s : Structure) (f : ℕ → ℕ) → IsStructure h s → IsMorphismAside h a.closed.graph s f → Grounded x e es st a to s f) → (s : Structure) (f : ℕ → ℕ) → IsStructure h s → IsMorphismAside h (extract x.root a).kept.graph s f → Rises h program sentence z s f
    result_rises mother number grounded s f str mor = record {
      larger = g.larger;
      extends = extends_through h s back.larger g.larger back.extends g.extends;
      added = sound.added;
      imposed = sound.imposed;
      says = says (extract x.root a).rest refl;
    }
      where
        back : IsReattached h a (extract x.root a) s f
        back = p.reattached s f str mor

        g : Grounded x e es st a to back.larger back.map
        g = grounded back.larger back.map back.extends.larger back.is

        whole_goes : IsMorphismAside h a.closed.graph g.larger back.map
        whole_goes = morphism_on h a.closed.graph back.larger g.larger back.map g.extends back.is

        free : ℕ
        free = back.map (node_of a.closed x.root)

        here : Back h program ok runs st a g.larger back.map (assign_by a back.map (back.map (node_of a.closed x.root)))
        here = r.back g.larger back.map g.extends.larger whole_goes (assign_by a back.map (back.map (node_of a.closed x.root)))
            (assign_inside a g.larger back.map (back.map (node_of a.closed x.root)) (whole_goes.into (node_of a.closed x.root) root_low) (λ v n b. whole_goes.into (node_of a.closed n) (inside n (r.is.is.below 0 v n b))))
            (assign_bound a back.map (back.map (node_of a.closed x.root)))

        met : (n k : ℕ) → Has a.state.imposed (n, k) → MeetsAt h program g.larger k (back.map (node_of a.closed n))
        met n k has = go (here.accounted n k has)
          where
            go : Has st.imposed (n, k) ⊎ MeetsAt h program g.larger k (back.map (node_of a.closed n)) → MeetsAt h program g.larger k (back.map (node_of a.closed n))
            go (inl given) = g.imposed n k given
            go (inr done) = done

        sound : IsSoundFor h program (extract x.root a).kept s g.larger f
        sound = rise_on (wordless h program) ok.lawful x.root a (extract x.root a) r.is.structure p r.is.all_imposed s f back g.larger g.extends g.added met

        root_goes : back.map (node_of a.closed x.root) ≡ f (extract x.root a).root
        root_goes = ap back.map (sym p.root_is) ∙ back.agrees (extract x.root a).root p.is.root_below

        -- the elements that remain are those of the answer, where they go
        elements : (w : Sense) → w.node ≡ (λ n. back.map (node_of a.closed n)) → map (renamed f) (extract x.root a).rest ≡ map (renamed w.node) a.state.rest
        elements w node =
            renamed_same f (λ n. back.map ((extract x.root a).whole n)) (count (extract x.root a).kept.graph) (λ k less. sym (back.agrees k less)) (extract x.root a).rest p.rest_below
            ∙ sym (renamed_twice (extract x.root a).whole back.map (extract x.root a).rest)
            ∙ ap (λ ds. map (renamed back.map) ds) (sym p.rest)
            ∙ renamed_twice (node_of a.closed) back.map a.state.rest
            ∙ ap (λ w. map (renamed w) a.state.rest) (sym node)

        pends : (d : Element) (ds : List Element) → (extract x.root a).rest ≡ d ∷ ds → Pending h program sentence z g.larger f (d ∷ ds)
        pends d ds q u ext assign within agrees m is holds_m k covers =
            subst (λ n. Spans h program u sentence n x.from k) root_goes
            (pended back.larger back.map g u ext.larger ext assign there m is
            (subst (λ w. HoldsAt h u w m (there.sense.node x.root)) (sym there.var) (subst (λ n. HoldsAt h u assign m n) (sym root_goes ∙ sym (ap (λ w. w x.root) there.node)) holds_m))
            k
            (subst (λ w. Covers h program u sentence w (map (renamed there.sense.node) a.state.rest) to k) (sym there.var)
            (subst (λ ds. Covers h program u sentence assign ds to k) (ap (λ ds. map (renamed f) ds) (sym q) ∙ elements there.sense there.node) covers)))
          where
            for_all : IsFor h program ok runs a u back.map assign
            for_all v n b =
                let w = p.env_whole d ds q v n b in
                agrees v w.0 w.1 ∙ sym (back.agrees w.0 (p.is.env_below v w.0 w.1)) ∙ ap back.map w.2

            there : Back h program ok runs st a u back.map assign
            there = r.back u back.map ext.larger (morphism_on h a.closed.graph g.larger u back.map ext whole_goes) assign within for_all

        says : (ds : List Element) → (extract x.root a).rest ≡ ds → Says h program sentence z g.larger f ds
        says [] q =
            let none : a.state.rest ≡ [] = none_left (node_of a.closed) a.state.rest (p.rest ∙ ap (λ ds. map (renamed (extract x.root a).whole) ds) q) in
            subst (λ n. Spans h program g.larger sentence n x.from to) root_goes
            (pended back.larger back.map g g.larger g.extends.larger (extends_self h g.larger g.extends.larger) (assign_by a back.map (back.map (node_of a.closed x.root))) here mother number
            ((g.advances g.larger g.extends.larger (extends_self h g.larger g.extends.larger) (assign_by a back.map (back.map (node_of a.closed x.root))) here).mother mother number none)
            to (subst (λ ds. Covers h program g.larger sentence (here.sense.var 0) (map (renamed here.sense.node) ds) to to) (sym none) (no_more (here.sense.var 0) to)))
        says (d ∷ ds) q = pends d ds q

  -- what an own search of an item gives is good, and what one with a daughter gives
  module _ (x : ChartItem) (good : IsGood h program sentence x) (e : Element) (es : List Element) (eq : x.rest ≡ e ∷ es) where
    result_good : (st : State) (start : IsStart h x st) → Leads h program ok puts x es st → (a : Answer) (r : Came h program ok runs st a) (to : ℕ) → x.to ≤ to → to ≤ length sentence →
        ((s : Structure) (f : ℕ → ℕ) → IsStructure h s → IsMorphismAside h a.closed.graph s f → Grounded x e es st a to s f) → IsGood h program sentence (item_of x.from to x.rule (extract x.root a))
    result_good st start leads a r to after place grounded = record {
      item = result_is h program ok puts runs extract part x good.item e es eq st start leads a r to;
      ordered = let before = good.ordered in omega arith;
      place = place;
      owes = λ none. is.owes owes_all;
      rises = result_rises x good.item e es st start a r to (good.item.active e es eq).mother (good.item.active e es eq).number grounded;
    }
      where
        is : IsPart h program x.root a (extract x.root a)
        is = part_of h program ok runs extract part st a r.is x.root (let far = start.far in let root = good.item.is.root_below in omega arith)

        owes_all : OwesNothing h program (kept_answer a)
        owes_all n k c low at above =
            let i = r.is.all_imposed n k c low at above in
            subst (λ m. Has {A = ℕ × ℕ} (map (λ (w : ℕ × ℕ). (node_of a.closed w.0, w.1)) a.state.imposed) (m, k)) i.2 (in_map (λ (w : ℕ × ℕ). (node_of a.closed w.0, w.1)) a.state.imposed (i.0, k) i.1)

    -- where the answer's graph goes, the item's structure goes
    goes_first : (st : State) (start : IsStart h x st) → Leads h program ok puts x es st → (a : Answer) (r : Came h program ok runs st a) → (s : Structure) (f : ℕ → ℕ) → IsStructure h s → IsMorphismAside h a.closed.graph s f →
        Back h program ok runs st a s f (assign_by a f (f (node_of a.closed x.root)))
    goes_first st start leads a r s f str mor =
        r.back s f str mor (assign_by a f (f (node_of a.closed x.root)))
        (assign_inside a s f (f (node_of a.closed x.root)) (mor.into (node_of a.closed x.root) (inside_all x.root (let far = start.far in let root = good.item.is.root_below in omega arith)))
        (λ v n b. mor.into (node_of a.closed n) (let low = r.is.is.below 0 v n b in let longer = r.is.longer in r.is.nodes n (omega arith))))
        (assign_bound a f (f (node_of a.closed x.root)))
      where
        inside_all : (n : ℕ) → n < st.next → node_of a.closed n < count a.closed.graph
        inside_all n low = let next = r.is.next in let longer = r.is.longer in r.is.nodes n (omega arith)

    pub own_good : (st : State) → Has (own_start program x e es) st → (a : Answer) → Came h program ok runs st a → IsGood h program sentence (item_of x.from x.to x.rule (extract x.root a))
    own_good st has a r = result_good st start leads a r x.to (omega arith) good.place grounded
      where
        start : IsStart h x st
        start = own_is h program ok.lawful x good.item e es eq st has

        leads : Leads h program ok puts x es st
        leads = own_leads h program ok puts x e es st has

        shape : OwnShape x st
        shape = own_shape program x e es st has

        grounded : (s : Structure) (f : ℕ → ℕ) → IsStructure h s → IsMorphismAside h a.closed.graph s f → Grounded x e es st a x.to s f
        grounded s f str mor = record {
          larger = first.larger;
          extends = first.extends;
          added = first.added;
          imposed = λ n k given. pair n k (moved_has 0 x.kept.imposed n k (subst (λ w. Has w (n, k)) shape.imposed given));
          pending = subst (Says h program sentence x first.larger (λ n. f (node_of a.closed n))) eq first.says;
          advances = λ u u_str ext assign b. own_advances h program u u_str b.sense x sentence e es a.state.rest st (leads.down u b.sense a.state.rest u_str b.satisfies) has b.satisfies;
        }
          where
            b : Back h program ok runs st a s f (assign_by a f (f (node_of a.closed x.root)))
            b = goes_first st start leads a r s f str mor

            first : Rises h program sentence x s (λ n. f (node_of a.closed n))
            first = good.rises s (λ n. f (node_of a.closed n)) str (subst (IsMorphismAside h x.kept.graph s) b.node (leads.down s b.sense a.state.rest str b.satisfies))

            pair : (n k : ℕ) → (m : ℕ) × Has x.kept.imposed (m, k) × (n ≡ 0 + m) → MeetsAt h program first.larger k (f (node_of a.closed n))
            pair n k (m, given, is) = let same : m ≡ n = omega arith in subst (λ w. MeetsAt h program first.larger k (f (node_of a.closed w))) same (first.imposed m k given)

    pub pair_good : (y : ChartItem) → IsGood h program sentence y → y.rest ≡ [] → y.from ≡ x.to → (st : State) → Has (daughter_start program x e es y) st → (a : Answer) → Came h program ok runs st a → IsGood h program sentence (item_of x.from y.to x.rule (extract x.root a))
    pair_good y other passive begins st has a r = result_good st start leads a r y.to (let after = other.ordered in omega arith) other.place grounded
      where
        start : IsStart h x st
        start = daughter_is h program ok.lawful x good.item e es eq y other.item st has

        leads : Leads h program ok puts x es st
        leads = pair_leads h program ok puts x y e es st has

        shape : PairShape x y st
        shape = pair_shape program x e es y st has

        grounded : (s : Structure) (f : ℕ → ℕ) → IsStructure h s → IsMorphismAside h a.closed.graph s f → Grounded x e es st a y.to s f
        grounded s f str mor = record {
          larger = second.larger;
          extends = extends_through h s first.larger second.larger first.extends second.extends;
          added = added_on h program first.larger second.larger second.extends s first.added second.added;
          imposed = λ n k given. pair n k (has_either (moved 0 x.kept.imposed) (moved (0 + count x.kept.graph) y.kept.imposed) (n, k) (subst (λ w. Has w (n, k)) shape.imposed given));
          pending = λ u ext. (subst (Says h program sentence x first.larger (λ n. f (node_of a.closed n))) eq first.says) u (extends_through h first.larger second.larger u second.extends ext);
          advances = λ u u_str ext assign back. pair_advances h program u u_str back.sense x sentence e es a.state.rest y st (leads.down u back.sense a.state.rest u_str back.satisfies) begins
              (subst (λ w. Spans h program u sentence (w ((0 + count x.kept.graph) + y.root)) y.from y.to) (sym back.node) ((stays.stays_law h program second.larger u ext).spans sentence (f (node_of a.closed ((0 + count x.kept.graph) + y.root))) y.from y.to spans))
              has back.satisfies;
        }
          where
            b : Back h program ok runs st a s f (assign_by a f (f (node_of a.closed x.root)))
            b = goes_first st start leads a r s f str mor

            x_goes : IsMorphismAside h x.kept.graph s (λ n. f (node_of a.closed n))
            x_goes = subst (IsMorphismAside h x.kept.graph s) b.node (leads.down s b.sense a.state.rest str b.satisfies)

            first : Rises h program sentence x s (λ n. f (node_of a.closed n))
            first = good.rises s (λ n. f (node_of a.closed n)) str x_goes

            y_goes : IsMorphismAside h y.kept.graph first.larger (λ n. f (node_of a.closed ((0 + count x.kept.graph) + n)))
            y_goes = morphism_on h y.kept.graph s first.larger (λ n. f (node_of a.closed ((0 + count x.kept.graph) + n))) first.extends
                (subst (λ (w : ℕ → ℕ). IsMorphismAside h y.kept.graph s (λ n. w ((0 + count x.kept.graph) + n))) b.node (other_down h program ok puts x y st shape s b.sense a.state.rest b.satisfies))

            second : Rises h program sentence y first.larger (λ n. f (node_of a.closed ((0 + count x.kept.graph) + n)))
            second = other.rises first.larger (λ n. f (node_of a.closed ((0 + count x.kept.graph) + n))) first.extends.larger y_goes

            spans : Spans h program second.larger sentence (f (node_of a.closed ((0 + count x.kept.graph) + y.root))) y.from y.to
            spans = subst (Says h program sentence y second.larger (λ n. f (node_of a.closed ((0 + count x.kept.graph) + n)))) passive second.says

            pair : (n k : ℕ) → Has (moved 0 x.kept.imposed) (n, k) ⊎ Has (moved (0 + count x.kept.graph) y.kept.imposed) (n, k) → MeetsAt h program second.larger k (f (node_of a.closed n))
            pair n k (inl given) = of (moved_has 0 x.kept.imposed n k given)
              where
                of : (m : ℕ) × Has x.kept.imposed (m, k) × (n ≡ 0 + m) → MeetsAt h program second.larger k (f (node_of a.closed n))
                of (m, at, is) =
                    let same : m ≡ n = omega arith in
                    let inner : f (node_of a.closed m) < count first.larger = stays.within h s first.larger first.extends (f (node_of a.closed m)) (x_goes.into m (good.item.is.imposed_below m k at)) in
                    subst (λ w. MeetsAt h program second.larger k (f (node_of a.closed w))) same (meets_on h program first.larger second.larger second.extends k (f (node_of a.closed m)) inner (first.imposed m k at))
            pair n k (inr given) = of (moved_has (0 + count x.kept.graph) y.kept.imposed n k given)
              where
                of : (m : ℕ) × Has y.kept.imposed (m, k) × (n ≡ (0 + count x.kept.graph) + m) → MeetsAt h program second.larger k (f (node_of a.closed n))
                of (m, at, is) = subst (λ w. MeetsAt h program second.larger k (f (node_of a.closed w))) (sym is) (second.imposed m k at)
