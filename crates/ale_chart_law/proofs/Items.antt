-- What the items of a chart are, and that each start of an item's own search, and of one with another item, is a state.
use Rattle.std.proofs.Common.{◌≡◌, ℕ, zero, suc, ◌+◌, ◌<◌, ◌≤◌, IsTrue, List, [], ◌∷◌, ◌++◌, length, ◌⊎◌, inl, inr, refl, sym, ap, subst, arith, Option, Some, None}
use Rattle.ale_declared.specs.Lists.{Has}
use Rattle.ale_hierarchy.specs.Hierarchy.{Hierarchy, IsLawful}
use Rattle.ale_graph.specs.declared.fact.Fact.{Fact}
use Rattle.ale_graph.specs.declared.fact.Fact.TheVariants.{Same}
use Rattle.ale_graph.specs.Structures.{Structure, count, is_formed}
use Rattle.ale_graph.specs.Facts.{Fits, FitsFact}
use Rattle.ale_graph.proofs.Lists.{has_either, has_map, some_one, none_some}
use Rattle.ale_graph.proofs.Structures.{value_inside}
use Rattle.ale_logic.specs.Descriptions.{Description, FitsDescription}
use Rattle.ale_logic.specs.Goals.{FitsGoal}
use Rattle.ale_logic.specs.Programs.{Element, cat, cats, derived, sem_head, member, tail, ListTypes, Program}
use Rattle.ale_logic.specs.Fitting.{IsPlainElement}
use Rattle.ale_logic.specs.ListNodes.{hd_of, tl_of}
use Rattle.ale_logic.specs.Words.{Environment, bound_in, Kept, IsKept}
use Rattle.ale_logic.specs.States.{holds, Item, on, derive, split, State, doing}
use Rattle.ale_logic.specs.Putting.{graph_facts, moved}
use Rattle.ale_logic.specs.Starts.{ChartItem, mother_at, at_node, end_of, end_items, split_at, own_start, side_by_side, root_beside, same_as, daughter_start}
use Rattle.ale_logic.specs.WellFormed.{Scope, FitsEnd, FitItems, IsBelow, FitsRest, IsState, ArePlainItems, AreQuietItems}
use Rattle.ale_logic.specs.PartLaws.{AreElementsBelow, IsElementBelow}
use Rattle.ale_step_law.proofs.PutFits.{graph_fits}

-- an element that remains, with so many slots, and in a structure with so many nodes
abbrev pub FitsLeft : Hierarchy → ℕ → ℕ → Element → Type 0
FitsLeft h slots n (cat d) = FitsDescription h slots d
FitsLeft h slots n (cats d) = FitsDescription h slots d
FitsLeft h slots n (sem_head d) = FitsDescription h slots d
FitsLeft h slots n (derived g) = FitsGoal h slots g
FitsLeft h slots n (member m) = m < n
FitsLeft h slots n (tail m) = m < n

-- the first member, or the list of the others, of the node that the element names is there
abbrev pub IsThere : Program → Structure → Element → Type 0
IsThere program g (member n) = (m : ℕ) × (hd_of program.lists g n ≡ Some m)
IsThere program g (tail n) = (m : ℕ) × (tl_of program.lists g n ≡ Some m)
IsThere program g (cat d) = Unit {0}
IsThere program g (cats d) = Unit {0}
IsThere program g (sem_head d) = Unit {0}
IsThere program g (derived goal) = Unit {0}

pub record IsLeft (h : Hierarchy) (program : Program) (kept : Kept) (e : Element) : Type 0 where
  pub fits : FitsLeft h (length kept.env) (count kept.graph) e
  pub plain : IsPlainElement e
  pub there : IsThere program kept.graph e

-- an item of which elements remain
pub record IsActive (h : Hierarchy) (program : Program) (x : ChartItem) : Type 0 where
  pub mother : Description
  pub number : mother_at program.rules x.rule ≡ Some mother
  pub mother_fits : FitsDescription h (length x.kept.env) mother
  pub left : (e : Element) → Has x.rest e → IsLeft h program x.kept e

pub record IsItem (h : Hierarchy) (program : Program) (x : ChartItem) : Type 0 where
  pub is : IsKept h x.kept x.root
  pub active : (e : Element) (es : List Element) → x.rest ≡ e ∷ es → IsActive h program x

left_below : (h : Hierarchy) (slots n : ℕ) (e : Element) → FitsLeft h slots n e → IsElementBelow n e
left_below h slots n (cat d) fit = tt
left_below h slots n (cats d) fit = tt
left_below h slots n (sem_head d) fit = tt
left_below h slots n (derived g) fit = tt
left_below h slots n (member m) fit = fit
left_below h slots n (tail m) fit = fit

-- the nodes that its elements name are its own
pub rest_below : (h : Hierarchy) (program : Program) (x : ChartItem) → IsItem h program x → AreElementsBelow (count x.kept.graph) x.rest
rest_below h program x it = go x.rest refl
  where
    go : (es : List Element) → x.rest ≡ es → AreElementsBelow (count x.kept.graph) es
    go [] eq e has = absurd has
    go (d ∷ ds) eq e has = left_below h (length x.kept.env) (count x.kept.graph) e ((it.active d ds eq).left e (subst (λ z. Has z e) (sym eq) has)).fits

-- a state over the structure of an item, whose search it is; and inside the fragment
pub record IsBegun (h : Hierarchy) (x : ChartItem) (st : State) : Type 0 where
  pub is : IsState h st
  pub quiet : AreQuietItems st.agenda
  pub envs : st.envs ≡ x.kept.env ∷ []
  pub said : st.said ≡ []
  pub far : count x.kept.graph ≤ st.next
  pub phrases : st.phrases ≡ 0

pub record IsStart (h : Hierarchy) (x : ChartItem) (st : State) : Type 0 where
  pub is : IsState h st
  pub plain : ArePlainItems st.agenda
  pub quiet : AreQuietItems st.agenda
  pub envs : st.envs ≡ x.kept.env ∷ []
  pub said : st.said ≡ []
  pub far : count x.kept.graph ≤ st.next

pub fits_both : (h : Hierarchy) (xs ys : List Fact) (next : ℕ) → Fits h xs next → Fits h ys next → Fits h (xs ++ ys) next
fits_both h xs ys next one two x has = go (has_either xs ys x has)
  where
    go : Has xs x ⊎ Has ys x → FitsFact h next x
    go (inl p) = one x p
    go (inr p) = two x p

pub moved_has : (by : ℕ) (ps : List (ℕ × ℕ)) (n k : ℕ) → Has (moved by ps) (n, k) → (m : ℕ) × Has ps (m, k) × (n ≡ by + m)
moved_has by ps n k has =
    let r = has_map (λ (p : ℕ × ℕ). (by + p.0, p.1)) ps (n, k) has in
    let second : r.0.1 ≡ k = sym (ap (λ (z : ℕ × ℕ). z.1) r.2) in
    (r.0.0, subst (λ z. Has ps (r.0.0, z)) second r.1, ap (λ (z : ℕ × ℕ). z.0) r.2)

-- with one environment, variables are bound in it
pub one_below : (next : ℕ) (env : Environment) → ((v n : ℕ) → bound_in env v ≡ Some n → n < next) → IsBelow next (env ∷ [])
one_below next env low zero v n e = low v n e
one_below next env low (suc k) v n e = absurd (none_some e)

-- the values of a list node are nodes
pub hd_below : (s : Structure) → IsTrue (is_formed s) → (o : Option ListTypes) (n m : ℕ) → hd_of o s n ≡ Some m → m < count s
hd_below s formed None n m e = absurd (none_some e)
hd_below s formed (Some l) n m e = value_inside s formed n l.hd m e

pub tl_below : (s : Structure) → IsTrue (is_formed s) → (o : Option ListTypes) (n m : ℕ) → tl_of o s n ≡ Some m → m < count s
tl_below s formed None n m e = absurd (none_some e)
tl_below s formed (Some l) n m e = value_inside s formed n l.tl m e

-- What all starts have in common: one environment, and elements that remain.
module _ (h : Hierarchy) (law : IsLawful h) (x : ChartItem) (kept : IsKept h x.kept x.root) (es : List Element) (later : (d : Element) → Has es d → FitsLeft h (length x.kept.env) (count x.kept.graph) d) where
  abbrev scope_in : List Fact → ℕ → Scope
  scope_in facts next = record { facts = facts; next = next; envs = x.kept.env ∷ []; phrases = 0 }

  rest_fits : (facts : List Fact) (next : ℕ) → count x.kept.graph ≤ next → (d : Element) → FitsLeft h (length x.kept.env) (count x.kept.graph) d → FitsRest h (scope_in facts next) d
  rest_fits facts next far (cat d) fit = (omega arith, fit)
  rest_fits facts next far (cats d) fit = (omega arith, fit)
  rest_fits facts next far (sem_head d) fit = (omega arith, fit)
  rest_fits facts next far (derived g) fit = (omega arith, fit)
  rest_fits facts next far (member n) fit = omega arith
  rest_fits facts next far (tail n) fit = omega arith

  starts : (facts : List Fact) (next : ℕ) (imposed : List (ℕ × ℕ)) (agenda : List Item) → count x.kept.graph ≤ next → Fits h facts next → ((n k : ℕ) → Has imposed (n, k) → n < next) → FitItems h (scope_in facts next) agenda → AreQuietItems agenda →
      IsBegun h x (record { facts = facts; next = next; imposed = imposed; envs = x.kept.env ∷ []; phrases = 0; said = []; choices = []; agenda = agenda; rest = es })
  starts facts next imposed agenda far facts_fit pairs items quiet =
      let some = kept.root_below in
      record {
        is = record {
          some_node = omega arith;
          facts = facts_fit;
          below = one_below next x.kept.env (λ v n b. let low = kept.env_below v n b in omega arith);
          items = items;
          rest = λ d has. rest_fits facts next far d (later d has);
          imposed = pairs;
          said = λ g ps has. absurd has;
        };
        quiet = quiet;
        envs = refl;
        said = refl;
        far = far;
        phrases = refl;
      }

  pairs_low : (next : ℕ) → count x.kept.graph ≤ next → (n k : ℕ) → Has (moved 0 x.kept.imposed) (n, k) → n < next
  pairs_low next far n k has =
      let r = moved_has 0 x.kept.imposed n k has in
      let low = kept.imposed_below r.0 k r.1 in
      let is = r.2 in
      omega arith

  -- the start of a search of the item's own
  pub own_one : (next : ℕ) (agenda : List Item) → count x.kept.graph ≤ next → FitItems h (scope_in (graph_facts 0 x.kept.graph) next) agenda → AreQuietItems agenda →
      IsBegun h x (record { facts = graph_facts 0 x.kept.graph; next = next; imposed = moved 0 x.kept.imposed; envs = x.kept.env ∷ []; phrases = 0; said = []; choices = []; agenda = agenda; rest = es })
  own_one next agenda far items quiet =
      starts (graph_facts 0 x.kept.graph) next (moved 0 x.kept.imposed) agenda far (graph_fits h law x.kept.graph kept.structure 0 next (omega arith)) (pairs_low next far) items quiet

  -- the start of a search with another item
  pub both_fit : (y : ChartItem) → IsKept h y.kept y.root → Fits h (graph_facts 0 x.kept.graph ++ graph_facts (0 + count x.kept.graph) y.kept.graph) ((0 + count x.kept.graph) + count y.kept.graph)
  both_fit y other =
      let next : ℕ = (0 + count x.kept.graph) + count y.kept.graph in
      fits_both h (graph_facts 0 x.kept.graph) (graph_facts (0 + count x.kept.graph) y.kept.graph) next (graph_fits h law x.kept.graph kept.structure 0 next (omega arith)) (graph_fits h law y.kept.graph other.structure (0 + count x.kept.graph) next (omega arith))

  pub beside_one : (y : ChartItem) → IsKept h y.kept y.root → (facts : List Fact) (agenda : List Item) → Fits h facts ((0 + count x.kept.graph) + count y.kept.graph) →
      FitItems h (scope_in facts ((0 + count x.kept.graph) + count y.kept.graph)) agenda → AreQuietItems agenda →
      IsBegun h x (record { facts = facts; next = (0 + count x.kept.graph) + count y.kept.graph; imposed = moved 0 x.kept.imposed ++ moved (0 + count x.kept.graph) y.kept.imposed; envs = x.kept.env ∷ []; phrases = 0; said = []; choices = []; agenda = agenda; rest = es })
  beside_one y other facts agenda facts_fit items quiet =
      starts facts ((0 + count x.kept.graph) + count y.kept.graph) (moved 0 x.kept.imposed ++ moved (0 + count x.kept.graph) y.kept.imposed) agenda (omega arith) facts_fit
      (λ n k has. go n k (has_either (moved 0 x.kept.imposed) (moved (0 + count x.kept.graph) y.kept.imposed) (n, k) has)) items quiet
    where
      go : (n k : ℕ) → Has (moved 0 x.kept.imposed) (n, k) ⊎ Has (moved (0 + count x.kept.graph) y.kept.imposed) (n, k) → n < (0 + count x.kept.graph) + count y.kept.graph
      go n k (inl p) = pairs_low ((0 + count x.kept.graph) + count y.kept.graph) (omega arith) n k p
      go n k (inr p) =
          let r = moved_has (0 + count x.kept.graph) y.kept.imposed n k p in
          let low = other.imposed_below r.0 k r.1 in
          let is = r.2 in
          omega arith

module _ (h : Hierarchy) (program : Program) (law : IsLawful h) (x : ChartItem) (kept : IsKept h x.kept x.root) (mother : Description) (number : mother_at program.rules x.rule ≡ Some mother) (mother_fits : FitsDescription h (length x.kept.env) mother) (e : Element) (es : List Element) (fits : (d : Element) → Has (e ∷ es) d → FitsLeft h (length x.kept.env) (count x.kept.graph) d) where
  abbrev scope : List Fact → ℕ → Scope
  scope facts next = record { facts = facts; next = next; envs = x.kept.env ∷ []; phrases = 0 }

  end_fits : (facts : List Fact) (next : ℕ) → count x.kept.graph ≤ next → (rest : List Element) → FitsEnd h (scope facts next) (end_of program x rest)
  end_fits facts next far [] = go (mother_at program.rules x.rule) number
    where
      go : (o : Option Description) → o ≡ Some mother → FitsEnd h (scope facts next) (at_node x.root o)
      go None p = absurd (none_some p)
      go (Some d) p =
          let low = kept.root_below in
          (omega arith, (omega arith, subst (FitsDescription h (length x.kept.env)) (sym (some_one p)) mother_fits))
  end_fits facts next far (d ∷ ds) = tt

  items_end : (facts : List Fact) (next : ℕ) (o : Option (ℕ × Description)) → FitsEnd h (scope facts next) o → FitItems h (scope facts next) (end_items o ++ [])
  items_end facts next None fit = tt
  items_end facts next (Some end) fit = (fit, tt)

  quiet_end : (o : Option (ℕ × Description)) → AreQuietItems (end_items o ++ [])
  quiet_end None = tt
  quiet_end (Some end) = (tt, tt)

  pub own_begun : (st : State) → Has (own_start program x e es) st → IsBegun h x st
  own_begun st = go e (fits e (inl refl))
    where
      go : (d : Element) → FitsLeft h (length x.kept.env) (count x.kept.graph) d → Has (own_start program x d es) st → IsBegun h x st
      go (derived goal) left (inl p) =
          let next : ℕ = 0 + count x.kept.graph in
          let facts : List Fact = graph_facts 0 x.kept.graph in
          subst (IsBegun h x) (sym p) (own_one h law x kept es (λ k q. fits k (inr q)) next (derive 0 0 goal ∷ (end_items (end_of program x es) ++ [])) (omega arith)
          ((omega arith, left), items_end facts next (end_of program x es) (end_fits facts next (omega arith) es)) (tt, quiet_end (end_of program x es)))
      go (derived goal) left (inr p) = absurd p
      go (cats d) left (inl p) =
          let next : ℕ = (0 + count x.kept.graph) + 1 in
          let facts : List Fact = graph_facts 0 x.kept.graph in
          let node : ℕ = 0 + count x.kept.graph in
          subst (IsBegun h x) (sym p) (own_one h law x kept es (λ k q. fits k (inr q)) next (on node (holds 0 d) ∷ split node (end_of program x es) ∷ []) (omega arith)
          ((omega arith, (omega arith, left)), ((omega arith, end_fits facts next (omega arith) es), tt)) (tt, (tt, tt)))
      go (cats d) left (inr p) = absurd p
      go (tail n) left has = of (tl_of program.lists x.kept.graph n) refl has
        where
          of : (o : Option ℕ) → tl_of program.lists x.kept.graph n ≡ o → Has (split_at program x es o) st → IsBegun h x st
          of None q has = absurd has
          of (Some m) q (inl p) =
              let next : ℕ = 0 + count x.kept.graph in
              let facts : List Fact = graph_facts 0 x.kept.graph in
              let low : m < count x.kept.graph = tl_below x.kept.graph kept.structure.formed program.lists n m q in
              subst (IsBegun h x) (sym p) (own_one h law x kept es (λ k q. fits k (inr q)) next (split m (end_of program x es) ∷ []) (omega arith) ((omega arith, end_fits facts next (omega arith) es), tt) (tt, tt))
          of (Some m) q (inr p) = absurd p
      go (cat d) left has = absurd has
      go (sem_head d) left has = absurd has
      go (member n) left has = absurd has

  pub daughter_begun : (y : ChartItem) → IsKept h y.kept y.root → (st : State) → Has (daughter_start program x e es y) st → IsBegun h x st
  daughter_begun y other st = go e (fits e (inl refl))
    where
      both : List Fact
      both = graph_facts 0 x.kept.graph ++ graph_facts (0 + count x.kept.graph) y.kept.graph

      root : ℕ
      root = (0 + count x.kept.graph) + y.root

      cat_is : (d : Description) → FitsDescription h (length x.kept.env) d → st ≡ doing (on (root_beside x es y) (holds 0 d)) (side_by_side program x es y) → IsBegun h x st
      cat_is d fit p =
          let next : ℕ = (0 + count x.kept.graph) + count y.kept.graph in
          let low = other.root_below in
          subst (IsBegun h x) (sym p) (beside_one h law x kept es (λ k q. fits k (inr q)) y other both (on root (holds 0 d) ∷ (end_items (end_of program x es) ++ [])) (both_fit h law x kept es (λ k q. fits k (inr q)) y other)
          ((omega arith, (omega arith, fit)), items_end both next (end_of program x es) (end_fits both next (omega arith) es)) (tt, quiet_end (end_of program x es)))

      go : (d : Element) → FitsLeft h (length x.kept.env) (count x.kept.graph) d → Has (daughter_start program x d es y) st → IsBegun h x st
      go (cat d) left (inl p) = cat_is d left p
      go (cat d) left (inr p) = absurd p
      go (sem_head d) left (inl p) = cat_is d left p
      go (sem_head d) left (inr p) = absurd p
      go (member n) left has = of (hd_of program.lists x.kept.graph n) refl has
        where
          of : (o : Option ℕ) → hd_of program.lists x.kept.graph n ≡ o → Has (same_as (side_by_side program x es y) (root_beside x es y) o) st → IsBegun h x st
          of None q has = absurd has
          of (Some m) q (inl p) =
              let next : ℕ = (0 + count x.kept.graph) + count y.kept.graph in
              let facts : List Fact = both ++ Same m root ∷ [] in
              let low : m < count x.kept.graph = hd_below x.kept.graph kept.structure.formed program.lists n m q in
              let root_low = other.root_below in
              subst (IsBegun h x) (sym p) (beside_one h law x kept es (λ k q. fits k (inr q)) y other facts (end_items (end_of program x es) ++ []) (fits_both h both (Same m root ∷ []) next (both_fit h law x kept es (λ k q. fits k (inr q)) y other) (λ f has. same_fits next m f (omega arith) (omega arith) has))
              (items_end facts next (end_of program x es) (end_fits facts next (omega arith) es)) (quiet_end (end_of program x es)))
            where
              same_fits : (next m : ℕ) (f : Fact) → m < next → root < next → Has (Same m root ∷ []) f → FitsFact h next f
              same_fits next m f one two (inl q) = subst (FitsFact h next) (sym q) (one, two)
              same_fits next m f one two (inr q) = absurd q
          of (Some m) q (inr p) = absurd p
      go (derived goal) left has = absurd has
      go (cats d) left has = absurd has
      go (tail n) left has = absurd has

-- outside the fragment only where an element is
module _ (program : Program) (x : ChartItem) (es : List Element) where
  plain_end : (o : Option (ℕ × Description)) → ArePlainItems (end_items o ++ [])
  plain_end None = tt
  plain_end (Some end) = (tt, tt)

  own_plain : (e : Element) → IsPlainElement e → (st : State) → Has (own_start program x e es) st → ArePlainItems st.agenda
  own_plain (derived g) plain st (inl p) = subst (λ (z : State). ArePlainItems z.agenda) (sym p) (plain, plain_end (end_of program x es))
  own_plain (derived g) plain st (inr p) = absurd p
  own_plain (cats d) plain st (inl p) = subst (λ (z : State). ArePlainItems z.agenda) (sym p) (tt, (tt, tt))
  own_plain (cats d) plain st (inr p) = absurd p
  own_plain (tail n) plain st has = of (tl_of program.lists x.kept.graph n) has
    where
      of : (o : Option ℕ) → Has (split_at program x es o) st → ArePlainItems st.agenda
      of None has = absurd has
      of (Some m) (inl p) = subst (λ (z : State). ArePlainItems z.agenda) (sym p) (tt, tt)
      of (Some m) (inr p) = absurd p
  own_plain (cat d) plain st has = absurd has
  own_plain (sem_head d) plain st has = absurd has
  own_plain (member n) plain st has = absurd has

  daughter_plain : (e : Element) (y : ChartItem) (st : State) → Has (daughter_start program x e es y) st → ArePlainItems st.agenda
  daughter_plain (cat d) y st (inl p) = subst (λ (z : State). ArePlainItems z.agenda) (sym p) (tt, plain_end (end_of program x es))
  daughter_plain (cat d) y st (inr p) = absurd p
  daughter_plain (sem_head d) y st (inl p) = subst (λ (z : State). ArePlainItems z.agenda) (sym p) (tt, plain_end (end_of program x es))
  daughter_plain (sem_head d) y st (inr p) = absurd p
  daughter_plain (member n) y st has = of (hd_of program.lists x.kept.graph n) has
    where
      of : (o : Option ℕ) → Has (same_as (side_by_side program x es y) (root_beside x es y) o) st → ArePlainItems st.agenda
      of None has = absurd has
      of (Some m) (inl p) = subst (λ (z : State). ArePlainItems z.agenda) (sym p) (plain_end (end_of program x es))
      of (Some m) (inr p) = absurd p
  daughter_plain (derived g) y st has = absurd has
  daughter_plain (cats d) y st has = absurd has
  daughter_plain (tail n) y st has = absurd has

module _ (h : Hierarchy) (program : Program) (law : IsLawful h) (x : ChartItem) (it : IsItem h program x) (e : Element) (es : List Element) (eq : x.rest ≡ e ∷ es) where
  active : IsActive h program x
  active = it.active e es eq

  left : (d : Element) → Has (e ∷ es) d → IsLeft h program x.kept d
  left d has = active.left d (subst (λ z. Has z d) (sym eq) has)

  pub first_left : IsLeft h program x.kept e
  first_left = left e (inl refl)

  pub later_left : (d : Element) → Has es d → IsLeft h program x.kept d
  later_left d has = left d (inr has)

  start_from : (st : State) → IsBegun h x st → ArePlainItems st.agenda → IsStart h x st
  start_from st b plain = record { is = b.is; plain = plain; quiet = b.quiet; envs = b.envs; said = b.said; far = b.far }

  pub own_is : (st : State) → Has (own_start program x e es) st → IsStart h x st
  own_is st has =
      start_from st (own_begun h program law x it.is active.mother active.number active.mother_fits e es (λ d p. (left d p).fits) st has) (own_plain program x es e first_left.plain st has)

  pub daughter_is : (y : ChartItem) → IsItem h program y → (st : State) → Has (daughter_start program x e es y) st → IsStart h x st
  daughter_is y other st has =
      start_from st (daughter_begun h program law x it.is active.mother active.number active.mother_fits e es (λ d p. (left d p).fits) y other.is st has) (daughter_plain program x es e y st has)
