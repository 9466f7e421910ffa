-- What is kept of an answer of a search of an item, its own or with another, is an item again.
use Rattle.std.proofs.Common.{◌≡◌, ℕ, ◌+◌, ◌<◌, List, [], ◌∷◌, ◌++◌, length, ◌⊎◌, inl, inr, refl, sym, ap, ◌∙◌, subst, arith, Option, Some, None}
use Rattle.ale_declared.specs.Lists.{Has}
use Rattle.ale_hierarchy.specs.Hierarchy.{Hierarchy, Above, IsLawful}
use Rattle.ale_graph.specs.Structures.{Structure, IsStructure, count, type_of, value_of}
use Rattle.ale_graph.specs.Morphisms.{IsMorphismAside}
use Rattle.ale_graph.specs.Closure.{node_of}
use Rattle.ale_graph.proofs.Lists.{has_left, has_right, has_map, none_some}
use Rattle.ale_engine.proofs.Lists.{in_map}
use Rattle.ale_logic.specs.Descriptions.{Description, IsAssignment, FitsDescription}
use Rattle.ale_logic.specs.Programs.{Element, cat, cats, derived, sem_head, member, tail, ListTypes, Program}
use Rattle.ale_logic.specs.Fitting.{IsPlainElement, FitLists}
use Rattle.ale_logic.specs.ListNodes.{hd_of, tl_of, IsNonEmptyList, IsNonEmptyListOf}
use Rattle.ale_logic.specs.Words.{Environment}
use Rattle.ale_logic.specs.States.{env_at, bound, State}
use Rattle.ale_logic.specs.Putting.{graph_facts}
use Rattle.ale_logic.specs.Satisfaction.{Sense, Satisfies, HoldItems}
use Rattle.ale_logic.specs.WellFormed.{Scope, FitsRest, scope_of}
use Rattle.ale_logic.specs.Parts.{Part, Extract, renamed}
use Rattle.ale_logic.specs.PartLaws.{IsElementBelow, IsPart, PartLaw}
use Rattle.ale_logic.specs.PutLaws.{PutLaws}
use Rattle.ale_logic.specs.Runs.{RunLaws}
use Rattle.ale_logic.specs.Visits.{Answer}
use Rattle.ale_logic.specs.Lexicons.{wordless}
use Rattle.ale_logic.specs.Answers.{IsAccepted}
use Rattle.ale_logic.specs.StartLaws.{FitsRemaining}
use Rattle.ale_logic.specs.Starts.{ChartItem, end_of, end_items, own_start, side_by_side, root_beside, same_as, daughter_start}
use Rattle.ale_logic.specs.Charts.{item_of}
use Rattle.ale_run_law.proofs.First.{stands}
use Rattle.ale_chart_law.proofs.Items.{FitsLeft, IsThere, IsLeft, IsActive, IsItem, IsStart, later_left}
use Rattle.ale_chart_law.proofs.Maps.{from_zero}
use Rattle.ale_chart_law.proofs.Searches.{Back, Came, part_of}
use Rattle.ale_chart_law.proofs.Advancing.{OwnShape, own_shape, PairShape, pair_shape, hd_on, tl_on, own_advances}

-- where a variable's node goes, and a node for one that is unbound
abbrev pub assign_by : Answer → (ℕ → ℕ) → ℕ → ℕ → ℕ
assign_by a to free v = elim (bound a.state.envs 0 v) [ None ↦ free | Some n ↦ to (node_of a.closed n) ]

pub assign_bound : (a : Answer) (to : ℕ → ℕ) (free v n : ℕ) → bound a.state.envs 0 v ≡ Some n → assign_by a to free v ≡ to (node_of a.closed n)
assign_bound a to free v n e = ap (λ (o : Option ℕ). elim o [ None ↦ free | Some m ↦ to (node_of a.closed m) ]) e

pub assign_inside : (a : Answer) (s : Structure) (to : ℕ → ℕ) (free : ℕ) → free < count s → ((v n : ℕ) → bound a.state.envs 0 v ≡ Some n → to (node_of a.closed n) < count s) → IsAssignment s (assign_by a to free)
assign_inside a s to free low inside v = go (bound a.state.envs 0 v) refl
  where
    go : (o : Option ℕ) → bound a.state.envs 0 v ≡ o → elim o [ None ↦ free | Some m ↦ to (node_of a.closed m) ] < count s
    go None e = low
    go (Some n) e = inside v n e

-- what does not look at the nodes that elements name
fits_given : (h : Hierarchy) (c : Scope) (f : ℕ → ℕ) (e : Element) → FitsRest h c e → FitsRemaining h (length (env_at c.envs 0)) (renamed f e)
fits_given h c f (cat d) fit = fit.1
fits_given h c f (cats d) fit = fit.1
fits_given h c f (sem_head d) fit = fit.1
fits_given h c f (derived g) fit = fit.1
fits_given h c f (member n) fit = tt
fits_given h c f (tail n) fit = tt

fits_left : (h : Hierarchy) (slots n : ℕ) (f : ℕ → ℕ) (e : Element) → FitsRemaining h slots (renamed f e) → IsElementBelow n e → FitsLeft h slots n e
fits_left h slots n f (cat d) fit low = fit
fits_left h slots n f (cats d) fit low = fit
fits_left h slots n f (sem_head d) fit low = fit
fits_left h slots n f (derived g) fit low = fit
fits_left h slots n f (member k) fit low = low
fits_left h slots n f (tail k) fit low = low

plain_renamed : (f : ℕ → ℕ) (e : Element) → IsPlainElement e → IsPlainElement (renamed f e)
plain_renamed f (cat d) p = tt
plain_renamed f (cats d) p = tt
plain_renamed f (sem_head d) p = tt
plain_renamed f (derived g) p = p
plain_renamed f (member n) p = tt
plain_renamed f (tail n) p = tt

renamed_plain : (f : ℕ → ℕ) (e : Element) → IsPlainElement (renamed f e) → IsPlainElement e
renamed_plain f (cat d) p = tt
renamed_plain f (cats d) p = tt
renamed_plain f (sem_head d) p = tt
renamed_plain f (derived g) p = p
renamed_plain f (member n) p = tt
renamed_plain f (tail n) p = tt

-- what is there is there where a morphism goes
there_on : (program : Program) (g s : Structure) (f : ℕ → ℕ) → ((n k m : ℕ) → value_of g n k ≡ Some m → value_of s (f n) k ≡ Some (f m)) → (e : Element) → IsThere program g e → IsThere program s (renamed f e)
there_on program g s f keeps (member n) r = (f r.0, hd_on program.lists g s f keeps n r.0 r.1)
there_on program g s f keeps (tail n) r = (f r.0, tl_on program.lists g s f keeps n r.0 r.1)
there_on program g s f keeps (cat d) r = tt
there_on program g s f keeps (cats d) r = tt
there_on program g s f keeps (sem_head d) r = tt
there_on program g s f keeps (derived goal) r = tt

-- and in a part that has the values of its nodes
there_back : (program : Program) (g s : Structure) (f : ℕ → ℕ) → ((n k v : ℕ) → n < count g → value_of s (f n) k ≡ Some v → (m : ℕ) × (value_of g n k ≡ Some m)) → (e : Element) → IsElementBelow (count g) e → IsThere program s (renamed f e) → IsThere program g e
there_back program g s f has (member n) low r = go program.lists r.1
  where
    go : (o : Option ListTypes) → hd_of o s (f n) ≡ Some r.0 → (m : ℕ) × (hd_of o g n ≡ Some m)
    go None e = absurd (none_some e)
    go (Some l) e = has n l.hd r.0 low e
there_back program g s f has (tail n) low r = go program.lists r.1
  where
    go : (o : Option ListTypes) → tl_of o s (f n) ≡ Some r.0 → (m : ℕ) × (tl_of o g n ≡ Some m)
    go None e = absurd (none_some e)
    go (Some l) e = has n l.tl r.0 low e
there_back program g s f has (cat d) low r = tt
there_back program g s f has (cats d) low r = tt
there_back program g s f has (sem_head d) low r = tt
there_back program g s f has (derived goal) low r = tt

-- a list with members has a first one, and the others
longer_there : (h : Hierarchy) → IsLawful h → (s : Structure) → IsStructure h s → (o : Option ListTypes) → ((l : ListTypes) → o ≡ Some l → FitLists h l) → (n : ℕ) → n < count s → IsNonEmptyListOf h o s n → ((m : ℕ) × (hd_of o s n ≡ Some m)) × ((m : ℕ) × (tl_of o s n ≡ Some m))
longer_there h law s str None fit n low p = absurd p
longer_there h law s str (Some l) fit n low p = (value l.hd fits.hd, value l.tl fits.tl)
  where
    fits : FitLists h l
    fits = fit l refl

    value : (f : ℕ) → (f < h.features) × Above h (h.intro f) l.ne_list → (m : ℕ) × (value_of s n f ≡ Some m)
    value f both =
        let r = law.intro_there f (type_of s n) both.0 (str.total.types n low) (law.along (h.intro f) l.ne_list (type_of s n) both.1 p) in
        str.total.there n f r.0 low r.1

-- an element is plain, and what it names is there where a map takes it
pub record IsFine (program : Program) (s : Structure) (f : ℕ → ℕ) (e : Element) : Type 0 where
  pub plain : IsPlainElement e
  pub there : IsThere program s (renamed f e)

module _ (h : Hierarchy) (program : Program) (ok : IsAccepted h program) (puts : PutLaws) where
  -- Whatever satisfies the start has the item's structure where its nodes go, and says which elements remain.
  pub record Leads (x : ChartItem) (es : List Element) (st : State) : Type 0 where
    pub down : (u : Structure) (z : Sense) (remain : List Element) → IsStructure h u → Satisfies (wordless h program) u z st remain → IsMorphismAside h x.kept.graph u z.node
    pub rests : (u : Structure) (z : Sense) (remain : List Element) → IsStructure h u → Satisfies (wordless h program) u z st remain → (remain ≡ es) ⊎ ((n : ℕ) × (z.node n < count u) × IsNonEmptyList h program u (z.node n) × (remain ≡ member n ∷ tail n ∷ es))

  pub own_down : (x : ChartItem) (st : State) → OwnShape x st → (u : Structure) (z : Sense) (remain : List Element) → Satisfies (wordless h program) u z st remain → IsMorphismAside h x.kept.graph u z.node
  own_down x st shape u z remain sat =
      let far = shape.far in
      subst (IsMorphismAside h x.kept.graph u) (from_zero z.node)
      ((puts h u z.node 0 x.kept.graph).down (λ n low. sat.fulfils.into (0 + n) (omega arith)) (λ f has. sat.fulfils.holds f (subst (λ fs. Has fs f) (sym shape.facts) has)))

  pub pair_down : (x y : ChartItem) (st : State) → PairShape x y st → (u : Structure) (z : Sense) (remain : List Element) → Satisfies (wordless h program) u z st remain → IsMorphismAside h x.kept.graph u z.node
  pair_down x y st shape u z remain sat =
      let far = shape.far in
      subst (IsMorphismAside h x.kept.graph u) (from_zero z.node)
      ((puts h u z.node 0 x.kept.graph).down (λ n low. sat.fulfils.into (0 + n) (omega arith))
      (λ f has. sat.fulfils.holds f (subst (λ fs. Has fs f) (sym shape.facts) (has_left (graph_facts 0 x.kept.graph ++ graph_facts (0 + count x.kept.graph) y.kept.graph) shape.more f (has_left (graph_facts 0 x.kept.graph) (graph_facts (0 + count x.kept.graph) y.kept.graph) f has)))))

  -- and of the other item
  pub other_down : (x y : ChartItem) (st : State) → PairShape x y st → (u : Structure) (z : Sense) (remain : List Element) → Satisfies (wordless h program) u z st remain → IsMorphismAside h y.kept.graph u (λ n. z.node ((0 + count x.kept.graph) + n))
  other_down x y st shape u z remain sat =
      let far = shape.far in
      (puts h u z.node (0 + count x.kept.graph) y.kept.graph).down (λ n low. sat.fulfils.into ((0 + count x.kept.graph) + n) (omega arith))
      (λ f has. sat.fulfils.holds f (subst (λ fs. Has fs f) (sym shape.facts) (has_left (graph_facts 0 x.kept.graph ++ graph_facts (0 + count x.kept.graph) y.kept.graph) shape.more f (has_right (graph_facts 0 x.kept.graph) (graph_facts (0 + count x.kept.graph) y.kept.graph) f has))))

  pub own_leads : (x : ChartItem) (e : Element) (es : List Element) (st : State) → Has (own_start program x e es) st → Leads x es st
  own_leads x e es st has = record {
    down = λ u z remain str sat. own_down x st (own_shape program x e es st has) u z remain sat;
    rests = λ u z remain str sat. (own_advances h program u str z x [] e es remain st (own_down x st (own_shape program x e es st has) u z remain sat) has sat).rests;
  }

  pair_rests : (x y : ChartItem) (e : Element) (es : List Element) (st : State) → Has (daughter_start program x e es y) st → (u : Structure) (z : Sense) (remain : List Element) → Satisfies (wordless h program) u z st remain → remain ≡ es
  pair_rests x y e es st has u z remain sat = go e has
    where
      ended : (o : Option (ℕ × Description)) → HoldItems (wordless h program) u z (end_items o ++ []) es remain → remain ≡ es
      ended None p = p
      ended (Some end) p = p.1

      go : (d : Element) → Has (daughter_start program x d es y) st → remain ≡ es
      go (cat d) (inl p) = ended (end_of program x es) (subst (λ w. Satisfies (wordless h program) u z w remain) p sat).items.1
      go (cat d) (inr p) = absurd p
      go (sem_head d) (inl p) = ended (end_of program x es) (subst (λ w. Satisfies (wordless h program) u z w remain) p sat).items.1
      go (sem_head d) (inr p) = absurd p
      go (member n) has = of (hd_of program.lists x.kept.graph n) has
        where
          of : (o : Option ℕ) → Has (same_as (side_by_side program x es y) (root_beside x es y) o) st → remain ≡ es
          of None has = absurd has
          of (Some m) (inl p) = ended (end_of program x es) (subst (λ w. Satisfies (wordless h program) u z w remain) p sat).items
          of (Some m) (inr p) = absurd p
      go (derived g) has = absurd has
      go (cats d) has = absurd has
      go (tail n) has = absurd has

  pub pair_leads : (x y : ChartItem) (e : Element) (es : List Element) (st : State) → Has (daughter_start program x e es y) st → Leads x es st
  pair_leads x y e es st has = record {
    down = λ u z remain str sat. pair_down x y st (pair_shape program x e es y st has) u z remain sat;
    rests = λ u z remain str sat. inl (pair_rests x y e es st has u z remain sat);
  }

  module _ (runs : RunLaws) (extract : Extract) (part : PartLaw h program extract) where
    pub result_is : (x : ChartItem) → IsItem h program x → (e : Element) (es : List Element) → x.rest ≡ e ∷ es → (st : State) → IsStart h x st → Leads x es st → (a : Answer) → Came h program ok runs st a → (to : ℕ) → IsItem h program (item_of x.from to x.rule (extract x.root a))
    result_is x it e es eq st start leads a r to = record { is = p.is; active = λ d ds eq2. active d ds eq2 }
      where
        low : x.root < st.next
        low = let far = start.far in let root = it.is.root_below in omega arith

        p : IsPart h program x.root a (extract x.root a)
        p = part_of h program ok runs extract part st a r.is x.root low

        kept : Part
        kept = extract x.root a

        inside : (n : ℕ) → n < a.state.next → node_of a.closed n < count a.closed.graph
        inside n less = let longer = r.is.longer in r.is.nodes n (omega arith)

        root_inside : node_of a.closed x.root < count a.closed.graph
        root_inside = let next = r.is.next in inside x.root (omega arith)

        here : Back h program ok runs st a a.closed.graph (λ n. n) (assign_by a (λ n. n) (node_of a.closed x.root))
        here = r.back a.closed.graph (λ n. n) r.is.structure (stands h ok.lawful a.closed.graph r.is.structure) (assign_by a (λ n. n) (node_of a.closed x.root))
            (assign_inside a a.closed.graph (λ n. n) (node_of a.closed x.root) root_inside (λ v n b. inside n (r.is.is.below 0 v n b))) (assign_bound a (λ n. n) (node_of a.closed x.root))

        goes : IsMorphismAside h x.kept.graph a.closed.graph (node_of a.closed)
        goes = subst (IsMorphismAside h x.kept.graph a.closed.graph) here.node (leads.down a.closed.graph here.sense a.state.rest r.is.structure here.satisfies)

        first_env : (w : List Environment) → w ≡ x.kept.env ∷ [] → 0 < length w
        first_env w q = subst (λ (v : List Environment). 0 < length v) (sym q) (omega arith)

        -- the elements that remain are plain, and what they name is there
        given : (remain : List Element) → (remain ≡ es) ⊎ ((n : ℕ) × (here.sense.node n < count a.closed.graph) × IsNonEmptyList h program a.closed.graph (here.sense.node n) × (remain ≡ member n ∷ tail n ∷ es)) → (d : Element) → Has remain d → IsFine program a.closed.graph (node_of a.closed) d
        given remain (inl q) d has = later d (subst (λ z. Has z d) q has)
          where
            later : (d : Element) → Has es d → IsFine program a.closed.graph (node_of a.closed) d
            later d has = let l = later_left h program ok.lawful x it e es eq d has in record { plain = l.plain; there = there_on program x.kept.graph a.closed.graph (node_of a.closed) goes.values d l.there }
        given remain (inr (n, within, longer, q)) d has = opened (subst (λ z. Has z d) q has)
          where
            node : here.sense.node n ≡ node_of a.closed n
            node = ap (λ f. f n) here.node

            at : IsNonEmptyList h program a.closed.graph (node_of a.closed n)
            at = subst (IsNonEmptyList h program a.closed.graph) node longer

            values : ((m : ℕ) × (hd_of program.lists a.closed.graph (node_of a.closed n) ≡ Some m)) × ((m : ℕ) × (tl_of program.lists a.closed.graph (node_of a.closed n) ≡ Some m))
            values = longer_there h ok.lawful a.closed.graph r.is.structure program.lists ok.fits.lists (node_of a.closed n) (subst (λ k. k < count a.closed.graph) node within) at

            opened : Has (member n ∷ tail n ∷ es) d → IsFine program a.closed.graph (node_of a.closed) d
            opened (inl p) = subst (IsFine program a.closed.graph (node_of a.closed)) (sym p) (record { plain = tt; there = values.0 })
            opened (inr (inl p)) = subst (IsFine program a.closed.graph (node_of a.closed)) (sym p) (record { plain = tt; there = values.1 })
            opened (inr (inr p)) = let l = later_left h program ok.lawful x it e es eq d p in record { plain = l.plain; there = there_on program x.kept.graph a.closed.graph (node_of a.closed) goes.values d l.there }

        fine : (d : Element) → Has a.state.rest d → IsFine program a.closed.graph (node_of a.closed) d
        fine = given a.state.rest (leads.rests a.closed.graph here.sense a.state.rest r.is.structure here.satisfies)

        active : (d : Element) (ds : List Element) → (extract x.root a).rest ≡ d ∷ ds → IsActive h program (item_of x.from to x.rule (extract x.root a))
        active d ds eq2 = record {
          mother = (it.active e es eq).mother;
          number = (it.active e es eq).number;
          mother_fits = subst (λ n. FitsDescription h n (it.active e es eq).mother) (sym size) (it.active e es eq).mother_fits;
          left = λ k has. left k (has_map (renamed (node_of a.closed)) a.state.rest (renamed (extract x.root a).whole k) (subst (λ z. Has z (renamed (extract x.root a).whole k)) (sym p.rest) (in_map (renamed (extract x.root a).whole) (extract x.root a).rest k has))) (p.rest_below k has);
        }
          where
            own_size : length (extract x.root a).kept.env ≡ length (env_at a.state.envs 0)
            own_size = p.env_length d ds eq2

            size : length (extract x.root a).kept.env ≡ length x.kept.env
            size = own_size ∙ r.is.lengths 0 (first_env st.envs start.envs) ∙ ap (λ (w : List Environment). length (env_at w 0)) start.envs

            left : (k : Element) → (f : Element) × Has a.state.rest f × (renamed (extract x.root a).whole k ≡ renamed (node_of a.closed) f) → IsElementBelow (count (extract x.root a).kept.graph) k → IsLeft h program (extract x.root a).kept k
            left k (f, has, same) below = record {
              fits = subst (λ n. FitsLeft h n (count (extract x.root a).kept.graph) k) (sym own_size)
                  (fits_left h (length (env_at a.state.envs 0)) (count (extract x.root a).kept.graph) (extract x.root a).whole k (subst (FitsRemaining h (length (env_at a.state.envs 0))) (sym same) (fits_given h (scope_of a.state) (node_of a.closed) f (r.is.is.rest f has))) below);
              plain = renamed_plain (extract x.root a).whole k (subst IsPlainElement (sym same) (plain_renamed (node_of a.closed) f (fine f has).plain));
              there = there_back program (extract x.root a).kept.graph a.closed.graph (extract x.root a).whole p.values k below (subst (IsThere program a.closed.graph) (sym same) (fine f has).there);
            }
