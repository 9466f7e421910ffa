-- Coverage: whatever spans places of the sentence in a model is covered by an item of any list of items that is closed,
-- by induction on the derivation.
use Rattle.std.proofs.Common.{◌≡◌, ℕ, zero, suc, ◌+◌, ◌-◌, ◌<◌, ◌≤◌, true, false, eqb, List, [], ◌∷◌, ◌++◌, map, length, Bool, ◌⊎◌, inl, inr, refl, sym, ap, ◌∙◌, subst, arith, Option, Some, None, if◌then◌else◌}
use Rattle.std.proofs.lemmas.Bool.{eq-eqb, cases_lt}
use Rattle.ale_declared.specs.Lists.{Has}
use Rattle.ale_hierarchy.specs.Hierarchy.{Hierarchy, Above}
use Rattle.ale_graph.specs.declared.fact.Fact.{Fact}
use Rattle.ale_graph.specs.declared.fact.Fact.TheVariants.{Same}
use Rattle.ale_graph.specs.Structures.{Structure, count, type_of, value_of}
use Rattle.ale_graph.specs.Facts.{Holds, HoldsFact}
use Rattle.ale_graph.specs.Morphisms.{IsMorphismAside}
use Rattle.ale_graph.proofs.Lists.{none_some, some_one}
use Rattle.ale_logic.specs.Descriptions.{Description, HoldsAt, IsAssignment}
use Rattle.ale_logic.specs.Goals.{Goal}
use Rattle.ale_logic.specs.Programs.{Word, Element, cat, cats, derived, sem_head, member, tail, Rule, ListTypes, Program}
use Rattle.ale_logic.specs.Fitting.{FitsRule}
use Rattle.ale_logic.specs.Derivations.{Derivable}
use Rattle.ale_logic.specs.Models.{IsModel}
use Rattle.ale_logic.specs.ListNodes.{hd_of, tl_of, IsEmptyList, IsNonEmptyList, IsHd, IsTl}
use Rattle.ale_logic.specs.Words.{bound_in, Entry, Words, StandsAt}
use Rattle.ale_logic.specs.Spans.{Spans, Covers, ListSpans, word_at}
use Rattle.ale_logic.specs.Spans.Spans.{by_word, by_empty, by_rule}
use Rattle.ale_logic.specs.Spans.Covers.{no_more, by_cat, by_head, by_cats, by_goal, by_member, by_tail}
use Rattle.ale_logic.specs.Spans.ListSpans.{ends, goes_on}
use Rattle.ale_logic.specs.States.{holds, Item, on, derive, split, bound, State, told, doing, doing_all, grown}
use Rattle.ale_logic.specs.Putting.{graph_facts, moved}
use Rattle.ale_logic.specs.Satisfaction.{Sense, Satisfies, HoldItems, HoldsEnd}
use Rattle.ale_logic.specs.Parts.{Extract, renamed}
use Rattle.ale_logic.specs.PartLaws.{IsElementBelow, AreElementsBelow, PartLaw}
use Rattle.ale_logic.specs.PutLaws.{PutLaws}
use Rattle.ale_logic.specs.Runs.{RunLaws}
use Rattle.ale_engine.specs.Engine.{search}
use Rattle.ale_logic.specs.Visits.{Answer, visit}
use Rattle.ale_logic.specs.Lexicons.{wordless}
use Rattle.ale_logic.specs.Answers.{IsAccepted}
use Rattle.ale_logic.specs.Starts.{ChartItem, mother_at, at_node, end_of, end_items, start_item, split_at, own_start, side_by_side, root_beside, same_as, daughter_start}
use Rattle.ale_logic.specs.Charts.{passive_of, one_node, ItemTask, item_of, item_task, own_tasks, daughter_tasks}
use Rattle.ale_logic.specs.LexiconLaws.{AreAllWords}
use Rattle.ale_logic.specs.ChartLaws.{IsCovered, Replaces}
use Rattle.ale_run_law.proofs.First.{none_bound}
use Rattle.ale_chart_law.proofs.Items.{IsItem, IsStart, rest_below, hd_below, tl_below, own_is, daughter_is, first_left}
use Rattle.ale_chart_law.proofs.Maps.{beside, beside_low, beside_high, beside_from, beside_at, holds_both, put_first, put_from}
use Rattle.ale_chart_law.proofs.Searches.{none_left, rule_renamed, renamed_same, gr, Arrival, arrival}

-- the item is there, or another passive one that replaces it
abbrev pub Stands : Hierarchy → List ChartItem → ChartItem → Type 0
Stands h all x = Has all x ⊎ ((y : ChartItem) × Has all y × Replaces h y x)

-- the task's search was made to its end, and what each answer becomes stands
pub record Ran (h : Hierarchy) (program : Program) (all : List ChartItem) (t : ItemTask) : Type 0 where
  pub budget : ℕ
  pub ended : (search (visit (wordless h program)) budget t.waiting).finished ≡ true
  pub results : (a : Answer) → Has (search (visit (wordless h program)) budget t.waiting).answers a → Stands h all (t.made a)

-- all searches of all items were made, and the items with which a chart begins are there
pub record IsClosedChart (h : Hierarchy) (program : Program) (extract : Extract) (words : Words) (sentence : List Word) (all : List ChartItem) : Type 0 where
  pub item : (x : ChartItem) → Has all x → IsItem h program x
  pub place : (x : ChartItem) → Has all x → x.to ≤ length sentence
  pub own_ran : (x : ChartItem) → Has all x → (t : ItemTask) → Has (own_tasks extract program x x.rest) t → Ran h program all t
  pub meets_ran : (x y : ChartItem) → Has all x → Has all y → (t : ItemTask) → Has (daughter_tasks extract program x x.rest y y.rest) t → Ran h program all t
  pub at_word : (i : ℕ) (w : Word) → word_at sentence i ≡ Some w → (e : Entry) → Has words.entries e → e.word ≡ w → Has all (passive_of i (suc i) e)
  pub at_empty : (i : ℕ) → i ≤ length sentence → (e : Entry) → Has words.empties e → Has all (passive_of i i e)
  pub at_rule : (i : ℕ) → i ≤ length sentence → (r : Rule) → Has program.rules r →
      (k : ℕ) × (mother_at program.rules (Some k) ≡ Some r.mother) × Has all (record { from = i; to = i; kept = one_node r.slots; root = 0; rule = Some k; rest = r.elements })

-- what a renamed element is
is_goal : (f : ℕ → ℕ) (e : Element) (g : Goal) → renamed f e ≡ derived g → e ≡ derived g
is_goal f (derived k) g p = p
is_goal f (cat d) g p = absurd cc
is_goal f (cats d) g p = absurd cc
is_goal f (sem_head d) g p = absurd cc
is_goal f (member n) g p = absurd cc
is_goal f (tail n) g p = absurd cc

is_cat : (f : ℕ → ℕ) (e : Element) (d : Description) → renamed f e ≡ cat d → e ≡ cat d
is_cat f (cat k) d p = p
is_cat f (derived k) d p = absurd cc
is_cat f (cats k) d p = absurd cc
is_cat f (sem_head k) d p = absurd cc
is_cat f (member n) d p = absurd cc
is_cat f (tail n) d p = absurd cc

is_head : (f : ℕ → ℕ) (e : Element) (d : Description) → renamed f e ≡ sem_head d → e ≡ sem_head d
is_head f (sem_head k) d p = p
is_head f (cat k) d p = absurd cc
is_head f (derived k) d p = absurd cc
is_head f (cats k) d p = absurd cc
is_head f (member n) d p = absurd cc
is_head f (tail n) d p = absurd cc

is_cats : (f : ℕ → ℕ) (e : Element) (d : Description) → renamed f e ≡ cats d → e ≡ cats d
is_cats f (cats k) d p = p
is_cats f (cat k) d p = absurd cc
is_cats f (derived k) d p = absurd cc
is_cats f (sem_head k) d p = absurd cc
is_cats f (member n) d p = absurd cc
is_cats f (tail n) d p = absurd cc

is_member : (f : ℕ → ℕ) (e : Element) (m : ℕ) → renamed f e ≡ member m → (n : ℕ) × (e ≡ member n) × (f n ≡ m)
is_member f (member n) m p = (n, refl, cc)
is_member f (cat k) m p = absurd cc
is_member f (derived k) m p = absurd cc
is_member f (cats k) m p = absurd cc
is_member f (sem_head k) m p = absurd cc
is_member f (tail n) m p = absurd cc

is_tail : (f : ℕ → ℕ) (e : Element) (m : ℕ) → renamed f e ≡ tail m → (n : ℕ) × (e ≡ tail n) × (f n ≡ m)
is_tail f (tail n) m p = (n, refl, cc)
is_tail f (cat k) m p = absurd cc
is_tail f (derived k) m p = absurd cc
is_tail f (cats k) m p = absurd cc
is_tail f (sem_head k) m p = absurd cc
is_tail f (member n) m p = absurd cc

pub record Uncons (f : ℕ → ℕ) (xs : List Element) (e : Element) (es : List Element) : Type 0 where
  pub first : Element
  pub others : List Element
  pub are : xs ≡ first ∷ others
  pub first_is : renamed f first ≡ e
  pub others_are : map (renamed f) others ≡ es

uncons : (f : ℕ → ℕ) (xs : List Element) (e : Element) (es : List Element) → map (renamed f) xs ≡ e ∷ es → Uncons f xs e es
uncons f [] e es p = absurd cc
uncons f (x ∷ xs) e es p = record { first = x; others = xs; are = refl; first_is = cc; others_are = cc }

-- a morphism takes a list's first member, and the others, to those of the image
tl_goes : (o : Option ListTypes) (g s : Structure) (f : ℕ → ℕ) → ((n k m : ℕ) → value_of g n k ≡ Some m → value_of s (f n) k ≡ Some (f m)) → (n k m t : ℕ) → f n ≡ m → tl_of o g n ≡ Some k → tl_of o s m ≡ Some t → f k ≡ t
tl_goes None g s f keeps n k m t goes one two = absurd (none_some one)
tl_goes (Some l) g s f keeps n k m t goes one two = some_one (sym (keeps n l.tl k one) ∙ ap (λ z. value_of s z l.tl) goes ∙ two)

hd_goes : (o : Option ListTypes) (g s : Structure) (f : ℕ → ℕ) → ((n k m : ℕ) → value_of g n k ≡ Some m → value_of s (f n) k ≡ Some (f m)) → (n k m t : ℕ) → f n ≡ m → hd_of o g n ≡ Some k → hd_of o s m ≡ Some t → f k ≡ t
hd_goes None g s f keeps n k m t goes one two = absurd (none_some one)
hd_goes (Some l) g s f keeps n k m t goes one two = some_one (sym (keeps n l.hd k one) ∙ ap (λ z. value_of s z l.hd) goes ∙ two)

module _ (h : Hierarchy) (program : Program) (ok : IsAccepted h program) (runs : RunLaws) (puts : PutLaws) (extract : Extract) (part : PartLaw h program extract) (words : Words) (sentence : List Word) (all : List ChartItem) (closed : IsClosedChart h program extract words sentence all) (s : Structure) (model : IsModel h program s) where
  -- the rule that is covered: its mother, which holds at the node, with what its variables are assigned
  pub record Ctx : Type 0 where
    pub mother : Description
    pub assign : ℕ → ℕ
    pub inside : IsAssignment s assign
    pub node : ℕ
    pub from : ℕ
    pub holds : HoldsAt h s assign mother node

  -- an active item of the rule, up to j, with these elements that remain, goes into the model
  pub record At (c : Ctx) (j : ℕ) (es : List Element) : Type 0 where
    pub item : ChartItem
    pub has : Has all item
    pub number : mother_at program.rules item.rule ≡ Some c.mother
    pub from : item.from ≡ c.from
    pub to : item.to ≡ j
    pub map_to : ℕ → ℕ
    pub is : IsMorphismAside h item.kept.graph s map_to
    pub root_to : map_to item.root ≡ c.node
    pub rest : map (renamed map_to) item.rest ≡ es
    pub env : (v n : ℕ) → bound_in item.kept.env v ≡ Some n → c.assign v ≡ map_to n

  -- such an item, or where no element remains, a passive one
  abbrev pub Comes : Ctx → ℕ → List Element → Type 0
  Comes c j [] = IsCovered h all s c.node c.from j
  Comes c j (e ∷ es) = At c j (e ∷ es)

  abbrev sense_of : Ctx → (ℕ → ℕ) → Sense
  sense_of c node = record { node = node; var = λ e. c.assign; words = λ g. [] }

  arrive : (c : Ctx) (x : ChartItem) → mother_at program.rules x.rule ≡ Some c.mother → x.from ≡ c.from → (to : ℕ) (st : State) → IsStart h x st → x.root < st.next → Ran h program all (item_task extract x to st) → (node : ℕ → ℕ) → node x.root ≡ c.node → (remain es : List Element) →
      Satisfies (gr h program ok runs) s (sense_of c node) st remain → AreElementsBelow st.next remain → map (renamed node) remain ≡ es → Comes c to es
  arrive c x number from to st start low ran node root remain es sat named are =
      go (arrival h program ok runs extract part x st start low ran.budget ran.ended s model (sense_of c node) remain sat named)
    where
      go : Arrival h program ok runs extract part s x (search (visit (wordless h program)) ran.budget (st ∷ [])).answers (sense_of c node) remain → Comes c to es
      go r = here (ran.results r.answer r.has) es (r.arrives.rest ∙ are)
        where
          y : ChartItem
          y = item_of x.from to x.rule (extract x.root r.answer)

          passive : (z : ChartItem) → Has all z → z.rest ≡ [] → z.from ≡ c.from → z.to ≡ to → (f : ℕ → ℕ) → IsMorphismAside h z.kept.graph s f → f z.root ≡ c.node → IsCovered h all s c.node c.from to
          passive z has none one two f mor at = record { item = z; has = has; passive = none; from = one; to = two; subsumes = record { map = f; is = mor; root_to = at } }

          here : Stands h all (item_of x.from to x.rule (extract x.root r.answer)) → (ds : List Element) → map (renamed r.arrives.to) (extract x.root r.answer).rest ≡ ds → Comes c to ds
          here (inl has) [] e = passive (item_of x.from to x.rule (extract x.root r.answer)) has (none_left r.arrives.to (extract x.root r.answer).rest e) from refl r.arrives.to r.arrives.is (r.arrives.root_to ∙ root)
          here (inl has) (d ∷ ds) e = record {
            item = item_of x.from to x.rule (extract x.root r.answer);
            has = has;
            number = number;
            from = from;
            to = refl;
            map_to = r.arrives.to;
            is = r.arrives.is;
            root_to = r.arrives.root_to ∙ root;
            rest = e;
            env = r.arrives.env;
          }
          here (inr (z, has, by)) [] e =
              passive z has by.also (by.from ∙ from) by.to (λ n. r.arrives.to (by.map n)) (by.onward s r.arrives.to r.arrives.is) (ap r.arrives.to by.root_to ∙ (r.arrives.root_to ∙ root))
          here (inr (z, has, by)) (d ∷ ds) e = absurd (let none : [] ≡ d ∷ ds = ap (λ es. map (renamed r.arrives.to) es) (sym by.passive) ∙ e in cc)

  -- What an active item's starts are satisfied by: its own map and what its variables are assigned.
  module _ (c : Ctx) (j : ℕ) (e : Element) (es : List Element) (at : At c j (e ∷ es)) where
    it : IsItem h program at.item
    it = closed.item at.item at.has

    low : (n : ℕ) → n < count at.item.kept.graph → at.map_to n < count s
    low n less = at.is.into n less

    -- a map that is the item's on its nodes
    abbrev Goes : (ℕ → ℕ) → Type 0
    Goes node = (n : ℕ) → n < count at.item.kept.graph → node n ≡ at.map_to n

    abbrev start_of : List Fact → ℕ → List (ℕ × ℕ) → List Item → List Element → State
    start_of facts next imposed agenda rest = record { facts = facts; next = next; imposed = imposed; envs = at.item.kept.env ∷ []; phrases = 0; said = []; choices = []; agenda = agenda; rest = rest }

    satisfied : (node : ℕ → ℕ) → Goes node → (facts : List Fact) (next : ℕ) (imposed : List (ℕ × ℕ)) (agenda : List Item) (rest remain : List Element) → ((n : ℕ) → n < next → node n < count s) → Holds h s node facts →
        HoldItems (gr h program ok runs) s (sense_of c node) agenda rest remain → Satisfies (gr h program ok runs) s (sense_of c node) (start_of facts next imposed agenda rest) remain
    satisfied node same facts next imposed agenda rest remain into facts_hold items = record {
      fulfils = record { into = into; holds = facts_hold };
      nodes = λ k v. c.inside v;
      is_bound = λ k v n b. bound_to k v n b;
      is_said = λ g ps has. absurd has;
      items = items;
    }
      where
        bound_to : (k v n : ℕ) → bound (at.item.kept.env ∷ []) k v ≡ Some n → c.assign v ≡ node n
        bound_to zero v n b = at.env v n b ∙ sym (same n (it.is.env_below v n b))
        bound_to (suc k) v n b = absurd (none_some b)

    -- where no element remains, the mother holds at the end
    holds_end : (node : ℕ → ℕ) → Goes node → (rest : List Element) → HoldsEnd (gr h program ok runs) s (sense_of c node) (end_of program at.item rest)
    holds_end node same [] = go (mother_at program.rules at.item.rule) at.number
      where
        root : c.node ≡ node at.item.root
        root = sym (same at.item.root it.is.root_below ∙ at.root_to)

        go : (o : Option Description) → o ≡ Some c.mother → HoldsEnd (gr h program ok runs) s (sense_of c node) (at_node at.item.root o)
        go None p = absurd (none_some p)
        go (Some d) p = subst (λ z. HoldsAt h s c.assign z (node at.item.root)) (sym (some_one p)) (subst (HoldsAt h s c.assign c.mother) root c.holds)
    holds_end node same (d ∷ ds) = tt

    ends_hold : (node : ℕ → ℕ) (o : Option (ℕ × Description)) (rest : List Element) → HoldsEnd (gr h program ok runs) s (sense_of c node) o → HoldItems (gr h program ok runs) s (sense_of c node) (end_items o ++ []) rest rest
    ends_hold node None rest holds_it = refl
    ends_hold node (Some end) rest holds_it = (holds_it, refl)

    -- the task of a start stands among the item's own
    own_ran : (e' : Element) (es' : List Element) → at.item.rest ≡ e' ∷ es' → (st : State) → Has (own_start program at.item e' es') st → Ran h program all (item_task extract at.item at.item.to st)
    own_ran e' es' eq st has =
        closed.own_ran at.item at.has (item_task extract at.item at.item.to st)
        (subst (λ z. Has (own_tasks extract program at.item z) (item_task extract at.item at.item.to st)) (sym eq) (in_tasks (own_start program at.item e' es') has))
      where
        in_tasks : (sts : List State) → Has sts st → Has (map (item_task extract at.item at.item.to) sts) (item_task extract at.item at.item.to st)
        in_tasks [] has = absurd has
        in_tasks (z ∷ sts) (inl p) = inl (ap (item_task extract at.item at.item.to) p)
        in_tasks (z ∷ sts) (inr p) = inr (in_tasks sts p)

    others_below : (e' : Element) (es' : List Element) → at.item.rest ≡ e' ∷ es' → AreElementsBelow (count at.item.kept.graph) es'
    others_below e' es' eq d has = rest_below h program at.item it d (subst (λ z. Has z d) (sym eq) (inr has))

    below_more : (n : ℕ) → count at.item.kept.graph ≤ n → (es' : List Element) → AreElementsBelow (count at.item.kept.graph) es' → AreElementsBelow n es'
    below_more n far es' named d has = go d (named d has)
      where
        go : (d : Element) → IsElementBelow (count at.item.kept.graph) d → IsElementBelow n d
        go (member k) b = omega arith
        go (tail k) b = omega arith
        go (cat k) b = tt
        go (cats k) b = tt
        go (sem_head k) b = tt
        go (derived k) b = tt

    -- what remains behind the first element goes where it is to
    others_go : (node : ℕ → ℕ) → Goes node → (e' : Element) (es' : List Element) → at.item.rest ≡ e' ∷ es' → map (renamed at.map_to) es' ≡ es → map (renamed node) es' ≡ es
    others_go node same e' es' eq are = renamed_same node at.map_to (count at.item.kept.graph) same es' (others_below e' es' eq) ∙ are

    own_step : (e' : Element) (es' : List Element) → at.item.rest ≡ e' ∷ es' → (st : State) → Has (own_start program at.item e' es') st → (node : ℕ → ℕ) → Goes node → (remain left : List Element) → Satisfies (gr h program ok runs) s (sense_of c node) st remain →
        AreElementsBelow st.next remain → map (renamed node) remain ≡ left → Comes c j left
    own_step e' es' eq st has node same remain left sat named are =
        let start : IsStart h at.item st = own_is h program ok.lawful at.item it e' es' eq st has in
        let far = start.far in
        let root = it.is.root_below in
        subst (λ k. Comes c k left) at.to
        (arrive c at.item at.number at.from at.item.to st start (omega arith) (own_ran e' es' eq st has) node (same at.item.root root ∙ at.root_to) remain left sat named are)

    own_holds : (node : ℕ → ℕ) → Goes node → Holds h s node (graph_facts 0 at.item.kept.graph)
    own_holds node same = put_first puts h s at.item.kept.graph at.map_to node it.is.structure at.is same

    zero_low : (n : ℕ) → n < 0 + count at.item.kept.graph → at.map_to n < count s
    zero_low n less = low n (omega arith)

  step_goal : (c : Ctx) (j : ℕ) (g : Goal) (es : List Element) → At c j (derived g ∷ es) → Derivable h program s c.assign g → Comes c j es
  step_goal c j g es at derivable = go (uncons at.map_to at.item.rest (derived g) es at.rest)
    where
      go : Uncons at.map_to at.item.rest (derived g) es → Comes c j es
      go u =
          let eq : at.item.rest ≡ derived g ∷ u.others = u.are ∙ ap (λ z. z ∷ u.others) (is_goal at.map_to u.first g u.first_is) in
          let end : Option (ℕ × Description) = end_of program at.item u.others in
          own_step c j (derived g) es at (derived g) u.others eq (doing (derive 0 0 g) (doing_all (end_items end) (start_item at.item u.others))) (inl refl) at.map_to (λ n l. refl) u.others es
          (satisfied c j (derived g) es at at.map_to (λ n l. refl) (graph_facts 0 at.item.kept.graph) (0 + count at.item.kept.graph) (moved 0 at.item.kept.imposed) (derive 0 0 g ∷ (end_items end ++ [])) u.others u.others
          (zero_low c j (derived g) es at) (own_holds c j (derived g) es at at.map_to (λ n l. refl))
          (derivable, ends_hold c j (derived g) es at at.map_to end u.others (holds_end c j (derived g) es at at.map_to (λ n l. refl) u.others)))
          (below_more c j (derived g) es at (0 + count at.item.kept.graph) (omega arith) u.others (others_below c j (derived g) es at (derived g) u.others eq))
          u.others_are

  -- both ways in which an open list goes on
  abbrev pub Opens : Ctx → ℕ → ℕ → List Element → Type 0
  Opens c j m es = (IsEmptyList h program s m → Comes c j es) × (IsNonEmptyList h program s m → Comes c j (member m ∷ tail m ∷ es))

  -- the next elements, as they are in the state, name nodes of it
  opened_below : (n next : ℕ) (es : List Element) → n < next → AreElementsBelow next es → AreElementsBelow next (member n ∷ tail n ∷ es)
  opened_below n next es low named d (inl p) = subst (IsElementBelow next) (sym p) low
  opened_below n next es low named d (inr (inl p)) = subst (IsElementBelow next) (sym p) low
  opened_below n next es low named d (inr (inr p)) = named d p

  step_cats : (c : Ctx) (j : ℕ) (d : Description) (es : List Element) (m : ℕ) → At c j (cats d ∷ es) → m < count s → HoldsAt h s c.assign d m → Opens c j m es
  step_cats c j d es m at inside holds_d = go (uncons at.map_to at.item.rest (cats d) es at.rest)
    where
      go : Uncons at.map_to at.item.rest (cats d) es → Opens c j m es
      go u = (λ empty. empty_way empty, λ longer. longer_way longer)
        where
          eq : at.item.rest ≡ cats d ∷ u.others
          eq = u.are ∙ ap (λ z. z ∷ u.others) (is_cats at.map_to u.first d u.first_is)

          same : (n : ℕ) → n < count at.item.kept.graph → beside (0 + count at.item.kept.graph) at.map_to (λ k. m) n ≡ at.map_to n
          same n low = beside_low (0 + count at.item.kept.graph) at.map_to (λ k. m) n (omega arith)

          at_list : beside (0 + count at.item.kept.graph) at.map_to (λ k. m) (0 + count at.item.kept.graph) ≡ m
          at_list = beside_at (0 + count at.item.kept.graph) at.map_to m

          into : (n : ℕ) → n < (0 + count at.item.kept.graph) + 1 → beside (0 + count at.item.kept.graph) at.map_to (λ k. m) n < count s
          into n less = split_at_size (cases_lt n (0 + count at.item.kept.graph))
            where
              split_at_size : (n < 0 + count at.item.kept.graph) ⊎ (0 + count at.item.kept.graph ≤ n) → beside (0 + count at.item.kept.graph) at.map_to (λ k. m) n < count s
              split_at_size (inl l) = subst (λ z. z < count s) (sym (beside_low (0 + count at.item.kept.graph) at.map_to (λ k. m) n l)) (at.is.into n (omega arith))
              split_at_size (inr r) = subst (λ z. z < count s) (sym (beside_high (0 + count at.item.kept.graph) at.map_to (λ k. m) n r)) inside

          way : (remain left : List Element) → HoldItems (gr h program ok runs) s (sense_of c (beside (0 + count at.item.kept.graph) at.map_to (λ k. m))) (split (0 + count at.item.kept.graph) (end_of program at.item u.others) ∷ []) u.others remain →
              AreElementsBelow ((0 + count at.item.kept.graph) + 1) remain → map (renamed (beside (0 + count at.item.kept.graph) at.map_to (λ k. m))) remain ≡ left → Comes c j left
          way remain left items named are =
              own_step c j (cats d) es at (cats d) u.others eq
              (doing (on (start_item at.item u.others).next (holds 0 d)) (doing (split (start_item at.item u.others).next (end_of program at.item u.others)) (grown 1 (start_item at.item u.others)))) (inl refl)
              (beside (0 + count at.item.kept.graph) at.map_to (λ k. m)) same remain left
              (satisfied c j (cats d) es at (beside (0 + count at.item.kept.graph) at.map_to (λ k. m)) same (graph_facts 0 at.item.kept.graph) ((0 + count at.item.kept.graph) + 1) (moved 0 at.item.kept.imposed)
              (on (0 + count at.item.kept.graph) (holds 0 d) ∷ split (0 + count at.item.kept.graph) (end_of program at.item u.others) ∷ []) u.others remain into
              (own_holds c j (cats d) es at (beside (0 + count at.item.kept.graph) at.map_to (λ k. m)) same)
              (subst (HoldsAt h s c.assign d) (sym at_list) holds_d, items))
              named are

          below : AreElementsBelow ((0 + count at.item.kept.graph) + 1) u.others
          below = below_more c j (cats d) es at ((0 + count at.item.kept.graph) + 1) (omega arith) u.others (others_below c j (cats d) es at (cats d) u.others eq)

          others : map (renamed (beside (0 + count at.item.kept.graph) at.map_to (λ k. m))) u.others ≡ es
          others = others_go c j (cats d) es at (beside (0 + count at.item.kept.graph) at.map_to (λ k. m)) same (cats d) u.others eq u.others_are

          empty_way : IsEmptyList h program s m → Comes c j es
          empty_way empty =
              way u.others es (inl (subst (IsEmptyList h program s) (sym at_list) empty, holds_end c j (cats d) es at (beside (0 + count at.item.kept.graph) at.map_to (λ k. m)) same u.others, refl)) below others

          longer_way : IsNonEmptyList h program s m → Comes c j (member m ∷ tail m ∷ es)
          longer_way longer =
              way (member (0 + count at.item.kept.graph) ∷ tail (0 + count at.item.kept.graph) ∷ u.others) (member m ∷ tail m ∷ es) (inr (subst (IsNonEmptyList h program s) (sym at_list) longer, refl))
              (opened_below (0 + count at.item.kept.graph) ((0 + count at.item.kept.graph) + 1) u.others (omega arith) below)
              (ap (λ z. member z ∷ tail z ∷ map (renamed (beside (0 + count at.item.kept.graph) at.map_to (λ k. m))) u.others) at_list ∙ ap (λ z. member m ∷ tail m ∷ z) others)

  step_tail : (c : Ctx) (j : ℕ) (es : List Element) (m tl : ℕ) → At c j (tail m ∷ es) → IsTl program s m tl → Opens c j tl es
  step_tail c j es m tl at is_tl = go (uncons at.map_to at.item.rest (tail m) es at.rest)
    where
      go : Uncons at.map_to at.item.rest (tail m) es → Opens c j tl es
      go u = named_by (is_tail at.map_to u.first m u.first_is)
        where
          named_by : (n : ℕ) × (u.first ≡ tail n) × (at.map_to n ≡ m) → Opens c j tl es
          named_by (n, is, goes) = (λ empty. empty_way empty, λ longer. longer_way longer)
            where
              eq : at.item.rest ≡ tail n ∷ u.others
              eq = u.are ∙ ap (λ z. z ∷ u.others) is

              there : (k : ℕ) × (tl_of program.lists at.item.kept.graph n ≡ Some k)
              there = (first_left h program ok.lawful at.item (closed.item at.item at.has) (tail n) u.others eq).there

              arrives : at.map_to there.0 ≡ tl
              arrives = tl_goes program.lists at.item.kept.graph s at.map_to at.is.values n there.0 m tl goes there.1 is_tl

              low : there.0 < count at.item.kept.graph
              low = tl_below at.item.kept.graph (closed.item at.item at.has).is.structure.formed program.lists n there.0 there.1

              below : AreElementsBelow (0 + count at.item.kept.graph) u.others
              below = below_more c j (tail m) es at (0 + count at.item.kept.graph) (omega arith) u.others (others_below c j (tail m) es at (tail n) u.others eq)

              way : (remain left : List Element) → HoldItems (gr h program ok runs) s (sense_of c at.map_to) (split there.0 (end_of program at.item u.others) ∷ []) u.others remain → AreElementsBelow (0 + count at.item.kept.graph) remain → map (renamed at.map_to) remain ≡ left → Comes c j left
              way remain left items named are =
                  own_step c j (tail m) es at (tail n) u.others eq (doing (split there.0 (end_of program at.item u.others)) (start_item at.item u.others))
                  (subst (λ o. Has (split_at program at.item u.others o) (doing (split there.0 (end_of program at.item u.others)) (start_item at.item u.others))) (sym there.1) (inl refl))
                  at.map_to (λ i l. refl) remain left
                  (satisfied c j (tail m) es at at.map_to (λ i l. refl) (graph_facts 0 at.item.kept.graph) (0 + count at.item.kept.graph) (moved 0 at.item.kept.imposed) (split there.0 (end_of program at.item u.others) ∷ []) u.others remain
                  (zero_low c j (tail m) es at) (own_holds c j (tail m) es at at.map_to (λ i l. refl)) items)
                  named are

              empty_way : IsEmptyList h program s tl → Comes c j es
              empty_way empty =
                  way u.others es (inl (subst (IsEmptyList h program s) (sym arrives) empty, holds_end c j (tail m) es at at.map_to (λ i l. refl) u.others, refl)) below u.others_are

              longer_way : IsNonEmptyList h program s tl → Comes c j (member tl ∷ tail tl ∷ es)
              longer_way longer =
                  way (member there.0 ∷ tail there.0 ∷ u.others) (member tl ∷ tail tl ∷ es) (inr (subst (IsNonEmptyList h program s) (sym arrives) longer, refl))
                  (let small = low in opened_below there.0 (0 + count at.item.kept.graph) u.others (omega arith) below)
                  (ap (λ z. member z ∷ tail z ∷ map (renamed at.map_to) u.others) arrives ∙ ap (λ z. member tl ∷ tail tl ∷ z) u.others_are)

  -- where an item meets a passive one that begins where it ends
  module _ (c : Ctx) (j : ℕ) (e : Element) (es : List Element) (at : At c j (e ∷ es)) (y : ChartItem) (has_y : Has all y) (passive : y.rest ≡ []) (begins : y.from ≡ j) (f : ℕ → ℕ) (mor : IsMorphismAside h y.kept.graph s f) where
    other : IsItem h program y
    other = closed.item y has_y

    abbrev size : ℕ
    size = 0 + count at.item.kept.graph

    -- both maps, side by side
    abbrev both : ℕ → ℕ
    both = beside (0 + count at.item.kept.graph) at.map_to f

    both_same : (n : ℕ) → n < count at.item.kept.graph → both n ≡ at.map_to n
    both_same n low = beside_low size at.map_to f n (omega arith)

    both_root : both (size + y.root) ≡ f y.root
    both_root = beside_from size at.map_to f y.root

    both_into : (n : ℕ) → n < size + count y.kept.graph → both n < count s
    both_into n less = go (cases_lt n size)
      where
        go : (n < size) ⊎ (size ≤ n) → both n < count s
        go (inl l) = subst (λ z. z < count s) (sym (beside_low size at.map_to f n l)) (at.is.into n (omega arith))
        go (inr r) = subst (λ z. z < count s) (sym (beside_high size at.map_to f n r)) (mor.into (n - size) (omega arith))

    both_hold : Holds h s both (graph_facts 0 at.item.kept.graph ++ graph_facts size y.kept.graph)
    both_hold =
        holds_both h s both (graph_facts 0 at.item.kept.graph) (graph_facts size y.kept.graph) (own_holds c j e es at both both_same)
        (put_from puts h s size y.kept.graph f both other.is.structure mor (λ n low. beside_from size at.map_to f n))

    -- the task of a start with the other item stands among those of the two
    pair_ran : (e' : Element) (es' : List Element) → at.item.rest ≡ e' ∷ es' → (st : State) → Has (daughter_start program at.item e' es' y) st → Ran h program all (item_task extract at.item y.to st)
    pair_ran e' es' eq st has =
        closed.meets_ran at.item y at.has has_y (item_task extract at.item y.to st)
        (subst (λ z. Has (daughter_tasks extract program at.item z y y.rest) (item_task extract at.item y.to st)) (sym eq)
        (subst (λ z. Has (daughter_tasks extract program at.item (e' ∷ es') y z) (item_task extract at.item y.to st)) (sym passive) (taken (eqb at.item.to y.from) (eq-eqb at.item.to y.from (at.to ∙ sym begins)))))
      where
        in_tasks : (sts : List State) → Has sts st → Has (map (item_task extract at.item y.to) sts) (item_task extract at.item y.to st)
        in_tasks [] has = absurd has
        in_tasks (z ∷ sts) (inl p) = inl (ap (item_task extract at.item y.to) p)
        in_tasks (z ∷ sts) (inr p) = inr (in_tasks sts p)

        taken : (b : Bool) → b ≡ true → Has (if b then map (item_task extract at.item y.to) (daughter_start program at.item e' es' y) else []) (item_task extract at.item y.to st)
        taken true p = in_tasks (daughter_start program at.item e' es' y) has
        taken false p = absurd cc

    pair_step : (e' : Element) (es' : List Element) → at.item.rest ≡ e' ∷ es' → map (renamed at.map_to) es' ≡ es → (st : State) → Has (daughter_start program at.item e' es' y) st → Satisfies (gr h program ok runs) s (sense_of c both) st es' → Comes c y.to es
    pair_step e' es' eq are st has sat =
        let start : IsStart h at.item st = daughter_is h program ok.lawful at.item (closed.item at.item at.has) e' es' eq y other st has in
        let far = start.far in
        let root = (closed.item at.item at.has).is.root_below in
        arrive c at.item at.number at.from y.to st start (omega arith) (pair_ran e' es' eq st has) both (both_same at.item.root root ∙ at.root_to) es' es sat
        (below_more c j e es at st.next far es' (others_below c j e es at e' es' eq)) (others_go c j e es at both both_same e' es' eq are)

    -- a daughter by a description, a head among them
    pair_described : (d : Description) (e' : Element) (es' : List Element) → at.item.rest ≡ e' ∷ es' → map (renamed at.map_to) es' ≡ es →
        Has (daughter_start program at.item e' es' y) (doing (on (root_beside at.item es' y) (holds 0 d)) (side_by_side program at.item es' y)) → HoldsAt h s c.assign d (f y.root) → Comes c y.to es
    pair_described d e' es' eq are has holds_d =
        pair_step e' es' eq are (doing (on (root_beside at.item es' y) (holds 0 d)) (side_by_side program at.item es' y)) has
        (satisfied c j e es at both both_same (graph_facts 0 at.item.kept.graph ++ graph_facts size y.kept.graph) (size + count y.kept.graph) (moved 0 at.item.kept.imposed ++ moved size y.kept.imposed)
        (on (size + y.root) (holds 0 d) ∷ (end_items (end_of program at.item es') ++ [])) es' es' both_into both_hold
        (subst (HoldsAt h s c.assign d) (sym both_root) holds_d, ends_hold c j e es at both (end_of program at.item es') es' (holds_end c j e es at both both_same es')))

    -- the first member of a list node
    pair_member : (n k : ℕ) (es' : List Element) → at.item.rest ≡ member n ∷ es' → map (renamed at.map_to) es' ≡ es → hd_of program.lists at.item.kept.graph n ≡ Some k → at.map_to k ≡ f y.root → Comes c y.to es
    pair_member n k es' eq are there goes =
        let low : k < count at.item.kept.graph = hd_below at.item.kept.graph (closed.item at.item at.has).is.structure.formed program.lists n k there in
        pair_step (member n) es' eq are (told (Same k (root_beside at.item es' y)) (side_by_side program at.item es' y))
        (subst (λ o. Has (same_as (side_by_side program at.item es' y) (root_beside at.item es' y) o) (told (Same k (root_beside at.item es' y)) (side_by_side program at.item es' y))) (sym there) (inl refl))
        (satisfied c j e es at both both_same ((graph_facts 0 at.item.kept.graph ++ graph_facts size y.kept.graph) ++ Same k (size + y.root) ∷ []) (size + count y.kept.graph) (moved 0 at.item.kept.imposed ++ moved size y.kept.imposed)
        (end_items (end_of program at.item es') ++ []) es' es' both_into
        (holds_both h s both (graph_facts 0 at.item.kept.graph ++ graph_facts size y.kept.graph) (Same k (size + y.root) ∷ []) both_hold (λ x has. same x has (both_same k low ∙ goes ∙ sym both_root)))
        (ends_hold c j e es at both (end_of program at.item es') es' (holds_end c j e es at both both_same es')))
      where
        same : (x : Fact) → Has (Same k (size + y.root) ∷ []) x → both k ≡ both (size + y.root) → HoldsFact h s both x
        same x (inl p) q = subst (HoldsFact h s both) (sym p) q
        same x (inr p) q = absurd p

  -- an item over the places that the daughter spans
  abbrev pub Covered : ℕ → ℕ → ℕ → Type 0
  Covered n i k = IsCovered h all s n i k

  step_cat : (c : Ctx) (i j : ℕ) (d : Description) (es : List Element) (m : ℕ) → At c i (cat d ∷ es) → HoldsAt h s c.assign d m → Covered m i j → Comes c j es
  step_cat c i j d es m at holds_d r = go (uncons at.map_to at.item.rest (cat d) es at.rest)
    where
      go : Uncons at.map_to at.item.rest (cat d) es → Comes c j es
      go u =
          subst (λ k. Comes c k es) r.to
          (pair_described c i (cat d) es at r.item r.has r.passive r.from r.subsumes.map r.subsumes.is d (cat d) u.others (u.are ∙ ap (λ z. z ∷ u.others) (is_cat at.map_to u.first d u.first_is)) u.others_are (inl refl)
          (subst (HoldsAt h s c.assign d) (sym r.subsumes.root_to) holds_d))

  step_head : (c : Ctx) (i j : ℕ) (d : Description) (es : List Element) (m : ℕ) → At c i (sem_head d ∷ es) → HoldsAt h s c.assign d m → Covered m i j → Comes c j es
  step_head c i j d es m at holds_d r = go (uncons at.map_to at.item.rest (sem_head d) es at.rest)
    where
      go : Uncons at.map_to at.item.rest (sem_head d) es → Comes c j es
      go u =
          subst (λ k. Comes c k es) r.to
          (pair_described c i (sem_head d) es at r.item r.has r.passive r.from r.subsumes.map r.subsumes.is d (sem_head d) u.others (u.are ∙ ap (λ z. z ∷ u.others) (is_head at.map_to u.first d u.first_is)) u.others_are (inl refl)
          (subst (HoldsAt h s c.assign d) (sym r.subsumes.root_to) holds_d))

  step_member : (c : Ctx) (i j : ℕ) (es : List Element) (m hd : ℕ) → At c i (member m ∷ es) → IsHd program s m hd → Covered hd i j → Comes c j es
  step_member c i j es m hd at is_hd r = go (uncons at.map_to at.item.rest (member m) es at.rest)
    where
      go : Uncons at.map_to at.item.rest (member m) es → Comes c j es
      go u = named_by (is_member at.map_to u.first m u.first_is)
        where
          named_by : (n : ℕ) × (u.first ≡ member n) × (at.map_to n ≡ m) → Comes c j es
          named_by (n, is, goes) =
              let eq : at.item.rest ≡ member n ∷ u.others = u.are ∙ ap (λ z. z ∷ u.others) is in
              let there = (first_left h program ok.lawful at.item (closed.item at.item at.has) (member n) u.others eq).there in
              let arrives : at.map_to there.0 ≡ hd = hd_goes program.lists at.item.kept.graph s at.map_to at.is.values n there.0 m hd goes there.1 is_hd in
              subst (λ k. Comes c k es) r.to
              (pair_member c i (member m) es at r.item r.has r.passive r.from r.subsumes.map r.subsumes.is n there.0 u.others eq u.others_are there.1 (arrives ∙ sym r.subsumes.root_to))

  -- the places of what is covered are ones of the sentence
  covered_place : (n i k : ℕ) → Covered n i k → k ≤ length sentence
  covered_place n i k r = subst (λ z. z ≤ length sentence) r.to (closed.place r.item r.has)

  -- the item with which a rule begins goes where its mother holds
  one_goes : (slots n : ℕ) → n < count s → IsMorphismAside h (one_node slots).graph s (λ k. n)
  one_goes slots n low = record { into = λ k less. low; types = λ k less. types k; values = λ k f m e. values k f m e; differs = λ a b has. absurd has }
    where
      bot : Above h 0 (type_of s n)
      bot = ok.lawful.bottom (type_of s n) (model.structure.total.types n low)

      types : (k : ℕ) → Above h (type_of (one_node slots).graph k) (type_of s n)
      types zero = bot
      types (suc k) = bot

      values : (k f m : ℕ) → value_of (one_node slots).graph k f ≡ Some m → value_of s n f ≡ Some n
      values zero f m e = absurd (none_some e)
      values (suc k) f m e = absurd (none_some e)

  first_comes : (c : Ctx) (r : Rule) → Has program.rules r → c.mother ≡ r.mother → c.node < count s → c.from ≤ length sentence → Comes c c.from r.elements
  first_comes c r has mother low place = go r.elements refl (closed.at_rule c.from place r has)
    where
      fits : FitsRule h r
      fits = ok.fits.rules r has

      go : (es : List Element) → r.elements ≡ es → (k : ℕ) × (mother_at program.rules (Some k) ≡ Some r.mother) × Has all (record { from = c.from; to = c.from; kept = one_node r.slots; root = 0; rule = Some k; rest = r.elements }) → Comes c c.from es
      go [] eq first = absurd (subst (λ z. Has z fits.daughter.0) eq fits.daughter.1)
      go (e ∷ es) eq first = record {
        item = record { from = c.from; to = c.from; kept = one_node r.slots; root = 0; rule = Some first.0; rest = r.elements };
        has = first.2;
        number = first.1 ∙ ap Some (sym mother);
        from = refl;
        to = refl;
        map_to = λ k. c.node;
        is = one_goes r.slots c.node low;
        root_to = refl;
        rest = rule_renamed h (λ k. c.node) r.slots r.elements fits.elements ∙ eq;
        env = λ v n b. absurd (none_bound r.slots 0 v n b);
      }

  list_inside : (m i j : ℕ) → ListSpans h program s sentence m i j → m < count s
  list_inside _ _ _ (ends m i low empty) = low
  list_inside _ _ _ (goes_on m hd tl i j k low cell spans others) = low

  module _ (all_words : AreAllWords h program words) where
    standing : (e : Entry) (n i k : ℕ) → Has all (passive_of i k e) → StandsAt h s e n → Covered n i k
    standing e n i k has at = record { item = passive_of i k e; has = has; passive = refl; from = refl; to = refl; subsumes = record { map = at.map; is = at.is; root_to = at.root_to } }

    -- by induction on the derivation
    mutual
      pub span_on : (n i k : ℕ) → i ≤ length sentence → Spans h program s sentence n i k → Covered n i k
      span_on _ _ _ place (by_word n i w at lexical) =
          let r = all_words.entries s model w n lexical in
          standing r.0 n i (suc i) (closed.at_word i w at r.0 r.1 r.2) r.3
      span_on _ _ _ place (by_empty n i is) =
          let r = all_words.empties s model n is in
          standing r.0 n i i (closed.at_empty i place r.0 r.1) r.2
      span_on _ _ _ place (by_rule n i k r assign has inside low holds_m covers) =
          cover_on (record { mother = r.mother; assign = assign; inside = inside; node = n; from = i; holds = holds_m }) r.elements i k place covers
          (first_comes (record { mother = r.mother; assign = assign; inside = inside; node = n; from = i; holds = holds_m }) r has refl low place)

      cover_on : (c : Ctx) (es : List Element) (i k : ℕ) → i ≤ length sentence → Covers h program s sentence c.assign es i k → Comes c i es → Covered c.node c.from k
      cover_on c _ _ _ place (no_more assign i) comes = comes
      cover_on c _ _ _ place (by_cat assign d es m i j k holds_d spans covers) at =
          let r = span_on m i j place spans in
          cover_on c es j k (covered_place m i j r) covers (step_cat c i j d es m at holds_d r)
      cover_on c _ _ _ place (by_head assign d es m i j k holds_d spans covers) at =
          let r = span_on m i j place spans in
          cover_on c es j k (covered_place m i j r) covers (step_head c i j d es m at holds_d r)
      cover_on c _ _ _ place (by_cats assign d es m i j k holds_d spans covers) at =
          let r = list_on c es m i j place spans (step_cats c i d es m at (list_inside m i j spans) holds_d) in
          cover_on c es j k r.1 covers r.0
      cover_on c _ _ _ place (by_goal assign g es i k derivable covers) at = cover_on c es i k place covers (step_goal c i g es at derivable)
      cover_on c _ _ _ place (by_member assign es m hd i j k is_hd spans covers) at =
          let r = span_on hd i j place spans in
          cover_on c es j k (covered_place hd i j r) covers (step_member c i j es m hd at is_hd r)
      cover_on c _ _ _ place (by_tail assign es m tl i j k is_tl spans covers) at =
          let r = list_on c es tl i j place spans (step_tail c i es m tl at is_tl) in
          cover_on c es j k r.1 covers r.0

      list_on : (c : Ctx) (es : List Element) (m i k : ℕ) → i ≤ length sentence → ListSpans h program s sentence m i k → Opens c i m es → Comes c k es × (k ≤ length sentence)
      list_on c es _ _ _ place (ends m i low empty) opens = (opens.0 empty, place)
      list_on c es _ _ _ place (goes_on m hd tl i j k low cell spans others) opens =
          let r = span_on hd i j place spans in
          list_on c es tl j k (covered_place hd i j r) others (step_tail c j es m tl (step_member c i j (tail m ∷ es) m hd (opens.1 cell.is_list) cell.hd_is r) cell.tl_is)
