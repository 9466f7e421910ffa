-- The laws of a single visit: it ends for want of a closure, imposes what is owed, or does the first item.
use Rattle.std.proofs.Common.{◌≡◌, ℕ, suc, ◌+◌, ◌<◌, ◌≤◌, List, [], ◌∷◌, ◌++◌, length, ◌⊎◌, inl, inr, refl, sym, ap, ◌∙◌, subst, arith, Option, Some, None}
use Rattle.std.proofs.lemmas.List.{append_assoc}
use Rattle.ale_declared.specs.Lists.{Has, sum_over}
use Rattle.ale_hierarchy.specs.Hierarchy.{Hierarchy, Above, IsLawful}
use Rattle.ale_graph.specs.declared.closed.Closed.{Closed}
use Rattle.ale_graph.specs.Structures.{Structure, IsStructure, type_of}
use Rattle.ale_graph.specs.Closure.{close, class_of, node_of}
use Rattle.ale_graph.specs.Universal.{IsClosure, ClosesTo, ClosureLaw}
use Rattle.ale_graph.proofs.Lists.{has_either, some_one}
use Rattle.ale_logic.specs.Descriptions.{of_type, HoldsAt}
use Rattle.ale_logic.specs.Goals.{Goal, yes, cut, each, either, equal, call, unless, if_else, once, IsPlain}
use Rattle.ale_logic.specs.Programs.{Element, Constraint, goal_of}
use Rattle.ale_logic.specs.Derivations.{Derivable}
use Rattle.ale_logic.specs.Models.{MeetsConstraint, MeetsAt, constraint_at, IsModel}
use Rattle.ale_logic.specs.Words.{Grammar}
use Rattle.ale_logic.specs.States.{holds, Item, on, take, derive, called, cuts, stop, split, pivot, connect, State, doing, with_env, imposing, chosen, numbered}
use Rattle.ale_logic.specs.GoalKids.{doing_goal, with_constraint}
use Rattle.ale_engine.specs.Engine.{answers, goes}
use Rattle.ale_logic.specs.Visits.{kids, stay, stay_after, Owed, owed, closed_at, Answer, visit_item, visit_owed, visit_of, visit}
use Rattle.ale_logic.specs.Satisfaction.{Sense, HoldItems, Satisfies, Agrees}
use Rattle.ale_logic.specs.WellFormed.{scope_of, FitsItem, FitItems, IsState, IsPlainItem, IsQuietItem, Each, ArePlainItems, AreQuietItems, IsSaidOnce, times_sought}
use Rattle.ale_logic.specs.Steps.{IsGrammar, IsAccounted, SatisfiesBefore, SatisfiesOne, IsKid, IsAnswerOf, IsVisitKid, StepLaw, IsInFragment, LogicLaw, StepLaws, LogicLaws}
use Rattle.ale_step_law.proofs.Closures.{fulfils_given, value_below, value_holds, value_there}
use Rattle.ale_step_law.proofs.Wider.{wider_on, item_wider}
use Rattle.ale_step_law.proofs.Growing.{Goes, chosen_state, closed_wider, closed_goes}
use Rattle.ale_step_law.proofs.Senses.{with_assignment, var_new}
use Rattle.ale_step_law.proofs.Agreeing.{sat_agrees}
use Rattle.ale_step_law.proofs.Carrying.{doing_down, doing_up, env_down, env_up, imposing_down, imposing_up, chosen_down, chosen_up, agrees_assignment}
use Rattle.ale_step_law.proofs.Every.{every_one, one_new}
use Rattle.ale_step_law.proofs.On.{constraint_on, kids_on}
use Rattle.ale_step_law.proofs.Follows.{Follows, tally, constraint_follows, kids_follow}
use Rattle.ale_step_law.proofs.Owing.{IsOwed, owed_is, nothing_owed}
use Rattle.ale_step_law.proofs.Tables.{kids_back, kids_up}

pub goes_on : (h : Hierarchy) (a b c : State) → Goes h a b → Goes h b c → Goes h a c
goes_on h a b c p q = record {
  is = q.is;
  wider = wider_on (scope_of a) (scope_of b) (scope_of c) p.wider q.wider;
  imposed = (p.imposed.0 ++ q.imposed.0, q.imposed.1 ∙ ap (λ z. z ++ q.imposed.0) p.imposed.1 ∙ append_assoc a.imposed p.imposed.0 q.imposed.0);
  choices = q.choices ∙ p.choices;
}

-- a kid with its number
record IsNumbered (sts : List State) (kid : State) : Type 0 where
  pub number : ℕ
  pub state : State
  pub has : Has sts state
  pub is : kid ≡ chosen number state

numbered_from : (k : ℕ) (sts : List State) (kid : State) → Has (numbered k sts) kid → IsNumbered sts kid
numbered_from k [] kid has = absurd has
numbered_from k (st ∷ sts) kid (inl e) = record { number = k; state = st; has = inl refl; is = e }
numbered_from k (st ∷ sts) kid (inr has) = let r = numbered_from (suc k) sts kid has in record { number = r.number; state = r.state; has = inr r.has; is = r.is }

numbered_has : (k : ℕ) (sts : List State) (st : State) → Has sts st → (n : ℕ) × Has (numbered k sts) (chosen n st)
numbered_has k [] st has = absurd has
numbered_has k (x ∷ sts) st (inl e) = (k, inl (ap (chosen k) e))
numbered_has k (x ∷ sts) st (inr has) = let r = numbered_has (suc k) sts st has in (r.0, inr r.1)

only_one : {A : Type 0} (a b : A) → Has (a ∷ []) b → b ≡ a
only_one a b (inl e) = e
only_one a b (inr e) = absurd e

account : (gr : Grammar) (s : Structure) (x : Sense) (given : List (ℕ × ℕ)) (pair : ℕ × ℕ) → MeetsAt gr.signature gr.program s pair.1 (x.node pair.0) → (z : ℕ × ℕ) → Has given z ⊎ Has (pair ∷ []) z → IsAccounted gr s x given z
account gr s x given pair m z (inl k) = inl k
account gr s x given pair m z (inr (inl e)) = subst (IsAccounted gr s x given) (sym e) (inr (inl m))
account gr s x given pair m z (inr (inr e)) = absurd e

-- the three ways of a visit that goes on
record Ends (gr : Grammar) (waiting : ℕ) (st : State) (n : ℕ) (ks : List State) : Type 0 where
  pub none : ClosesTo gr.signature st.facts st.next None
  pub stays : n ≡ waiting
  pub kids_are : ks ≡ []

record Imposes (gr : Grammar) (waiting : ℕ) (st : State) (n : ℕ) (ks : List State) : Type 0 where
  pub closed : Closed
  pub closure : IsClosure gr.signature st.facts st.next closed
  pub due : Owed
  pub is_owed : IsOwed gr closed due
  pub stays : n ≡ waiting
  pub kids_are : ks ≡ numbered 0 (with_constraint waiting due.class due.number due.constraint (closed_at closed st.agenda st) ∷ [])

record Does (gr : Grammar) (waiting : ℕ) (st : State) (n : ℕ) (ks : List State) : Type 0 where
  pub closed : Closed
  pub closure : IsClosure gr.signature st.facts st.next closed
  pub item : Item
  pub others : List Item
  pub agenda : st.agenda ≡ item ∷ others
  pub stays : n ≡ stay waiting item
  pub kids_are : ks ≡ numbered 0 (kids gr waiting closed item (closed_at closed others st))

abbrev Way : Grammar → ℕ → State → ℕ → List State → Type 0
Way gr waiting st n ks = Ends gr waiting st n ks ⊎ (Imposes gr waiting st n ks ⊎ Does gr waiting st n ks)

way_of : ClosureLaw → (gr : Grammar) (waiting : ℕ) (st : State) → IsLawful gr.signature → IsState gr.signature st → (n : ℕ) (ks : List State) → goes n ks ≡ visit gr waiting st → Way gr waiting st n ks
unfolding visit
way_of closes gr waiting st law is n ks e = closing (close gr.signature st.facts st.next) (closes gr.signature st.facts st.next law is.facts) e
  where
    items : (c : Closed) → IsClosure gr.signature st.facts st.next c → (agenda : List Item) → st.agenda ≡ agenda → goes n ks ≡ visit_item gr waiting c agenda st → Way gr waiting st n ks
    items c k [] same q = absurd cc
    items c k (i ∷ is) same q = inr (inr (record { closed = c; closure = k; item = i; others = is; agenda = same; stays = cc; kids_are = cc }))

    owing : (c : Closed) → IsClosure gr.signature st.facts st.next c → (o : Option Owed) → owed gr c st.imposed ≡ o → goes n ks ≡ visit_owed gr waiting c o st → Way gr waiting st n ks
    owing c k None due q = items c k st.agenda refl q
    owing c k (Some o) due q = inr (inl (record { closed = c; closure = k; due = o; is_owed = owed_is gr c st.imposed o due; stays = cc; kids_are = cc }))

    closing : (o : Option Closed) → ClosesTo gr.signature st.facts st.next o → goes n ks ≡ visit_of gr waiting o st → Way gr waiting st n ks
    closing None k q = inl (record { none = k; stays = cc; kids_are = cc })
    closing (Some c) k q = owing c k (owed gr c st.imposed) refl q

answer_of : ClosureLaw → (gr : Grammar) (waiting : ℕ) (st : State) → IsLawful gr.signature → IsState gr.signature st → (a : Answer) → answers a ≡ visit gr waiting st → IsAnswerOf gr st a
unfolding visit
answer_of closes gr waiting st law is a e = closing (close gr.signature st.facts st.next) (closes gr.signature st.facts st.next law is.facts) e
  where
    items : (c : Closed) → IsClosure gr.signature st.facts st.next c → owed gr c st.imposed ≡ None → (agenda : List Item) → st.agenda ≡ agenda → answers a ≡ visit_item gr waiting c agenda st → IsAnswerOf gr st a
    items c k due [] same q =
        let are : record { closed = c; state = st } ≡ a = cc in
        subst (λ (z : Answer). IsAnswerOf gr st z) are (record { state = refl; closure = k; nothing = same; all_imposed = nothing_owed gr st c k due })
    items c k due (i ∷ is) same q = absurd cc

    owing : (c : Closed) → IsClosure gr.signature st.facts st.next c → (o : Option Owed) → owed gr c st.imposed ≡ o → answers a ≡ visit_owed gr waiting c o st → IsAnswerOf gr st a
    owing c k None due q = items c k due st.agenda refl q
    owing c k (Some o) due q = absurd cc

    closing : (o : Option Closed) → ClosesTo gr.signature st.facts st.next o → answers a ≡ visit_of gr waiting o st → IsAnswerOf gr st a
    closing None k q = absurd cc
    closing (Some c) k q = owing c k (owed gr c st.imposed) refl q

-- an item in whose place a constraint is imposed: it seeks nothing
abbrev idle : Item
idle = on 0 (holds 0 (of_type 0))

-- A kid of the state at its closure, before it has its number.
module _ (gr : Grammar) (st kid : State) (k : ℕ) (g : Goes gr.signature st kid) where
  kid_of : (IsSaidOnce st → IsSaidOnce kid) → (AreQuietItems st.agenda → AreQuietItems kid.agenda × (kid.said ≡ st.said)) → IsKid gr st (chosen k kid)
  kid_of found quiet = record {
    is = chosen_state gr.signature k kid g.is;
    next = g.wider.next;
    envs = g.wider.envs;
    lengths = g.wider.lengths;
    phrases = g.wider.phrases;
    imposed = g.imposed;
    choices = (k, ap (λ z. z ++ k ∷ []) g.choices);
    once = found;
    quiet = quiet;
  }

-- words are found once for each phrase of a kid
once_of : (gr : Grammar) (st base kid : State) (i : Item) → ((g : ℕ) → tally g st ≡ times_sought g i + tally g base) → base.phrases ≡ st.phrases → Follows gr base i kid → IsSaidOnce st → IsSaidOnce kid
once_of gr st base kid i before same f found g low = go (grind arith)
  where
    go : (g < base.phrases) ⊎ (base.phrases ≤ g) → tally g kid ≡ 1
    go (inl old) =
        let a = f.old g old in
        let b = before g in
        let c : tally g st ≡ 1 = found g (omega arith) in
        omega (arith, a, b, c)
    go (inr new) = f.new g new low

module _ (closes : ClosureLaw) (gr : Grammar) (waiting : ℕ) (st : State) (grammar : IsGrammar gr) (is : IsState gr.signature st) where
  -- the state at its closure without its first item
  fit : (i : Item) (others : List Item) → st.agenda ≡ i ∷ others → FitsItem gr.signature (scope_of st) i × FitItems gr.signature (scope_of st) others
  fit i others agenda = subst (FitItems gr.signature (scope_of st)) agenda is.items

  base_goes : (c : Closed) → IsClosure gr.signature st.facts st.next c → (i : Item) (others : List Item) → st.agenda ≡ i ∷ others → Goes gr.signature st (closed_at c others st)
  base_goes c k i others agenda = closed_goes gr.signature st c k is others (fit i others agenda).1

  base_fit : (c : Closed) → IsClosure gr.signature st.facts st.next c → (i : Item) (others : List Item) → st.agenda ≡ i ∷ others → FitsItem gr.signature (scope_of (closed_at c others st)) i
  base_fit c k i others agenda = item_wider gr.signature (scope_of st) (scope_of (closed_at c others st)) (closed_wider gr.signature st c k others) i (fit i others agenda).0

  are_states : (kid : State) → IsVisitKid gr waiting st kid → IsKid gr st kid
  are_states kid v = go (way_of closes gr waiting st grammar.lawful is v.stay v.kids v.goes_on)
    where
      go : Way gr waiting st v.stay v.kids → IsKid gr st kid
      go (inl w) = absurd (subst (λ z. Has z kid) w.kids_are v.has)
      go (inr (inl w)) =
          let o : Owed = w.due in
          let base : State = closed_at w.closed st.agenda st in
          let r = numbered_from 0 (with_constraint waiting o.class o.number o.constraint base ∷ []) kid (subst (λ z. Has z kid) w.kids_are v.has) in
          let g : Goes gr.signature st base = closed_goes gr.signature st w.closed w.closure is st.agenda is.items in
          let on_kid = every_one (Goes gr.signature base) (with_constraint waiting o.class o.number o.constraint base) (constraint_on gr.signature grammar.lawful base g.is waiting o.class o.number o.constraint w.is_owed.below (grammar.program.constraints o.constraint w.is_owed.has)) r.state r.has in
          let f = every_one (Follows gr base idle) (with_constraint waiting o.class o.number o.constraint base) (constraint_follows gr base waiting o.class o.number o.constraint w.is_owed.has) r.state r.has in
          subst (IsKid gr st) (sym r.is)
          (kid_of gr st r.state r.number (goes_on gr.signature st base r.state g on_kid) (once_of gr st base r.state idle (λ g. omega arith) refl f) (λ q. f.quiet tt q))
      go (inr (inr w)) =
          let base : State = closed_at w.closed w.others st in
          let r = numbered_from 0 (kids gr waiting w.closed w.item base) kid (subst (λ z. Has z kid) w.kids_are v.has) in
          let g : Goes gr.signature st base = base_goes w.closed w.closure w.item w.others w.agenda in
          let fits = base_fit w.closed w.closure w.item w.others w.agenda in
          let on_kid = kids_on gr grammar.lawful grammar.program grammar.words waiting w.closed base g.is (λ n f m e. value_below gr.signature st.facts st.next w.closed w.closure (class_of w.closed n) f m e) w.item fits r.state r.has in
          let f = kids_follow gr base g.is waiting w.closed w.item fits r.state r.has in
          subst (IsKid gr st) (sym r.is)
          (kid_of gr st r.state r.number (goes_on gr.signature st base r.state g on_kid)
          (once_of gr st base r.state w.item (λ g. let a : sum_over (times_sought g) st.agenda ≡ times_sought g w.item + sum_over (times_sought g) w.others = ap (sum_over (times_sought g)) w.agenda in omega (arith, a)) refl f)
          (λ q. let p = subst (Each IsQuietItem) w.agenda q in f.quiet p.0 p.1))

  -- a state at its closure is satisfied in a sense that goes on
  record IsClosedSense (c : Closed) (s : Structure) (x : Sense) (remain : List Element) : Type 0 where
    pub sense : Sense
    pub agrees : Agrees st sense x
    pub satisfies : Satisfies gr s sense (closed_at c st.agenda st) remain
    pub takes : (a : ℕ) → a < c.next → (t : ℕ) → Above gr.signature t (type_of c.graph (node_of c a)) → Above gr.signature t (type_of s (sense.node a))

  closed_sense : (c : Closed) → IsClosure gr.signature st.facts st.next c → (s : Structure) (x : Sense) (remain : List Element) → IsStructure gr.signature s → Satisfies gr s x st remain → IsClosedSense c s x remain
  closed_sense c k s x remain str sat =
      let u = k.universal s x.node str sat.fulfils in
      let y : Sense = record x { node = u.extension.new } in
      let agrees : Agrees st y x = record { node = u.extension.agrees; var = λ e low. refl; words = λ g low. refl } in
      let q = sat_agrees gr s st y x remain agrees is sat.nodes sat in
      record {
        sense = y;
        agrees = agrees;
        satisfies = record { fulfils = u.extension.fulfils; nodes = q.nodes; is_bound = q.is_bound; is_said = q.is_said; items = q.items };
        takes = λ a low t above.
            let node = k.fulfils.into a low in
            let type = u.morphism.is.types (node_of c a) node in
            subst (λ z. Above gr.signature t (type_of s z)) (u.takes a low) (grammar.lawful.along t (type_of c.graph (node_of c a)) (type_of s (u.morphism.map (node_of c a))) above type);
      }

  -- from one of the closed state's kids to one of the state's
  one_on : (c : Closed) → IsClosure gr.signature st.facts st.next c → (others : List Item) (s : Structure) (y x : Sense) (remain : List Element) (sts ks : List State) → ks ≡ numbered 0 sts → Agrees st y x → SatisfiesOne gr s (closed_at c others st) y remain sts → SatisfiesOne gr s st x remain ks
  one_on c k others s y x remain sts ks are agrees p =
      let r = numbered_has 0 sts p.state p.has in
      record {
        state = chosen r.0 p.state;
        has = subst (λ z. Has z (chosen r.0 p.state)) (sym are) r.1;
        sense = p.sense;
        agrees = record {
          node = λ n low. p.agrees.node n (let more = k.longer in omega arith) ∙ agrees.node n low;
          var = λ e low. p.agrees.var e low ∙ agrees.var e low;
          words = λ g low. p.agrees.words g low ∙ agrees.words g low;
        };
        satisfies = chosen_up gr s remain p.sense r.0 p.state p.satisfies;
      }

  -- upwards through a constraint that is imposed: the model meets it
  constraint_up : (base : State) → IsState gr.signature base → (n k : ℕ) (c : Constraint) (s : Structure) (y : Sense) (remain : List Element) → MeetsConstraint gr.signature gr.program s c (y.node n) → Satisfies gr s y base remain → SatisfiesOne gr s base y remain (with_constraint waiting n k c base ∷ [])
  constraint_up base state n k c s y remain m sat = one_new gr s base y remain z (with_constraint waiting n k c base) [] (agrees_assignment gr s remain y base m.assign) (go c.goal m.derived)
    where
      e : ℕ
      e = length base.envs

      z : Sense
      z = with_assignment y (length base.envs) m.assign

      new : z.var e ≡ m.assign
      new = var_new y (length base.envs) m.assign

      inner : Satisfies gr s z (imposing n k (with_env c.slots base)) remain
      inner = imposing_up gr s remain z n k (with_env c.slots base) (env_up gr s remain y c.slots m.assign base state m.nodes sat)

      here : HoldsAt gr.signature s (z.var e) c.desc (z.node n)
      here = subst (λ a. HoldsAt gr.signature s a c.desc (y.node n)) (sym new) m.holds

      go : (o : Option Goal) → Derivable gr.signature gr.program s m.assign (goal_of o) → Satisfies gr s z (doing (on n (holds (length base.envs) c.desc)) (doing_goal (length base.envs) waiting o (imposing n k (with_env c.slots base)))) remain
      go None d = doing_up gr s remain z (on n (holds (length base.envs) c.desc)) (imposing n k (with_env c.slots base)) tt here inner
      go (Some g) d =
          doing_up gr s remain z (on n (holds (length base.envs) c.desc)) (doing (derive (length base.envs) waiting g) (imposing n k (with_env c.slots base))) tt here
          (doing_up gr s remain z (derive (length base.envs) waiting g) (imposing n k (with_env c.slots base)) tt (subst (λ a. Derivable gr.signature gr.program s a g) (sym new) d) inner)

  up : (n : ℕ) (ks : List State) → goes n ks ≡ visit gr waiting st → (s : Structure) (x : Sense) (remain : List Element) → IsModel gr.signature gr.program s → Satisfies gr s x st remain → SatisfiesOne gr s st x remain ks
  up n ks e s x remain model sat = go (way_of closes gr waiting st grammar.lawful is n ks e)
    where
      go : Way gr waiting st n ks → SatisfiesOne gr s st x remain ks
      go (inl w) = absurd (w.none s x.node model.structure sat.fulfils)
      go (inr (inl w)) =
          let o : Owed = w.due in
          let y = closed_sense w.closed w.closure s x remain model.structure sat in
          let base : State = closed_at w.closed st.agenda st in
          let g : Goes gr.signature st base = closed_goes gr.signature st w.closed w.closure is st.agenda is.items in
          let inside = y.satisfies.fulfils.into o.class w.is_owed.below in
          let meets = model.meets (y.sense.node o.class) o.number o.constraint inside w.is_owed.numbered (y.takes o.class w.is_owed.below o.constraint.of w.is_owed.above) in
          one_on w.closed w.closure st.agenda s y.sense x remain (with_constraint waiting o.class o.number o.constraint base ∷ []) ks w.kids_are y.agrees
          (constraint_up base g.is o.class o.number o.constraint s y.sense remain meets y.satisfies)
      go (inr (inr w)) =
          let y = closed_sense w.closed w.closure s x remain model.structure sat in
          let base : State = closed_at w.closed w.others st in
          let g : Goes gr.signature st base = base_goes w.closed w.closure w.item w.others w.agenda in
          let fits = base_fit w.closed w.closure w.item w.others w.agenda in
          let all : Satisfies gr s y.sense (doing w.item base) remain = record {
            fulfils = y.satisfies.fulfils;
            nodes = y.satisfies.nodes;
            is_bound = y.satisfies.is_bound;
            is_said = y.satisfies.is_said;
            items = subst (λ z. HoldItems gr s y.sense z st.rest remain) w.agenda y.satisfies.items;
          } in
          one_on w.closed w.closure w.others s y.sense x remain (kids gr waiting w.closed w.item base) ks w.kids_are y.agrees
          (kids_up gr grammar.words grammar.program.rules waiting w.closed s y.sense remain base grammar.lawful model.structure g.is
          (λ n f low known there. value_there gr.signature st.facts st.next w.closed w.closure grammar.lawful n f there.0 low known there.1 there.2)
          (λ n f m e. value_holds gr.signature st.facts st.next w.closed w.closure s y.sense.node y.satisfies.fulfils.holds n f m e) w.item fits all)

  step_law_of : StepLaw gr waiting st
  step_law_of = record {
    kids_are_states = are_states;
    answer = answer_of closes gr waiting st grammar.lawful is;
    up = λ n ks e s x remain m. up n ks e s x remain m.model m.satisfies;
  }

  -- inside the fragment
  module _ (inside : IsInFragment gr st) where
    plain : (kid : State) → IsVisitKid gr waiting st kid → ArePlainItems kid.agenda
    plain kid v = go (way_of closes gr waiting st grammar.lawful is v.stay v.kids v.goes_on)
      where
        go : Way gr waiting st v.stay v.kids → ArePlainItems kid.agenda
        go (inl w) = absurd (subst (λ z. Has z kid) w.kids_are v.has)
        go (inr (inl w)) =
            let o : Owed = w.due in
            let base : State = closed_at w.closed st.agenda st in
            let r = numbered_from 0 (with_constraint waiting o.class o.number o.constraint base ∷ []) kid (subst (λ z. Has z kid) w.kids_are v.has) in
            let f = every_one (Follows gr base idle) (with_constraint waiting o.class o.number o.constraint base) (constraint_follows gr base waiting o.class o.number o.constraint w.is_owed.has) r.state r.has in
            subst (λ (z : State). ArePlainItems z.agenda) (sym r.is) (f.plain inside.program tt inside.items)
        go (inr (inr w)) =
            let base : State = closed_at w.closed w.others st in
            let r = numbered_from 0 (kids gr waiting w.closed w.item base) kid (subst (λ z. Has z kid) w.kids_are v.has) in
            let g : Goes gr.signature st base = base_goes w.closed w.closure w.item w.others w.agenda in
            let f = kids_follow gr base g.is waiting w.closed w.item (base_fit w.closed w.closure w.item w.others w.agenda) r.state r.has in
            let p = subst (Each IsPlainItem) w.agenda inside.items in
            subst (λ (z : State). ArePlainItems z.agenda) (sym r.is) (f.plain inside.program p.0 p.1)

    constraint_down : (base : State) (n k : ℕ) (c : Constraint) → Has gr.program.constraints c → (s : Structure) (x : Sense) (remain : List Element) → ((d : Constraint) → constraint_at gr.program k ≡ Some d → d ≡ c) → Satisfies gr s x (with_constraint waiting n k c base) remain →
        Satisfies gr s x base remain × MeetsAt gr.signature gr.program s k (x.node n)
    constraint_down base n k c has s x remain only sat = go c.goal sat (λ d. d)
      where
        e : ℕ
        e = length base.envs

        three : State
        three = imposing n k (with_env c.slots base)

        meets : (o : Option Goal) → (Derivable gr.signature gr.program s (x.var (length base.envs)) (goal_of o) → Derivable gr.signature gr.program s (x.var (length base.envs)) (goal_of c.goal)) → Satisfies gr s x (imposing n k (with_env c.slots base)) remain → HoldsAt gr.signature s (x.var (length base.envs)) c.desc (x.node n) → Derivable gr.signature gr.program s (x.var (length base.envs)) (goal_of o) →
            Satisfies gr s x base remain × MeetsAt gr.signature gr.program s k (x.node n)
        meets o is_goal inner here d =
            let last = env_down gr s remain x c.slots base (imposing_down gr s remain x n k (with_env c.slots base) inner) in
            let met : MeetsConstraint gr.signature gr.program s c (x.node n) = record { assign = x.var (length base.envs); nodes = last.nodes (length base.envs); holds = here; derived = is_goal d } in
            (last, λ d q. subst (λ z. MeetsConstraint gr.signature gr.program s z (x.node n)) (sym (only d q)) met)

        go : (o : Option Goal) → Satisfies gr s x (doing (on n (holds (length base.envs) c.desc)) (doing_goal (length base.envs) waiting o (imposing n k (with_env c.slots base)))) remain → (Derivable gr.signature gr.program s (x.var (length base.envs)) (goal_of o) → Derivable gr.signature gr.program s (x.var (length base.envs)) (goal_of c.goal)) →
            Satisfies gr s x base remain × MeetsAt gr.signature gr.program s k (x.node n)
        go None p is_goal =
            let r = doing_down gr s remain x (on n (holds (length base.envs) c.desc)) (imposing n k (with_env c.slots base)) tt p in
            meets None is_goal r.1 r.0 (0, tt)
        go (Some g) p is_goal =
            let r = doing_down gr s remain x (on n (holds (length base.envs) c.desc)) (doing (derive (length base.envs) waiting g) (imposing n k (with_env c.slots base))) tt p in
            let q = doing_down gr s remain x (derive (length base.envs) waiting g) (imposing n k (with_env c.slots base)) tt r.1 in
            meets (Some g) is_goal q.1 r.0 q.0

    constraint_imposed : (base : State) (n k : ℕ) (c : Constraint) → (with_constraint waiting n k c base).imposed ≡ base.imposed ++ (n, k) ∷ []
    constraint_imposed base n k c = go c.goal
      where
        go : (o : Option Goal) → (doing_goal (length base.envs) waiting o (imposing n k (with_env c.slots base))).imposed ≡ base.imposed ++ (n, k) ∷ []
        go None = refl
        go (Some g) = refl

    down : (kid : State) → IsVisitKid gr waiting st kid → (s : Structure) (x : Sense) (remain : List Element) → Satisfies gr s x kid remain → SatisfiesBefore gr s x st remain kid.imposed
    down kid v s x remain sat = go (way_of closes gr waiting st grammar.lawful is v.stay v.kids v.goes_on)
      where
        go : Way gr waiting st v.stay v.kids → SatisfiesBefore gr s x st remain kid.imposed
        go (inl w) = absurd (subst (λ z. Has z kid) w.kids_are v.has)
        go (inr (inl w)) =
            let o : Owed = w.due in
            let base : State = closed_at w.closed st.agenda st in
            let one : State = with_constraint waiting o.class o.number o.constraint base in
            let r = numbered_from 0 (one ∷ []) kid (subst (λ z. Has z kid) w.kids_are v.has) in
            let same : r.state ≡ one = only_one one r.state r.has in
            let kid_sat : Satisfies gr s x one remain = subst (λ z. Satisfies gr s x z remain) same (chosen_down gr s remain x r.number r.state (subst (λ z. Satisfies gr s x z remain) r.is sat)) in
            let p = constraint_down base o.class o.number o.constraint w.is_owed.has s x remain (λ d q. some_one (sym q ∙ w.is_owed.numbered)) kid_sat in
            let imposed : kid.imposed ≡ st.imposed ++ (o.class, o.number) ∷ [] = ap (λ (z : State). z.imposed) r.is ∙ ap (λ (z : State). z.imposed) same ∙ constraint_imposed base o.class o.number o.constraint in
            record {
              satisfies = record {
                fulfils = fulfils_given gr.signature st.facts st.next w.closed w.closure s x.node p.0.fulfils;
                nodes = p.0.nodes;
                is_bound = p.0.is_bound;
                is_said = p.0.is_said;
                items = p.0.items;
              };
              accounted = λ z k. account gr s x st.imposed (o.class, o.number) p.1 z (has_either st.imposed ((o.class, o.number) ∷ []) z (subst (λ l. Has l z) imposed k));
            }
        go (inr (inr w)) =
            let base : State = closed_at w.closed w.others st in
            let r = numbered_from 0 (kids gr waiting w.closed w.item base) kid (subst (λ z. Has z kid) w.kids_are v.has) in
            let kid_sat : Satisfies gr s x r.state remain = chosen_down gr s remain x r.number r.state (subst (λ z. Satisfies gr s x z remain) r.is sat) in
            let p = subst (Each IsPlainItem) w.agenda inside.items in
            let q = kids_back gr grammar.words grammar.program.rules waiting w.closed s x remain base
            (λ n f m e base_sat. value_holds gr.signature st.facts st.next w.closed w.closure s x.node base_sat.fulfils.holds n f m e) w.item (base_fit w.closed w.closure w.item w.others w.agenda) p.0 r.state r.has kid_sat in
            record {
              satisfies = record {
                fulfils = fulfils_given gr.signature st.facts st.next w.closed w.closure s x.node q.satisfies.fulfils;
                nodes = q.satisfies.nodes;
                is_bound = q.satisfies.is_bound;
                is_said = q.satisfies.is_said;
                items = subst (λ z. HoldItems gr s x z st.rest remain) (sym w.agenda) q.satisfies.items;
              };
              accounted = λ z k. q.accounted z (subst (λ l. Has l z) (ap (λ (u : State). u.imposed) r.is) k);
            }

    stays_after : (h : ℕ) (g : Goal) → IsPlain g → stay_after waiting h g ≡ waiting
    stays_after h yes p = refl
    stays_after h cut p = absurd p
    stays_after h (each gs) p = refl
    stays_after h (either gs) p = refl
    stays_after h (equal d e) p = refl
    stays_after h (call q ds) p = refl
    stays_after h (unless g) p = refl
    stays_after h (if_else g t f) p = refl
    stays_after h (once g t) p = refl

    stays_at : (i : Item) → IsPlainItem i → stay waiting i ≡ waiting
    stays_at (on n d) p = refl
    stays_at (take n f d) p = refl
    stays_at (derive e h g) p = stays_after h g p
    stays_at (called q ns) p = refl
    stays_at (cuts k) p = absurd p
    stays_at stop p = refl
    stays_at (split n end) p = refl
    stays_at (pivot sm t) p = refl
    stays_at (connect q us t) p = refl

    all_stay : (n : ℕ) (ks : List State) → goes n ks ≡ visit gr waiting st → n ≡ waiting
    all_stay n ks e = go (way_of closes gr waiting st grammar.lawful is n ks e)
      where
        go : Way gr waiting st n ks → n ≡ waiting
        go (inl w) = w.stays
        go (inr (inl w)) = w.stays
        go (inr (inr w)) = let p = subst (Each IsPlainItem) w.agenda inside.items in w.stays ∙ stays_at w.item p.0

    logic_law_of : LogicLaw gr waiting st
    logic_law_of = record { plain = plain; down = down; all_stay = all_stay }

pub step_law : ClosureLaw → StepLaws
step_law closes gr waiting st grammar is = step_law_of closes gr waiting st grammar is

pub logic_law : ClosureLaw → LogicLaws
logic_law closes gr waiting st grammar is inside = logic_law_of closes gr waiting st grammar is inside
