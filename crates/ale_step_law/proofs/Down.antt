-- Downwards: what satisfies a kid of a description's or a goal's item satisfies the state with the item.
use Rattle.std.proofs.Common.{◌≡◌, ℕ, suc, ◌+◌, ◌<◌, List, [], ◌∷◌, length, map, inl, inr, refl, sym, ◌∙◌, subst, arith, Option, Some, None}
use Rattle.ale_declared.specs.Lists.{Has}
use Rattle.ale_hierarchy.specs.Hierarchy.{Hierarchy}
use Rattle.ale_graph.specs.declared.fact.Fact.TheVariants.{OfType, Same, Differ}
use Rattle.ale_graph.specs.Structures.{Structure, count, value_of}
use Rattle.ale_logic.specs.Descriptions.{Description, Descriptions, slot, all, any, differs, none, more, how_many, LeadsTo, EndTogether, AllHoldAt}
use Rattle.ale_logic.specs.Goals.{Goal, Goals, yes, cut, each, either, equal, call, unless, if_else, once, no_goal, and_goal, IsPlain}
use Rattle.ale_logic.specs.Programs.{Element, Clause, ListTypes, clauses_of}
use Rattle.ale_logic.specs.ListNodes.{IsEmptyListOf, IsNonEmptyListOf}
use Rattle.ale_logic.specs.Derivations.{HoldEach, EachDerivableBy, Calls}
use Rattle.ale_logic.specs.Words.{Grammar}
use Rattle.ale_logic.specs.States.{Demand, holds, ends_with, leads, Item, on, take, derive, called, split, bound, env_at, State, told, doing, doing_all, grown, with_env, remaining}
use Rattle.ale_logic.specs.DescriptionKids.{stepping, leading, equating_paths, binding, items_at, alternatives, differing, taken}
use Rattle.ale_logic.specs.GoalKids.{numbers, items_each, goals, goal_alternatives, equating, calling, goal_kids, by_clause, clause_kids}
use Rattle.ale_logic.specs.GenerationKids.{ending, split_kids}
use Rattle.ale_logic.specs.Satisfaction.{Sense, HoldsEnd, HoldsItem, Satisfies}
use Rattle.ale_logic.specs.WellFormed.{AreBelow, Each}
use Rattle.ale_logic.specs.Steps.{SatisfiesBefore}
use Rattle.ale_step_law.proofs.Carrying.{IsWhole, told_down, doing_down, doing_all_down, grown_down, env_down, bind_down, doing_up}
use Rattle.ale_step_law.proofs.Every.{Every, every_none, every_more, every_one}
use Rattle.ale_step_law.proofs.Deeper.{derivable_more, each_more, calls_deeper, numbers_below, length_numbers}

pub whole_at : (e n : ℕ) (ds : Descriptions) → Each IsWhole (items_at e n ds)
whole_at e n none = tt
whole_at e n (more d ds) = (tt, whole_at e n ds)

pub whole_each : (e : ℕ) (ds : Descriptions) (ns : List ℕ) → Each IsWhole (items_each e ds ns)
whole_each e none ns = tt
whole_each e (more d ds) [] = tt
whole_each e (more d ds) (n ∷ ns) = (tt, whole_each e ds ns)

pub whole_goals : (e c : ℕ) (gs : Goals) → Each IsWhole (goals e c gs)
whole_goals e c no_goal = tt
whole_goals e c (and_goal g gs) = (tt, whole_goals e c gs)

leading_imposed : (h : Hierarchy) (b : ℕ) (q : List ℕ) (a : ℕ) (st : State) → (leading h b q a st).imposed ≡ st.imposed
leading_imposed h b [] a st = refl
leading_imposed h b (f ∷ q) a st = refl

equating_imposed : (h : Hierarchy) (a : ℕ) (p : List ℕ) (b : ℕ) (q : List ℕ) (st : State) → (equating_paths h a p b q st).imposed ≡ st.imposed
equating_imposed h a [] b q st = leading_imposed h b q a st
equating_imposed h a (f ∷ p) b q st = refl

module _ (gr : Grammar) (s : Structure) (x : Sense) (remain : List Element) (st : State) where
  -- the state with the item put back is satisfied
  abbrev pub IsBack : Item → State → Type 0
  IsBack i kid = Satisfies gr s x kid remain → SatisfiesBefore gr s x (doing i st) remain kid.imposed

  pub back : (i : Item) → IsWhole i → HoldsItem gr s x i → Satisfies gr s x st remain → SatisfiesBefore gr s x (doing i st) remain st.imposed
  back i w p sat = record { satisfies = doing_up gr s remain x i st w p sat; accounted = λ q r. inl r }

  -- descriptions
  at_down : (e n : ℕ) (ds : Descriptions) → Each (HoldsItem gr s x) (items_at e n ds) → AllHoldAt gr.signature s (x.var e) ds (x.node n)
  at_down e n none p = tt
  at_down e n (more d ds) p = (p.0, at_down e n ds p.1)

  stepping_down : (n f : ℕ) (d : Demand) → Satisfies gr s x (stepping gr.signature n f d st) remain → HoldsItem gr s x (take n f d) × Satisfies gr s x st remain
  stepping_down n f d p =
      let r = doing_down gr s remain x (take n f d) (told (OfType n (gr.signature.intro f)) st) tt p in
      (r.0, (told_down gr s remain x (OfType n (gr.signature.intro f)) st r.1).1)

  leading_down : (b : ℕ) (q : List ℕ) (a : ℕ) → Satisfies gr s x (leading gr.signature b q a st) remain → LeadsTo s (x.node b) q (x.node a) × Satisfies gr s x st remain
  leading_down b [] a p = let r = told_down gr s remain x (Same a b) st p in (sym r.0, r.1)
  leading_down b (f ∷ q) a p = stepping_down b f (leads q a) p

  equating_down : (a : ℕ) (p : List ℕ) (b : ℕ) (q : List ℕ) → Satisfies gr s x (equating_paths gr.signature a p b q st) remain → EndTogether s (x.node a) p (x.node b) q × Satisfies gr s x st remain
  equating_down a [] b q e = let r = leading_down b q a e in ((x.node a, refl, r.0), r.1)
  equating_down a (f ∷ p) b q e =
      let r = stepping_down a f (ends_with p b q) e in
      let i = r.0 in
      ((i.2.0, (i.0, i.1, i.2.1), i.2.2), r.1)

  pub equating_back : (i : Item) → IsWhole i → (a : ℕ) (p : List ℕ) (b : ℕ) (q : List ℕ) → (EndTogether s (x.node a) p (x.node b) q → HoldsItem gr s x i) → IsBack i (equating_paths gr.signature a p b q st)
  equating_back i w a p b q from sat =
      let r = equating_down a p b q sat in
      subst (SatisfiesBefore gr s x (doing i st) remain) (sym (equating_imposed gr.signature a p b q st)) (back i w (from r.0) r.1)

  pub stepping_back : (i : Item) → IsWhole i → (n f : ℕ) (d : Demand) → (HoldsItem gr s x (take n f d) → HoldsItem gr s x i) → IsBack i (stepping gr.signature n f d st)
  stepping_back i w n f d from sat = let r = stepping_down n f d sat in back i w (from r.0) r.1

  pub leading_back : (b : ℕ) (q : List ℕ) (a : ℕ) → IsBack (on b (leads q a)) (leading gr.signature b q a st)
  leading_back b q a sat =
      let r = leading_down b q a sat in
      subst (SatisfiesBefore gr s x (doing (on b (leads q a)) st) remain) (sym (leading_imposed gr.signature b q a st)) (back (on b (leads q a)) tt r.0 r.1)

  pub binding_back : (e v n : ℕ) → e < length st.envs → v < length (env_at st.envs e) → (o : Option ℕ) → bound st.envs e v ≡ o → IsBack (on n (holds e (slot v))) (binding e v n o st)
  binding_back e v n low inside None b sat =
      let r = bind_down gr s remain x e v n st low inside b sat in
      back (on n (holds e (slot v))) tt r.0 r.1
  binding_back e v n low inside (Some m) b sat =
      let r = told_down gr s remain x (Same n m) st sat in
      back (on n (holds e (slot v))) tt (◌∙◌ {a = x.var e v} (r.1.is_bound e v m b) (sym r.0)) r.1

  pub alternatives_back : (e n : ℕ) (ds : Descriptions) → Every (IsBack (on n (holds e (any ds)))) (alternatives e n ds st)
  alternatives_back e n none = every_none (IsBack (on n (holds e (any none))))
  alternatives_back e n (more d ds) =
      every_more (IsBack (on n (holds e (any (more d ds))))) (doing (on n (holds e d)) st) (alternatives e n ds st)
      (λ sat. let r = doing_down gr s remain x (on n (holds e d)) st tt sat in back (on n (holds e (any (more d ds)))) tt (inl r.0) r.1)
      (λ kid has sat. later kid (alternatives_back e n ds kid has sat))
    where
      later : (kid : State) → SatisfiesBefore gr s x (doing (on n (holds e (any ds))) st) remain kid.imposed → SatisfiesBefore gr s x (doing (on n (holds e (any (more d ds)))) st) remain kid.imposed
      later kid r =
          let q = doing_down gr s remain x (on n (holds e (any ds))) st tt r.satisfies in
          record { satisfies = doing_up gr s remain x (on n (holds e (any (more d ds)))) st tt (inr q.0) q.1; accounted = r.accounted }

  pub differing_back : (e n : ℕ) (d : Description) → IsBack (on n (holds e (differs d))) (differing e n d st)
  differing_back e n d sat =
      let r = told_down gr s remain x (Differ n st.next) (doing (on st.next (holds e d)) (grown 1 st)) sat in
      let q = doing_down gr s remain x (on st.next (holds e d)) (grown 1 st) tt r.1 in
      back (on n (holds e (differs d))) tt (x.node st.next, q.1.fulfils.into st.next (omega arith), r.0, q.0) (grown_down gr s remain x 1 st q.1)

  pub taken_back : (n f : ℕ) (d : Demand) (o : Option ℕ) → ((m : ℕ) → o ≡ Some m → Satisfies gr s x st remain → value_of s (x.node n) f ≡ Some (x.node m)) → Every (IsBack (take n f d)) (taken d o st)
  taken_back n f d None value = every_none (IsBack (take n f d))
  taken_back n f d (Some m) value =
      every_one (IsBack (take n f d)) (doing (on m d) st)
      (λ sat. let r = doing_down gr s remain x (on m d) st tt sat in back (take n f d) tt (x.node m, value m refl r.1, r.0) r.1)

  pub all_back : (e n : ℕ) (ds : Descriptions) → IsBack (on n (holds e (all ds))) (doing_all (items_at e n ds) st)
  all_back e n ds sat =
      let r = doing_all_down gr s remain x (items_at e n ds) st (whole_at e n ds) sat in
      back (on n (holds e (all ds))) tt (at_down e n ds r.0) r.1

  -- goals
  each_down : (next e : ℕ) (ds : Descriptions) (ns : List ℕ) → ((a : ℕ) → a < next → x.node a < count s) → AreBelow next ns → Each (HoldsItem gr s x) (items_each e ds ns) → HoldEach gr.signature s (x.var e) ds (map x.node ns)
  each_down next e none ns into low p = tt
  each_down next e (more d ds) [] into low p = tt
  each_down next e (more d ds) (n ∷ ns) into low p = (into n low.0, p.0, each_down next e ds ns into low.1 p.1)

  goals_down : (e c : ℕ) (gs : Goals) → Each (HoldsItem gr s x) (goals e c gs) → (depth : ℕ) × EachDerivableBy gr.signature s (Calls gr.signature gr.program s depth) (x.var e) gs
  goals_down e c no_goal p = (0, tt)
  goals_down e c (and_goal g gs) p =
      let r = goals_down e c gs p.1 in
      let a : ℕ = p.0.0 in
      let b : ℕ = r.0 in (
        a + b,
        (
          derivable_more gr.signature s (Calls gr.signature gr.program s a) (Calls gr.signature gr.program s (a + b)) (calls_deeper gr.signature gr.program s (a + b) a (omega arith)) (x.var e) g p.0.1,
          each_more gr.signature s (Calls gr.signature gr.program s b) (Calls gr.signature gr.program s (a + b)) (calls_deeper gr.signature gr.program s (a + b) b (omega arith)) (x.var e) gs r.1,
        ),
      )

  goal_alternatives_back : (e c : ℕ) (gs : Goals) → Every (IsBack (derive e c (either gs))) (goal_alternatives e c gs st)
  goal_alternatives_back e c no_goal = every_none (IsBack (derive e c (either no_goal)))
  goal_alternatives_back e c (and_goal g gs) =
      every_more (IsBack (derive e c (either (and_goal g gs)))) (doing (derive e c g) st) (goal_alternatives e c gs st)
      (λ sat. let r = doing_down gr s remain x (derive e c g) st tt sat in back (derive e c (either (and_goal g gs))) tt (r.0.0, inl r.0.1) r.1)
      (λ kid has sat. later kid (goal_alternatives_back e c gs kid has sat))
    where
      later : (kid : State) → SatisfiesBefore gr s x (doing (derive e c (either gs)) st) remain kid.imposed → SatisfiesBefore gr s x (doing (derive e c (either (and_goal g gs))) st) remain kid.imposed
      later kid r =
          let q = doing_down gr s remain x (derive e c (either gs)) st tt r.satisfies in
          record { satisfies = doing_up gr s remain x (derive e c (either (and_goal g gs))) st tt (q.0.0, inr q.0.1) q.1; accounted = r.accounted }

  equal_back : (e c : ℕ) (d d' : Description) → IsBack (derive e c (equal d d')) (equating e d d' st)
  equal_back e c d d' sat =
      let r = doing_down gr s remain x (on st.next (holds e d)) (doing (on st.next (holds e d')) (grown 1 st)) tt sat in
      let q = doing_down gr s remain x (on st.next (holds e d')) (grown 1 st) tt r.1 in
      back (derive e c (equal d d')) tt (0, (x.node st.next, q.1.fulfils.into st.next (omega arith), r.0, q.0)) (grown_down gr s remain x 1 st q.1)

  call_back : (e c p : ℕ) (ds : Descriptions) → IsBack (derive e c (call p ds)) (calling e p ds st)
  call_back e c p ds sat =
      let k : ℕ = how_many ds in
      let ns : List ℕ = numbers st.next k in
      let r = doing_all_down gr s remain x (items_each e ds ns) (doing (called p ns) (grown k st)) (whole_each e ds ns) sat in
      let q = doing_down gr s remain x (called p ns) (grown k st) tt r.1 in
      back (derive e c (call p ds)) tt (
        q.0.0,
        record {
          nodes = map x.node ns;
          many = length_numbers x.node st.next k;
          hold = each_down (st.next + k) e ds ns q.1.fulfils.into (numbers_below st.next k (st.next + k) (omega arith)) r.0;
          called = q.0.1;
        },
      )
      (grown_down gr s remain x k st q.1)

  pub goal_back : (waiting e c : ℕ) (g : Goal) → IsPlain g → Every (IsBack (derive e c g)) (goal_kids waiting e c g st)
  goal_back waiting e c yes w = every_one (IsBack (derive e c yes)) st (λ sat. back (derive e c yes) tt (0, tt) sat)
  goal_back waiting e c cut w = absurd w
  goal_back waiting e c (each gs) w =
      every_one (IsBack (derive e c (each gs))) (doing_all (goals e c gs) st)
      (λ sat. let r = doing_all_down gr s remain x (goals e c gs) st (whole_goals e c gs) sat in back (derive e c (each gs)) tt (goals_down e c gs r.0) r.1)
  goal_back waiting e c (either gs) w = goal_alternatives_back e c gs
  goal_back waiting e c (equal d d') w = every_one (IsBack (derive e c (equal d d'))) (equating e d d' st) (equal_back e c d d')
  goal_back waiting e c (call p ds) w = every_one (IsBack (derive e c (call p ds))) (calling e p ds st) (call_back e c p ds)
  goal_back waiting e c (unless g) w = absurd w
  goal_back waiting e c (if_else g t f) w = absurd w
  goal_back waiting e c (once g t) w = absurd w

  clause_back : (waiting p : ℕ) (ns : List ℕ) → AreBelow st.next ns → (clause : Clause) → Has (clauses_of gr.program p) clause → IsBack (called p ns) (by_clause waiting ns clause st)
  clause_back waiting p ns low clause has sat =
      let e : ℕ = length st.envs in
      let r = doing_all_down gr s remain x (items_each e clause.args ns) (doing (derive e waiting clause.body) (with_env clause.slots st)) (whole_each e clause.args ns) sat in
      let q = doing_down gr s remain x (derive e waiting clause.body) (with_env clause.slots st) tt r.1 in
      back (called p ns) tt (
        suc q.0.0,
        record {
          clause = clause;
          has = has;
          assign = x.var e;
          nodes = q.1.nodes e;
          args = each_down st.next e clause.args ns q.1.fulfils.into low r.0;
          body = q.0.1;
        },
      )
      (env_down gr s remain x clause.slots st q.1)

  pub clauses_back : (waiting p : ℕ) (ns : List ℕ) → AreBelow st.next ns → (clauses : List Clause) → ((c : Clause) → Has clauses c → Has (clauses_of gr.program p) c) → Every (IsBack (called p ns)) (clause_kids waiting ns clauses st)
  clauses_back waiting p ns low [] within = every_none (IsBack (called p ns))
  clauses_back waiting p ns low (c ∷ cs) within =
      every_more (IsBack (called p ns)) (by_clause waiting ns c st) (clause_kids waiting ns cs st)
      (clause_back waiting p ns low c (within c (inl refl)))
      (clauses_back waiting p ns low cs (λ d has. within d (inr has)))

  -- an open list
  ending_down : (end : Option (ℕ × Description)) → Satisfies gr s x (ending end st) remain → HoldsEnd gr s x end × Satisfies gr s x st remain
  ending_down None sat = (tt, sat)
  ending_down (Some end) sat = doing_down gr s remain x (on end.0 (holds 0 end.1)) st tt sat

  ending_imposed : (end : Option (ℕ × Description)) → (ending end st).imposed ≡ st.imposed
  ending_imposed None = refl
  ending_imposed (Some end) = refl

  pub split_back : (lists : Option ListTypes) → gr.program.lists ≡ lists → (n : ℕ) (end : Option (ℕ × Description)) → Every (IsBack (split n end)) (split_kids lists n end st)
  split_back None are n end = every_none (IsBack (split n end))
  split_back (Some l) are n end =
      every_more (IsBack (split n end)) (told (OfType n l.e_list) (ending end st)) (told (OfType n l.ne_list) (remaining n st) ∷ []) ends
      (every_one (IsBack (split n end)) (told (OfType n l.ne_list) (remaining n st)) goes_on)
    where
      ends : IsBack (split n end) (told (OfType n l.e_list) (ending end st))
      ends sat =
          let r = told_down gr s remain x (OfType n l.e_list) (ending end st) sat in
          let q = ending_down end r.1 in
          record {
            satisfies = record {
              fulfils = q.1.fulfils;
              nodes = q.1.nodes;
              is_bound = q.1.is_bound;
              is_said = q.1.is_said;
              items = inl (subst (λ z. IsEmptyListOf gr.signature z s (x.node n)) (sym are) r.0, q.0, q.1.items);
            };
            accounted = λ p has. inl (subst (λ z. Has z p) (ending_imposed end) has);
          }

      goes_on : IsBack (split n end) (told (OfType n l.ne_list) (remaining n st))
      goes_on sat =
          let r = told_down gr s remain x (OfType n l.ne_list) (remaining n st) sat in
          record {
            satisfies = record {
              fulfils = r.1.fulfils;
              nodes = r.1.nodes;
              is_bound = r.1.is_bound;
              is_said = r.1.is_said;
              items = inr (subst (λ z. IsNonEmptyListOf gr.signature z s (x.node n)) (sym are) r.0, r.1.items);
            };
            accounted = λ p has. inl has;
          }
