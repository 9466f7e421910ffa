-- Upwards: what satisfies the state with a description's or a goal's item satisfies one of its kids.
use Rattle.std.proofs.Common.{◌≡◌, ◌≢◌, ℕ, zero, suc, ◌+◌, ◌<◌, List, [], ◌∷◌, length, map, get_or, inl, inr, refl, sym, ap, ◌∙◌, subst, arith, Option, Some, None}
use Rattle.ale_declared.specs.Lists.{Has}
use Rattle.ale_hierarchy.specs.Hierarchy.{Hierarchy, Above, IsLawful}
use Rattle.ale_graph.specs.declared.fact.Fact.TheVariants.{OfType, Same, Differ}
use Rattle.ale_graph.specs.Structures.{Structure, IsStructure, count, type_of}
use Rattle.ale_logic.specs.Descriptions.{Description, Descriptions, none, more, how_many, LeadsTo, EndTogether, HoldsAt, AllHoldAt, SomeHoldsAt, IsAssignment}
use Rattle.ale_logic.specs.Goals.{Goal, Goals, yes, cut, each, either, equal, call, unless, if_else, once, no_goal, and_goal}
use Rattle.ale_logic.specs.Programs.{Element, Clause, ListTypes, clauses_of}
use Rattle.ale_logic.specs.ListNodes.{IsEmptyListOf, IsNonEmptyListOf}
use Rattle.ale_logic.specs.Derivations.{HoldEach, AreCalled, EachDerivableBy, OneDerivableBy, Calls, Derivable, DerivableAt}
use Rattle.ale_logic.specs.Words.{Grammar}
use Rattle.ale_logic.specs.States.{Demand, holds, ends_with, leads, on, take, derive, called, split, bound, env_at, State, told, doing, doing_all, grown, with_env, bind, remaining}
use Rattle.ale_logic.specs.DescriptionKids.{stepping, leading, equating_paths, binding, items_at, alternatives, differing, taken}
use Rattle.ale_logic.specs.GoalKids.{numbers, items_each, goals, goal_alternatives, equating, calling, goal_kids, by_clause, clause_kids}
use Rattle.ale_logic.specs.GenerationKids.{ending, split_kids}
use Rattle.ale_logic.specs.Satisfaction.{Sense, HoldsEnd, HoldsDemand, HoldsItem, HoldItems, Satisfies}
use Rattle.ale_logic.specs.WellFormed.{Each, IsState}
use Rattle.ale_logic.specs.Steps.{SatisfiesOne}
use Rattle.ale_step_law.proofs.Senses.{shift_old, shift_new, shift_first, with_nodes, with_assignment, var_new}
use Rattle.ale_step_law.proofs.Carrying.{told_up, doing_up, doing_all_up, grown_up, env_up, bind_up, agrees_nodes, agrees_assignment}
use Rattle.ale_step_law.proofs.Every.{one_first, one_later, one_new}
use Rattle.ale_step_law.proofs.Down.{whole_at, whole_each, whole_goals}

-- the numbers from n on go to the nodes of the list
pub numbers_are : (g : ℕ → ℕ) (n k : ℕ) (ns : List ℕ) → length ns ≡ k → ((i : ℕ) → i < k → g (n + i) ≡ get_or ns i 0) → map g (numbers n k) ≡ ns
numbers_are g n zero [] e are = refl
numbers_are g n zero (m ∷ ms) e are = absurd (omega arith)
numbers_are g n (suc k) [] e are = absurd (omega arith)
numbers_are g n (suc k) (m ∷ ms) e are =
    let here : n ≡ n + 0 = omega arith in
    let head : g n ≡ m = ap g here ∙ are 0 (omega arith) in
    let tail : map g (numbers (suc n) k) ≡ ms = numbers_are g (suc n) k ms (omega arith) (λ i low. let on : suc n + i ≡ n + suc i = omega arith in ap g on ∙ are (suc i) (omega arith)) in
    ap (λ z. z ∷ map g (numbers (suc n) k)) head ∙ ap (λ z. m ∷ z) tail

pub each_inside : (h : Hierarchy) (s : Structure) (assign : ℕ → ℕ) (ds : Descriptions) (ns : List ℕ) → length ns ≡ how_many ds → HoldEach h s assign ds ns → (i : ℕ) → i < how_many ds → get_or ns i 0 < count s
each_inside h s assign none ns e p i low = absurd (omega arith)
each_inside h s assign (more d ds) [] e p i low = absurd (omega arith)
each_inside h s assign (more d ds) (n ∷ ns) e p zero low = p.0
each_inside h s assign (more d ds) (n ∷ ns) e p (suc i) low = each_inside h s assign ds ns (omega arith) p.2 i (omega arith)

module _ (gr : Grammar) (s : Structure) (remain : List Element) where
  each_up : (x : Sense) (e : ℕ) (ds : Descriptions) (ns : List ℕ) → HoldEach gr.signature s (x.var e) ds (map x.node ns) → Each (HoldsItem gr s x) (items_each e ds ns)
  each_up x e none ns p = tt
  each_up x e (more d ds) [] p = tt
  each_up x e (more d ds) (n ∷ ns) p = (p.1, each_up x e ds ns p.2)

module _ (gr : Grammar) (law : IsLawful gr.signature) (s : Structure) (str : IsStructure gr.signature s) (x : Sense) (remain : List Element) (st : State) (is : IsState gr.signature st) (sat : Satisfies gr s x st remain) where
  -- descriptions
  stepping_up : (n f : ℕ) (d : Demand) → HoldsItem gr s x (take n f d) → Satisfies gr s x (stepping gr.signature n f d st) remain
  stepping_up n f d p =
      let r = str.total.only (x.node n) f p.0 p.1 in
      let up : Above gr.signature (gr.signature.intro f) (type_of s (x.node n)) = law.approp_intro f (type_of s (x.node n)) r.0 r.1 in
      doing_up gr s remain x (take n f d) (told (OfType n (gr.signature.intro f)) st) tt p (told_up gr s remain x (OfType n (gr.signature.intro f)) st up sat)

  leading_up : (b : ℕ) (q : List ℕ) (a : ℕ) → LeadsTo s (x.node b) q (x.node a) → Satisfies gr s x (leading gr.signature b q a st) remain
  leading_up b [] a e = told_up gr s remain x (Same a b) st (sym e) sat
  leading_up b (f ∷ q) a e = stepping_up b f (leads q a) e

  equating_up : (a : ℕ) (p : List ℕ) (b : ℕ) (q : List ℕ) → EndTogether s (x.node a) p (x.node b) q → Satisfies gr s x (equating_paths gr.signature a p b q st) remain
  equating_up a [] b q e = leading_up b q a (subst (LeadsTo s (x.node b) q) (sym e.1) e.2)
  equating_up a (f ∷ p) b q e = stepping_up a f (ends_with p b q) (e.1.0, e.1.1, (e.0, e.1.2, e.2))

  pub type_one : (n t : ℕ) → Above gr.signature t (type_of s (x.node n)) → SatisfiesOne gr s st x remain (told (OfType n t) st ∷ [])
  type_one n t p = one_first gr s st x remain (told (OfType n t) st) [] (told_up gr s remain x (OfType n t) st p sat)

  pub stepping_one : (n f : ℕ) (d : Demand) → HoldsItem gr s x (take n f d) → SatisfiesOne gr s st x remain (stepping gr.signature n f d st ∷ [])
  stepping_one n f d p = one_first gr s st x remain (stepping gr.signature n f d st) [] (stepping_up n f d p)

  pub leading_one : (b : ℕ) (q : List ℕ) (a : ℕ) → LeadsTo s (x.node b) q (x.node a) → SatisfiesOne gr s st x remain (leading gr.signature b q a st ∷ [])
  leading_one b q a e = one_first gr s st x remain (leading gr.signature b q a st) [] (leading_up b q a e)

  pub equating_one : (a : ℕ) (p : List ℕ) (b : ℕ) (q : List ℕ) → EndTogether s (x.node a) p (x.node b) q → SatisfiesOne gr s st x remain (equating_paths gr.signature a p b q st ∷ [])
  equating_one a p b q e = one_first gr s st x remain (equating_paths gr.signature a p b q st) [] (equating_up a p b q e)

  pub binding_one : (e v n : ℕ) → e < length st.envs → v < length (env_at st.envs e) → x.var e v ≡ x.node n → (o : Option ℕ) → bound st.envs e v ≡ o → SatisfiesOne gr s st x remain (binding e v n o st ∷ [])
  binding_one e v n low inside p None b = one_first gr s st x remain (bind e v n st) [] (bind_up gr s remain x e v n st low inside p sat)
  binding_one e v n low inside p (Some m) b =
      one_first gr s st x remain (told (Same n m) st) [] (told_up gr s remain x (Same n m) st (sym p ∙ sat.is_bound e v m b) sat)

  at_up : (e n : ℕ) (ds : Descriptions) → AllHoldAt gr.signature s (x.var e) ds (x.node n) → Each (HoldsItem gr s x) (items_at e n ds)
  at_up e n none p = tt
  at_up e n (more d ds) p = (p.0, at_up e n ds p.1)

  pub all_one : (e n : ℕ) (ds : Descriptions) → AllHoldAt gr.signature s (x.var e) ds (x.node n) → SatisfiesOne gr s st x remain (doing_all (items_at e n ds) st ∷ [])
  all_one e n ds p = one_first gr s st x remain (doing_all (items_at e n ds) st) [] (doing_all_up gr s remain x (items_at e n ds) st (whole_at e n ds) (at_up e n ds p) sat)

  pub any_one : (e n : ℕ) (ds : Descriptions) → SomeHoldsAt gr.signature s (x.var e) ds (x.node n) → SatisfiesOne gr s st x remain (alternatives e n ds st)
  any_one e n none p = absurd p
  any_one e n (more d ds) (inl p) =
      one_first gr s st x remain (doing (on n (holds e d)) st) (alternatives e n ds st) (doing_up gr s remain x (on n (holds e d)) st tt p sat)
  any_one e n (more d ds) (inr p) = one_later gr s st x remain (doing (on n (holds e d)) st) (alternatives e n ds st) (any_one e n ds p)

  pub differing_one : (e n : ℕ) (d : Description) → n < st.next → (m : ℕ) → m < count s → x.node n ≢ m → HoldsAt gr.signature s (x.var e) d m → SatisfiesOne gr s st x remain (differing e n d st ∷ [])
  differing_one e n d low m inside far p =
      let y : Sense = with_nodes x st.next (λ i. m) in
      let new : y.node st.next ≡ m = shift_first x.node st.next (λ i. m) in
      let old : y.node n ≡ x.node n = shift_old x.node st.next (λ i. m) n low in
      let grow = grown_up gr s remain x 1 (λ i. m) st is (λ i q. inside) sat in
      let second = doing_up gr s remain y (on st.next (holds e d)) (grown 1 st) tt (subst (HoldsAt gr.signature s (x.var e) d) (sym new) p) grow in
      one_new gr s st x remain y (differing e n d st) [] (agrees_nodes gr s remain x st (λ i. m))
      (told_up gr s remain y (Differ n st.next) (doing (on st.next (holds e d)) (grown 1 st)) (λ same. far (sym old ∙ same ∙ new)) second)

  pub taken_one : (d : Demand) (o : Option ℕ) (k m : ℕ) → o ≡ Some k → x.node k ≡ m → HoldsDemand gr s x d m → SatisfiesOne gr s st x remain (taken d o st)
  taken_one d o k m e are p =
      subst (λ z. SatisfiesOne gr s st x remain (taken d z st)) (sym e)
      (one_first gr s st x remain (doing (on k d) st) [] (doing_up gr s remain x (on k d) st tt (subst (HoldsDemand gr s x d) (sym are) p) sat))

  -- goals
  goals_up : (depth e c : ℕ) (gs : Goals) → EachDerivableBy gr.signature s (Calls gr.signature gr.program s depth) (x.var e) gs → Each (HoldsItem gr s x) (goals e c gs)
  goals_up depth e c no_goal p = tt
  goals_up depth e c (and_goal g gs) p = ((depth, p.0), goals_up depth e c gs p.1)

  either_one : (depth e c : ℕ) (gs : Goals) → OneDerivableBy gr.signature s (Calls gr.signature gr.program s depth) (x.var e) gs → SatisfiesOne gr s st x remain (goal_alternatives e c gs st)
  either_one depth e c no_goal p = absurd p
  either_one depth e c (and_goal g gs) (inl p) =
      one_first gr s st x remain (doing (derive e c g) st) (goal_alternatives e c gs st) (doing_up gr s remain x (derive e c g) st tt (depth, p) sat)
  either_one depth e c (and_goal g gs) (inr p) = one_later gr s st x remain (doing (derive e c g) st) (goal_alternatives e c gs st) (either_one depth e c gs p)

  equal_one : (e : ℕ) (d d' : Description) (m : ℕ) → m < count s → HoldsAt gr.signature s (x.var e) d m → HoldsAt gr.signature s (x.var e) d' m → SatisfiesOne gr s st x remain (equating e d d' st ∷ [])
  equal_one e d d' m inside p q =
      let y : Sense = with_nodes x st.next (λ i. m) in
      let new : y.node st.next ≡ m = shift_first x.node st.next (λ i. m) in
      let grow = grown_up gr s remain x 1 (λ i. m) st is (λ i z. inside) sat in
      let second = doing_up gr s remain y (on st.next (holds e d')) (grown 1 st) tt (subst (HoldsAt gr.signature s (x.var e) d') (sym new) q) grow in
      one_new gr s st x remain y (equating e d d' st) [] (agrees_nodes gr s remain x st (λ i. m))
      (doing_up gr s remain y (on st.next (holds e d)) (doing (on st.next (holds e d')) (grown 1 st)) tt (subst (HoldsAt gr.signature s (x.var e) d) (sym new) p) second)

  call_one : (depth e p : ℕ) (ds : Descriptions) → AreCalled gr.signature s (x.var e) ds (Calls gr.signature gr.program s depth p) → SatisfiesOne gr s st x remain (calling e p ds st ∷ [])
  call_one depth e p ds k =
      one_new gr s st x remain y (calling e p ds st) [] (agrees_nodes gr s remain x st f)
      (doing_all_up gr s remain y (items_each e ds ns) (doing (called p ns) (grown (how_many ds) st)) (whole_each e ds ns)
      (each_up gr s remain y e ds ns (subst (HoldEach gr.signature s (x.var e) ds) (sym are) k.hold))
      (doing_up gr s remain y (called p ns) (grown (how_many ds) st) tt (depth, subst (Calls gr.signature gr.program s depth p) (sym are) k.called) grow))
    where
      f : ℕ → ℕ
      f i = get_or k.nodes i 0

      y : Sense
      y = with_nodes x st.next f

      ns : List ℕ
      ns = numbers st.next (how_many ds)

      are : map y.node ns ≡ k.nodes
      are = numbers_are y.node st.next (how_many ds) k.nodes k.many (λ i low. shift_new x.node st.next f i)

      grow : Satisfies gr s y (grown (how_many ds) st) remain
      grow = grown_up gr s remain x (how_many ds) f st is (each_inside gr.signature s (x.var e) ds k.nodes k.many k.hold) sat

  pub goal_one : (waiting e c : ℕ) (g : Goal) → Derivable gr.signature gr.program s (x.var e) g → SatisfiesOne gr s st x remain (goal_kids waiting e c g st)
  goal_one waiting e c yes p = one_first gr s st x remain st [] sat
  goal_one waiting e c cut p = absurd p.1
  goal_one waiting e c (each gs) p =
      one_first gr s st x remain (doing_all (goals e c gs) st) [] (doing_all_up gr s remain x (goals e c gs) st (whole_goals e c gs) (goals_up p.0 e c gs p.1) sat)
  goal_one waiting e c (either gs) p = either_one p.0 e c gs p.1
  goal_one waiting e c (equal d d') p = equal_one e d d' p.1.0 p.1.1 p.1.2 p.1.3
  goal_one waiting e c (call q ds) p = call_one p.0 e q ds p.1
  goal_one waiting e c (unless g) p = absurd p.1
  goal_one waiting e c (if_else g t f) p = absurd p.1
  goal_one waiting e c (once g t) p = absurd p.1

  clause_up : (waiting depth : ℕ) (ns : List ℕ) (clause : Clause) (assign : ℕ → ℕ) → IsAssignment s assign → HoldEach gr.signature s assign clause.args (map x.node ns) → DerivableAt gr.signature gr.program s depth assign clause.body → Satisfies gr s (with_assignment x (length st.envs) assign) (by_clause waiting ns clause st) remain
  clause_up waiting depth ns clause assign nodes args body =
      doing_all_up gr s remain y (items_each e clause.args ns) (doing (derive e waiting clause.body) (with_env clause.slots st)) (whole_each e clause.args ns)
      (each_up gr s remain y e clause.args ns (subst (λ z. HoldEach gr.signature s z clause.args (map x.node ns)) (sym new) args))
      (doing_up gr s remain y (derive e waiting clause.body) (with_env clause.slots st) tt
      (depth, subst (λ z. DerivableAt gr.signature gr.program s depth z clause.body) (sym new) body)
      (env_up gr s remain x clause.slots assign st is nodes sat))
    where
      e : ℕ
      e = length st.envs

      y : Sense
      y = with_assignment x (length st.envs) assign

      new : y.var e ≡ assign
      new = var_new x (length st.envs) assign

  by_clause_one : (waiting depth : ℕ) (ns : List ℕ) (clauses : List Clause) (clause : Clause) → Has clauses clause → (assign : ℕ → ℕ) → Satisfies gr s (with_assignment x (length st.envs) assign) (by_clause waiting ns clause st) remain → SatisfiesOne gr s st x remain (clause_kids waiting ns clauses st)
  by_clause_one waiting depth ns [] clause has assign p = absurd has
  by_clause_one waiting depth ns (c ∷ cs) clause (inl e) assign p =
      one_new gr s st x remain (with_assignment x (length st.envs) assign) (by_clause waiting ns c st) (clause_kids waiting ns cs st) (agrees_assignment gr s remain x st assign)
      (subst (λ z. Satisfies gr s (with_assignment x (length st.envs) assign) (by_clause waiting ns z st) remain) e p)
  by_clause_one waiting depth ns (c ∷ cs) clause (inr e) assign p =
      one_later gr s st x remain (by_clause waiting ns c st) (clause_kids waiting ns cs st) (by_clause_one waiting depth ns cs clause e assign p)

  pub clauses_one : (waiting depth p : ℕ) (ns : List ℕ) → Calls gr.signature gr.program s depth p (map x.node ns) → SatisfiesOne gr s st x remain (clause_kids waiting ns (clauses_of gr.program p) st)
  clauses_one waiting zero p ns k = absurd k
  clauses_one waiting (suc depth) p ns k =
      by_clause_one waiting depth ns (clauses_of gr.program p) k.clause k.has k.assign (clause_up waiting depth ns k.clause k.assign k.nodes k.args k.body)

-- an open list ends or goes on
pub split_one : (gr : Grammar) (s : Structure) (x : Sense) (remain : List Element) (st : State) (lists : Option ListTypes) → gr.program.lists ≡ lists → (n : ℕ) (end : Option (ℕ × Description)) → Satisfies gr s x (doing (split n end) st) remain → SatisfiesOne gr s st x remain (split_kids lists n end st)
split_one gr s x remain st lists are n end sat = go lists are sat.items
  where
    rest_of : HoldItems gr s x st.agenda st.rest remain → Satisfies gr s x st remain
    rest_of p = record { fulfils = sat.fulfils; nodes = sat.nodes; is_bound = sat.is_bound; is_said = sat.is_said; items = p }

    ending_up : (o : Option (ℕ × Description)) → HoldsEnd gr s x o → Satisfies gr s x st remain → Satisfies gr s x (ending o st) remain
    ending_up None p q = q
    ending_up (Some o) p q = doing_up gr s remain x (on o.0 (holds 0 o.1)) st tt p q

    go : (o : Option ListTypes) → gr.program.lists ≡ o → HoldItems gr s x (split n end ∷ st.agenda) st.rest remain → SatisfiesOne gr s st x remain (split_kids o n end st)
    go None e (inl p) = absurd (subst (λ z. IsEmptyListOf gr.signature z s (x.node n)) e p.0)
    go None e (inr p) = absurd (subst (λ z. IsNonEmptyListOf gr.signature z s (x.node n)) e p.0)
    go (Some l) e (inl p) =
        one_first gr s st x remain (told (OfType n l.e_list) (ending end st)) (told (OfType n l.ne_list) (remaining n st) ∷ [])
        (told_up gr s remain x (OfType n l.e_list) (ending end st) (subst (λ z. IsEmptyListOf gr.signature z s (x.node n)) e p.0) (ending_up end p.1 (rest_of p.2)))
    go (Some l) e (inr p) =
        let kid : Satisfies gr s x (remaining n st) remain = record { fulfils = sat.fulfils; nodes = sat.nodes; is_bound = sat.is_bound; is_said = sat.is_said; items = p.1 } in
        one_later gr s st x remain (told (OfType n l.e_list) (ending end st)) (told (OfType n l.ne_list) (remaining n st) ∷ [])
        (one_first gr s st x remain (told (OfType n l.ne_list) (remaining n st)) []
        (told_up gr s remain x (OfType n l.ne_list) (remaining n st) (subst (λ z. IsNonEmptyListOf gr.signature z s (x.node n)) e p.0) kid))
