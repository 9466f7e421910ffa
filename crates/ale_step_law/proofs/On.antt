-- The kids of each item, of every program, are states that have all of the state before.
use Rattle.std.proofs.Common.{◌≡◌, ℕ, suc, ◌+◌, ◌<◌, ◌≤◌, Bool, true, false, ltb, cond, List, [], ◌∷◌, ◌++◌, length, ◌⊎◌, inl, inr, refl, sym, subst, arith, replicate, Option, Some, None}
use Rattle.ale_declared.specs.Lists.{Has}
use Rattle.ale_hierarchy.specs.Hierarchy.{Hierarchy, IsLawful}
use Rattle.ale_graph.specs.declared.closed.Closed.{Closed}
use Rattle.ale_graph.specs.declared.fact.Fact.TheVariants.{OfType, Same, Differ}
use Rattle.ale_graph.specs.Filling.{class_value}
use Rattle.ale_graph.specs.Closure.{class_of}
use Rattle.ale_graph.proofs.Lists.{has_right, some_one}
use Rattle.ale_logic.specs.Descriptions.{Description, Descriptions, of_type, slot, at, all, any, differs, path_equation, none, more, how_many, FitsPath, FitsDescription, FitDescriptions}
use Rattle.ale_logic.specs.Goals.{Goal, Goals, yes, cut, each, either, equal, call, unless, if_else, once, no_goal, and_goal, FitsGoal, FitGoals}
use Rattle.ale_logic.specs.Programs.{Element, cat, cats, derived, sem_head, member, tail, Clause, Constraint, Rule, ListTypes, clauses_of, goal_of}
use Rattle.ale_logic.specs.Fitting.{FitsClause, FitsConstraint, FitsElement, FitsRule, FitLists, FitsProgram}
use Rattle.ale_logic.specs.Words.{Entry, IsEntry, Grammar}
use Rattle.ale_logic.specs.Headed.{semantic_head}
use Rattle.ale_logic.specs.States.{Demand, holds, ends_with, leads, generates, generates_all, Target, Piece, word, phrase, Item, on, take, derive, called, cuts, stop, split, pivot, connect, bound, env_at, State, told, doing, doing_all, grown, with_env, imposing, with_phrases, say, remaining}
use Rattle.ale_logic.specs.DescriptionKids.{stepping, leading, equating_paths, binding, items_at, alternatives, differing, taken}
use Rattle.ale_logic.specs.GoalKids.{numbers, items_each, goals, goal_alternatives, equating, calling, goal_kids, by_clause, clause_kids, doing_goal, with_constraint}
use Rattle.ale_logic.specs.Putting.{putting}
use Rattle.ale_logic.specs.GenerationKids.{daughters, element_items, element_pieces, by_rule, pivot_rule, pivot_rules, one_up, upward_rule, upward_rules, by_entry, entry_kids, empty_kids, generate_kids, pivot_kids, connect_kids, list_kids, ending, split_kids}
use Rattle.ale_logic.specs.Visits.{kids}
use Rattle.ale_logic.specs.WellFormed.{Scope, scope_of, FitsIn, FitsGoalIn, FitsEnd, FitsDemand, AreBelow, FitPieces, FitsTarget, FitsItem, FitItems, IsState}
use Rattle.ale_step_law.proofs.EnvLists.{more_envs, new_length}
use Rattle.ale_step_law.proofs.Wider.{Wider, demand_wider, pieces_wider}
use Rattle.ale_step_law.proofs.Growing.{Goes, goes_self, goes_told, goes_doing, goes_doing_all, goes_grown, goes_with_env, goes_bind, goes_imposing, goes_with_phrases, goes_say, goes_remaining}
use Rattle.ale_step_law.proofs.PutFits.{goes_putting}
use Rattle.ale_step_law.proofs.Every.{Every, every_none, every_more, every_one, every_both}
use Rattle.ale_step_law.proofs.Deeper.{numbers_below}

-- items that fit
at_fit : (h : Hierarchy) (c : Scope) (e n : ℕ) (ds : Descriptions) → n < c.next → e < length c.envs → FitDescriptions h (length (env_at c.envs e)) ds → FitItems h c (items_at e n ds)
at_fit h c e n none low inside fit = tt
at_fit h c e n (more d ds) low inside fit = ((low, (inside, fit.0)), at_fit h c e n ds low inside fit.1)

each_fit : (h : Hierarchy) (c : Scope) (e : ℕ) (ds : Descriptions) (ns : List ℕ) → e < length c.envs → FitDescriptions h (length (env_at c.envs e)) ds → AreBelow c.next ns → FitItems h c (items_each e ds ns)
each_fit h c e none ns inside fit low = tt
each_fit h c e (more d ds) [] inside fit low = tt
each_fit h c e (more d ds) (n ∷ ns) inside fit low = ((low.0, (inside, fit.0)), each_fit h c e ds ns inside fit.1 low.1)

goals_fit : (h : Hierarchy) (c : Scope) (e k : ℕ) (gs : Goals) → e < length c.envs → FitGoals h (length (env_at c.envs e)) gs → FitItems h c (goals e k gs)
goals_fit h c e k no_goal inside fit = tt
goals_fit h c e k (and_goal g gs) inside fit = ((inside, fit.0), goals_fit h c e k gs inside fit.1)

elements_fit : (h : Hierarchy) (c : Scope) (e k n g : ℕ) (es : List Element) → e < length c.envs → ((y : Element) → Has es y → FitsElement h (length (env_at c.envs e)) y) → n + daughters es ≤ c.next → g + daughters es ≤ c.phrases → FitItems h c (element_items e k n g es)
elements_fit h c e k n g [] inside fit low few = tt
elements_fit h c e k n g (cat d ∷ es) inside fit low few =
    ((omega arith, (inside, fit (cat d) (inl refl))), ((omega arith, omega arith), elements_fit h c e k (suc n) (suc g) es inside (λ y q. fit y (inr q)) (omega arith) (omega arith)))
elements_fit h c e k n g (cats d ∷ es) inside fit low few =
    ((omega arith, (inside, fit (cats d) (inl refl))), ((omega arith, omega arith), elements_fit h c e k (suc n) (suc g) es inside (λ y q. fit y (inr q)) (omega arith) (omega arith)))
elements_fit h c e k n g (derived goal ∷ es) inside fit low few = ((inside, fit (derived goal) (inl refl)), elements_fit h c e k n g es inside (λ y q. fit y (inr q)) low few)
elements_fit h c e k n g (sem_head d ∷ es) inside fit low few = elements_fit h c e k n g es inside (λ y q. fit y (inr q)) low few
elements_fit h c e k n g (member m ∷ es) inside fit low few = elements_fit h c e k n g es inside (λ y q. fit y (inr q)) low few
elements_fit h c e k n g (tail m ∷ es) inside fit low few = elements_fit h c e k n g es inside (λ y q. fit y (inr q)) low few

both_fit : (c : Scope) (t : ℕ) (ps qs : List Piece) → FitPieces c t ps → FitPieces c t qs → FitPieces c t (ps ++ qs)
both_fit c t [] qs p q = q
both_fit c t (word w ∷ ps) qs p q = both_fit c t ps qs p q
both_fit c t (phrase g ∷ ps) qs p q = (p.0, p.1, both_fit c t ps qs p.2 q)

pieces_fit : (c : Scope) (t : ℕ) (us : List Piece) (g : ℕ) (es : List Element) → FitPieces c t us → t < g → g + daughters es ≤ c.phrases → FitPieces c t (element_pieces us g es)
pieces_fit c t us g [] fit low few = tt
pieces_fit c t us g (cat d ∷ es) fit low few = (low, omega arith, pieces_fit c t us (suc g) es fit (omega arith) (omega arith))
pieces_fit c t us g (cats d ∷ es) fit low few = (low, omega arith, pieces_fit c t us (suc g) es fit (omega arith) (omega arith))
pieces_fit c t us g (derived goal ∷ es) fit low few = pieces_fit c t us g es fit low few
pieces_fit c t us g (sem_head d ∷ es) fit low few = both_fit c t us (element_pieces us g es) fit (pieces_fit c t us g es fit low few)
pieces_fit c t us g (member m ∷ es) fit low few = pieces_fit c t us g es fit low few
pieces_fit c t us g (tail m ∷ es) fit low few = pieces_fit c t us g es fit low few

module _ (h : Hierarchy) (law : IsLawful h) (st : State) (is : IsState h st) where
  self : Goes h st st
  self = goes_self h st is

  stepping_on : (n f : ℕ) (d : Demand) → n < st.next → f < h.features → FitsDemand h (scope_of st) d → Goes h st (stepping h n f d st)
  stepping_on n f d low known fit =
      let g = goes_told h st st self (OfType n (h.intro f)) (low, law.intro_inside f known) in
      goes_doing h st (told (OfType n (h.intro f)) st) g (take n f d) (
        low,
        known,
        demand_wider h (scope_of st) (scope_of (told (OfType n (h.intro f)) st)) g.wider d fit,
        (h.intro f, has_right st.facts (OfType n (h.intro f) ∷ []) (OfType n (h.intro f)) (inl refl), law.along_self (h.intro f)),
      )

  leading_on : (b : ℕ) (q : List ℕ) (a : ℕ) → b < st.next → FitsPath h q → a < st.next → Goes h st (leading h b q a st)
  leading_on b [] a low fit other = goes_told h st st self (Same a b) (other, low)
  leading_on b (f ∷ q) a low fit other = stepping_on b f (leads q a) low fit.0 (fit.1, other)

  equating_on : (a : ℕ) (p : List ℕ) (b : ℕ) (q : List ℕ) → a < st.next → FitsPath h p → b < st.next → FitsPath h q → Goes h st (equating_paths h a p b q st)
  equating_on a [] b q low fit other fits = leading_on b q a other fits low
  equating_on a (f ∷ p) b q low fit other fits = stepping_on a f (ends_with p b q) low fit.0 (fit.1, other, fits)

  binding_on : (e v n : ℕ) → e < length st.envs → v < length (env_at st.envs e) → n < st.next → (o : Option ℕ) → bound st.envs e v ≡ o → Goes h st (binding e v n o st)
  binding_on e v n inside slot_in low None b = goes_bind h st st self e v n inside slot_in low
  binding_on e v n inside slot_in low (Some m) b = goes_told h st st self (Same n m) (low, is.below e v m b)

  alternatives_on : (e n : ℕ) (ds : Descriptions) → n < st.next → e < length st.envs → FitDescriptions h (length (env_at st.envs e)) ds → Every (Goes h st) (alternatives e n ds st)
  alternatives_on e n none low inside fit = every_none (Goes h st)
  alternatives_on e n (more d ds) low inside fit =
      every_more (Goes h st) (doing (on n (holds e d)) st) (alternatives e n ds st) (goes_doing h st st self (on n (holds e d)) (low, (inside, fit.0))) (alternatives_on e n ds low inside fit.1)

  differing_on : (e n : ℕ) (d : Description) → n < st.next → FitsIn h (scope_of st) e d → Goes h st (differing e n d st)
  differing_on e n d low fit =
      let g = goes_grown h st st self 1 in
      let k = goes_doing h st (grown 1 st) g (on st.next (holds e d)) (omega arith, fit) in
      goes_told h st (doing (on st.next (holds e d)) (grown 1 st)) k (Differ n st.next) (omega arith, omega arith)

  taken_on : (n f : ℕ) (d : Demand) → FitsDemand h (scope_of st) d → (o : Option ℕ) → ((m : ℕ) → o ≡ Some m → m < st.next) → Every (Goes h st) (taken d o st)
  taken_on n f d fit None below = every_none (Goes h st)
  taken_on n f d fit (Some m) below = every_one (Goes h st) (doing (on m d) st) (goes_doing h st st self (on m d) (below m refl, fit))

  goal_alternatives_on : (e c : ℕ) (gs : Goals) → e < length st.envs → FitGoals h (length (env_at st.envs e)) gs → Every (Goes h st) (goal_alternatives e c gs st)
  goal_alternatives_on e c no_goal inside fit = every_none (Goes h st)
  goal_alternatives_on e c (and_goal g gs) inside fit =
      every_more (Goes h st) (doing (derive e c g) st) (goal_alternatives e c gs st) (goes_doing h st st self (derive e c g) (inside, fit.0)) (goal_alternatives_on e c gs inside fit.1)

  equating_new_on : (e : ℕ) (d d' : Description) → e < length st.envs → FitsDescription h (length (env_at st.envs e)) d → FitsDescription h (length (env_at st.envs e)) d' → Goes h st (equating e d d' st)
  equating_new_on e d d' inside fit fit' =
      let g = goes_grown h st st self 1 in
      let k = goes_doing h st (grown 1 st) g (on st.next (holds e d')) (omega arith, (inside, fit')) in
      goes_doing h st (doing (on st.next (holds e d')) (grown 1 st)) k (on st.next (holds e d)) (omega arith, (inside, fit))

  calling_on : (e p : ℕ) (ds : Descriptions) → e < length st.envs → FitDescriptions h (length (env_at st.envs e)) ds → Goes h st (calling e p ds st)
  calling_on e p ds inside fit =
      let k : ℕ = how_many ds in
      let ns : List ℕ = numbers st.next k in
      let low : AreBelow (st.next + k) ns = numbers_below st.next k (st.next + k) (omega arith) in
      let a = goes_grown h st st self k in
      let b = goes_doing h st (grown k st) a (called p ns) low in
      goes_doing_all h st (doing (called p ns) (grown k st)) b (items_each e ds ns) (each_fit h (scope_of (doing (called p ns) (grown k st))) e ds ns inside fit low)

  goal_on : (waiting e c : ℕ) (g : Goal) → FitsGoalIn h (scope_of st) e g → Every (Goes h st) (goal_kids waiting e c g st)
  goal_on waiting e c yes fit = every_one (Goes h st) st self
  goal_on waiting e c cut fit = every_one (Goes h st) st self
  goal_on waiting e c (each gs) fit = every_one (Goes h st) (doing_all (goals e c gs) st) (goes_doing_all h st st self (goals e c gs) (goals_fit h (scope_of st) e c gs fit.0 fit.1))
  goal_on waiting e c (either gs) fit = goal_alternatives_on e c gs fit.0 fit.1
  goal_on waiting e c (equal d d') fit = every_one (Goes h st) (equating e d d' st) (equating_new_on e d d' fit.0 fit.1.0 fit.1.1)
  goal_on waiting e c (call p ds) fit = every_one (Goes h st) (calling e p ds st) (calling_on e p ds fit.0 fit.1)
  goal_on waiting e c (unless g) fit =
      every_more (Goes h st) (doing_all (derive e waiting g ∷ cuts waiting ∷ stop ∷ []) st) (st ∷ [])
      (goes_doing_all h st st self (derive e waiting g ∷ cuts waiting ∷ stop ∷ []) ((fit.0, fit.1), (tt, (tt, tt)))) (every_one (Goes h st) st self)
  goal_on waiting e c (if_else g t f) fit =
      every_more (Goes h st) (doing_all (derive e waiting g ∷ cuts waiting ∷ derive e c t ∷ []) st) (doing (derive e c f) st ∷ [])
      (goes_doing_all h st st self (derive e waiting g ∷ cuts waiting ∷ derive e c t ∷ []) ((fit.0, fit.1.0), (tt, ((fit.0, fit.1.1), tt))))
      (every_one (Goes h st) (doing (derive e c f) st) (goes_doing h st st self (derive e c f) (fit.0, fit.1.2)))
  goal_on waiting e c (once g t) fit =
      every_one (Goes h st) (doing_all (derive e waiting g ∷ cuts waiting ∷ derive e c t ∷ []) st)
      (goes_doing_all h st st self (derive e waiting g ∷ cuts waiting ∷ derive e c t ∷ []) ((fit.0, fit.1.0), (tt, ((fit.0, fit.1.1), tt))))

  -- a new environment is there, with its slots
  env_there : (slots : ℕ) → length st.envs < length (with_env slots st).envs
  env_there slots = let l = more_envs st.envs (replicate slots None) in omega arith

  clause_on : (waiting : ℕ) (ns : List ℕ) (c : Clause) → AreBelow st.next ns → FitsClause h c → Goes h st (by_clause waiting ns c st)
  clause_on waiting ns c low fit =
      let e : ℕ = length st.envs in
      let slots : length (env_at (with_env c.slots st).envs e) ≡ c.slots = new_length st.envs c.slots in
      let a = goes_with_env h st st self c.slots in
      let b = goes_doing h st (with_env c.slots st) a (derive e waiting c.body) (env_there c.slots, subst (λ z. FitsGoal h z c.body) (sym slots) fit.body) in
      goes_doing_all h st (doing (derive e waiting c.body) (with_env c.slots st)) b (items_each e c.args ns)
      (each_fit h (scope_of (doing (derive e waiting c.body) (with_env c.slots st))) e c.args ns (env_there c.slots) (subst (λ z. FitDescriptions h z c.args) (sym slots) fit.args) low)

  clauses_on : (waiting : ℕ) (ns : List ℕ) (cs : List Clause) → AreBelow st.next ns → ((c : Clause) → Has cs c → FitsClause h c) → Every (Goes h st) (clause_kids waiting ns cs st)
  clauses_on waiting ns [] low fit = every_none (Goes h st)
  clauses_on waiting ns (c ∷ cs) low fit =
      every_more (Goes h st) (by_clause waiting ns c st) (clause_kids waiting ns cs st) (clause_on waiting ns c low (fit c (inl refl))) (clauses_on waiting ns cs low (λ d q. fit d (inr q)))

  pub constraint_on : (waiting n k : ℕ) (c : Constraint) → n < st.next → FitsConstraint h c → Goes h st (with_constraint waiting n k c st)
  constraint_on waiting n k c low fit =
      let b = goal c.goal fit.goal in
      goes_doing h st (doing_goal e waiting c.goal three) b (on n (holds e c.desc)) (below c.goal, there c.goal)
    where
      e : ℕ
      e = length st.envs

      three : State
      three = imposing n k (with_env c.slots st)

      slots : length (env_at (with_env c.slots st).envs e) ≡ c.slots
      slots = new_length st.envs c.slots

      imposed : Goes h st (imposing n k (with_env c.slots st))
      imposed = goes_imposing h st (with_env c.slots st) (goes_with_env h st st self c.slots) n k low

      goal : (o : Option Goal) → FitsGoal h c.slots (goal_of o) → Goes h st (doing_goal e waiting o (imposing n k (with_env c.slots st)))
      goal None f = imposed
      goal (Some g) f = goes_doing h st (imposing n k (with_env c.slots st)) imposed (derive e waiting g) (env_there c.slots, subst (λ z. FitsGoal h z g) (sym slots) f)

      below : (o : Option Goal) → n < (doing_goal e waiting o (imposing n k (with_env c.slots st))).next
      below None = low
      below (Some g) = low

      there : (o : Option Goal) → FitsIn h (scope_of (doing_goal e waiting o (imposing n k (with_env c.slots st)))) e c.desc
      there None = (env_there c.slots, subst (λ z. FitsDescription h z c.desc) (sym slots) fit.desc)
      there (Some g) = (env_there c.slots, subst (λ z. FitsDescription h z c.desc) (sym slots) fit.desc)

  split_on : (lists : Option ListTypes) → ((l : ListTypes) → lists ≡ Some l → FitLists h l) → (n : ℕ) (end : Option (ℕ × Description)) → n < st.next → FitsEnd h (scope_of st) end → Every (Goes h st) (split_kids lists n end st)
  split_on None fit n end low fit_end = every_none (Goes h st)
  split_on (Some l) fit n end low fit_end =
      every_more (Goes h st) (told (OfType n l.e_list) (ending end st)) (told (OfType n l.ne_list) (remaining n st) ∷ [])
      (goes_told h st (ending end st) (ended end fit_end) (OfType n l.e_list) (below end, (fit l refl).e_list))
      (every_one (Goes h st) (told (OfType n l.ne_list) (remaining n st)) (goes_told h st (remaining n st) (goes_remaining h st st self n low) (OfType n l.ne_list) (low, (fit l refl).ne_list)))
    where
      ended : (o : Option (ℕ × Description)) → FitsEnd h (scope_of st) o → Goes h st (ending o st)
      ended None f = self
      ended (Some o) f = goes_doing h st st self (on o.0 (holds 0 o.1)) f

      below : (o : Option (ℕ × Description)) → n < (ending o st).next
      below None = low
      below (Some o) = low

  -- where words are found
  generate_on : (sems : Option ℕ) (n g : ℕ) → n < st.next → g < st.phrases → Every (Goes h st) (generate_kids sems n g st)
  generate_on None n g low few = every_none (Goes h st)
  generate_on (Some sem) n g low few =
      let t : Target = record { node = n; phrase = g; steps = 0 } in
      every_one (Goes h st) (doing_all (called sem (n ∷ st.next ∷ []) ∷ pivot st.next t ∷ []) (grown 1 st))
      (goes_doing_all h st (grown 1 st) (goes_grown h st st self 1) (called sem (n ∷ st.next ∷ []) ∷ pivot st.next t ∷ [])
      ((omega arith, (omega arith, tt)), ((omega arith, (omega arith, few)), tt)))

  list_on : (lists : Option ListTypes) → ((l : ListTypes) → lists ≡ Some l → FitLists h l) → (n g : ℕ) → n < st.next → g < st.phrases → Every (Goes h st) (list_kids lists n g st)
  list_on None fit n g low few = every_none (Goes h st)
  list_on (Some l) fit n g low few =
      let f = fit l refl in
      let first : ℕ = st.phrases in
      let ps : List Piece = phrase first ∷ phrase (suc first) ∷ [] in
      let items : List Item = take n l.hd (generates first) ∷ take n l.tl (generates_all (suc first)) ∷ [] in
      let a = goes_with_phrases h st st self 2 in
      let b = goes_say h st (with_phrases 2 st) a g ps (omega arith) (omega arith, omega arith, (omega arith, omega arith, tt)) in
      let c = goes_told h st (say g ps (with_phrases 2 st)) b (OfType n l.ne_list) (low, f.ne_list) in
      let has = has_right st.facts (OfType n l.ne_list ∷ []) (OfType n l.ne_list) (inl refl) in
      every_more (Goes h st) (told (OfType n l.e_list) (say g [] st)) (doing_all items (told (OfType n l.ne_list) (say g ps (with_phrases 2 st))) ∷ [])
      (goes_told h st (say g [] st) (goes_say h st st self g [] few tt) (OfType n l.e_list) (low, f.e_list))
      (every_one (Goes h st) (doing_all items (told (OfType n l.ne_list) (say g ps (with_phrases 2 st))))
      (goes_doing_all h st (told (OfType n l.ne_list) (say g ps (with_phrases 2 st))) c items
      ((low, f.hd.0, omega arith, (l.ne_list, has, f.hd.1)), ((low, f.tl.0, omega arith, (l.ne_list, has, f.tl.1)), tt))))

  entry_on : (sem sm : ℕ) (t : Target) (pieces : List Piece) (x : Entry) → IsEntry h x → sm < st.next → FitsTarget (scope_of st) t → FitPieces (scope_of st) t.phrase pieces → Goes h st (by_entry sem sm t pieces x st)
  entry_on sem sm t pieces x entry low fit fit_pieces =
      let g = goes_putting h st st law self x.kept x.root entry in
      let below = entry.root_below in
      let node = fit.0 in
      goes_doing_all h st (putting x.kept st) g (called sem ((st.next + x.root) ∷ sm ∷ []) ∷ connect (st.next + x.root) pieces t ∷ [])
      ((omega arith, (omega arith, tt)), ((omega arith, (omega arith, fit.1), pieces_wider h (scope_of st) (scope_of (putting x.kept st)) g.wider t.phrase pieces fit_pieces), tt))

  entries_on : (sem sm : ℕ) (t : Target) (xs : List Entry) → ((x : Entry) → Has xs x → IsEntry h x) → sm < st.next → FitsTarget (scope_of st) t → Every (Goes h st) (entry_kids sem sm t xs st)
  entries_on sem sm t [] are low fit = every_none (Goes h st)
  entries_on sem sm t (x ∷ xs) are low fit =
      every_more (Goes h st) (by_entry sem sm t (word x.word ∷ []) x st) (entry_kids sem sm t xs st) (entry_on sem sm t (word x.word ∷ []) x (are x (inl refl)) low fit tt) (entries_on sem sm t xs (λ y q. are y (inr q)) low fit)

  empties_on : (sem sm : ℕ) (t : Target) (xs : List Entry) → ((x : Entry) → Has xs x → IsEntry h x) → sm < st.next → FitsTarget (scope_of st) t → Every (Goes h st) (empty_kids sem sm t xs st)
  empties_on sem sm t [] are low fit = every_none (Goes h st)
  empties_on sem sm t (x ∷ xs) are low fit =
      every_more (Goes h st) (by_entry sem sm t [] x st) (empty_kids sem sm t xs st) (entry_on sem sm t [] x (are x (inl refl)) low fit tt) (empties_on sem sm t xs (λ y q. are y (inr q)) low fit)

  rule_on : (waiting : ℕ) (before : ℕ → ℕ → List Item) (us : List Piece) (t : Target) (r : Rule) → FitsRule h r → FitsTarget (scope_of st) t → FitPieces (scope_of st) t.phrase us →
      ((c : Scope) → Wider (scope_of st) c → st.next < c.next → length (env_at c.envs (length st.envs)) ≡ r.slots → length st.envs < length c.envs → FitItems h c (before (length st.envs) st.next)) → Goes h st (by_rule waiting before us t r st)
  rule_on waiting before us t r fit fit_target fit_us first =
      let e : ℕ = length st.envs in
      let k : ℕ = daughters r.elements in
      let last : State = with_phrases k (grown (suc k) (with_env r.slots st)) in
      let third : State = doing (connect st.next (element_pieces us st.phrases r.elements) t) last in
      let second : State = doing_all (element_items e waiting (suc st.next) st.phrases r.elements) third in
      let slots : length (env_at last.envs e) ≡ r.slots = new_length st.envs r.slots in
      let a = goes_with_env h st st self r.slots in
      let b = goes_grown h st (with_env r.slots st) a (suc k) in
      let c = goes_with_phrases h st (grown (suc k) (with_env r.slots st)) b k in
      let node = fit_target.0 in
      let few = fit_target.1 in
      let d = goes_doing h st last c (connect st.next (element_pieces us st.phrases r.elements) t)
      (omega arith, (omega arith, omega arith), pieces_fit (scope_of last) t.phrase us st.phrases r.elements (pieces_wider h (scope_of st) (scope_of last) c.wider t.phrase us fit_us) few (omega arith)) in
      let f = goes_doing_all h st third d (element_items e waiting (suc st.next) st.phrases r.elements)
      (elements_fit h (scope_of third) e waiting (suc st.next) st.phrases r.elements (env_there r.slots) (λ y q. subst (λ z. FitsElement h z y) (sym slots) (fit.elements y q)) (omega arith) (omega arith)) in
      goes_doing_all h st second f (on st.next (holds e r.mother) ∷ before e st.next)
      ((omega arith, (env_there r.slots, subst (λ z. FitsDescription h z r.mother) (sym slots) fit.mother)), first (scope_of second) f.wider (omega arith) slots (env_there r.slots))

  pivot_rules_on : (waiting sem sm : ℕ) (t : Target) (rs : List Rule) → ((r : Rule) → Has rs r → FitsRule h r) → sm < st.next → FitsTarget (scope_of st) t → Every (Goes h st) (pivot_rules waiting sem sm t rs st)
  pivot_rules_on waiting sem sm t [] fit low fit_target = every_none (Goes h st)
  pivot_rules_on waiting sem sm t (r ∷ rs) fit low fit_target = go (semantic_head r.elements) (pivot_rules_on waiting sem sm t rs (λ q k. fit q (inr k)) low fit_target)
    where
      before : ℕ → ℕ → List Item
      before e p = called sem (p ∷ sm ∷ []) ∷ []

      go : (o : Option Description) → Every (Goes h st) (pivot_rules waiting sem sm t rs st) → Every (Goes h st) (pivot_rule waiting sem sm t r st o (pivot_rules waiting sem sm t rs st))
      go None later =
          every_more (Goes h st) (by_rule waiting before [] t r st) (pivot_rules waiting sem sm t rs st)
          (rule_on waiting before [] t r (fit r (inl refl)) fit_target tt (λ c w inside slots there. ((inside, (let i = w.next in omega arith, tt)), tt))) later
      go (Some d) later = later

  pivot_on : (gr : Grammar) (waiting : ℕ) (sems : Option ℕ) → ((e : Entry) → Has gr.words.entries e ⊎ Has gr.words.empties e → IsEntry h e) → ((r : Rule) → Has gr.program.rules r → FitsRule h r) → (sm : ℕ) (t : Target) → sm < st.next → FitsTarget (scope_of st) t → Every (Goes h st) (pivot_kids gr waiting sems sm t st)
  pivot_on gr waiting None words rules sm t low fit = every_none (Goes h st)
  pivot_on gr waiting (Some sem) words rules sm t low fit =
      every_both (Goes h st) (entry_kids sem sm t gr.words.entries st) (empty_kids sem sm t gr.words.empties st ++ pivot_rules waiting sem sm t gr.program.rules st)
      (entries_on sem sm t gr.words.entries (λ x k. words x (inl k)) low fit)
      (every_both (Goes h st) (empty_kids sem sm t gr.words.empties st) (pivot_rules waiting sem sm t gr.program.rules st)
      (empties_on sem sm t gr.words.empties (λ x k. words x (inr k)) low fit) (pivot_rules_on waiting sem sm t gr.program.rules rules low fit))

  -- the head's description has its variables where the rule has its own
  head_fit : (slots : ℕ) (es : List Element) (d : Description) → ((y : Element) → Has es y → FitsElement h slots y) → semantic_head es ≡ Some d → FitsDescription h slots d
  head_fit slots [] d fit e = absurd cc
  head_fit slots (sem_head x ∷ es) d fit e = subst (FitsDescription h slots) (some_one e) (fit (sem_head x) (inl refl))
  head_fit slots (cat x ∷ es) d fit e = head_fit slots es d (λ y k. fit y (inr k)) e
  head_fit slots (cats x ∷ es) d fit e = head_fit slots es d (λ y k. fit y (inr k)) e
  head_fit slots (derived g ∷ es) d fit e = head_fit slots es d (λ y k. fit y (inr k)) e
  head_fit slots (member n ∷ es) d fit e = head_fit slots es d (λ y k. fit y (inr k)) e
  head_fit slots (tail n ∷ es) d fit e = head_fit slots es d (λ y k. fit y (inr k)) e

  upward_rules_on : (waiting p : ℕ) (us : List Piece) (t : Target) (rs : List Rule) → ((r : Rule) → Has rs r → FitsRule h r) → p < st.next → FitsTarget (scope_of st) t → FitPieces (scope_of st) t.phrase us → Every (Goes h st) (upward_rules waiting p us t rs st)
  upward_rules_on waiting p us t [] fit low fit_target fit_us = every_none (Goes h st)
  upward_rules_on waiting p us t (r ∷ rs) fit low fit_target fit_us = go (semantic_head r.elements) refl (upward_rules_on waiting p us t rs (λ q k. fit q (inr k)) low fit_target fit_us)
    where
      before : Description → ℕ → ℕ → List Item
      before d e q = on p (holds e d) ∷ []

      go : (o : Option Description) → semantic_head r.elements ≡ o → Every (Goes h st) (upward_rules waiting p us t rs st) → Every (Goes h st) (upward_rule waiting p us t r st o (upward_rules waiting p us t rs st))
      go None e later = later
      go (Some d) e later =
          every_more (Goes h st) (by_rule waiting (before d) us (one_up t) r st) (upward_rules waiting p us t rs st)
          (rule_on waiting (before d) us (one_up t) r (fit r (inl refl)) fit_target fit_us
          (λ c w inside slots there. ((let i = w.next in omega arith, (there, subst (λ z. FitsDescription h z d) (sym slots) (head_fit r.slots r.elements d (fit r (inl refl)).elements e))), tt))) later

  connect_on : (gr : Grammar) (waiting p : ℕ) (us : List Piece) (t : Target) → ((r : Rule) → Has gr.program.rules r → FitsRule h r) → p < st.next → FitsTarget (scope_of st) t → FitPieces (scope_of st) t.phrase us → Every (Goes h st) (connect_kids gr waiting p us t st)
  connect_on gr waiting p us t rules low fit fit_us =
      every_more (Goes h st) (told (Same p t.node) (say t.phrase us st)) (cond (ltb t.steps gr.program.chain_length) (upward_rules waiting p us t gr.program.rules st) [])
      (goes_told h st (say t.phrase us st) (goes_say h st st self t.phrase us fit.1 fit_us) (Same p t.node) (low, fit.0)) (go (ltb t.steps gr.program.chain_length))
    where
      go : (b : Bool) → Every (Goes h st) (cond b (upward_rules waiting p us t gr.program.rules st) [])
      go true = upward_rules_on waiting p us t gr.program.rules rules low fit fit_us
      go false = every_none (Goes h st)

-- the whole table
pub kids_on : (gr : Grammar) → IsLawful gr.signature → FitsProgram gr.signature gr.program → ((e : Entry) → Has gr.words.entries e ⊎ Has gr.words.empties e → IsEntry gr.signature e) → (waiting : ℕ) (c : Closed) (st : State) → IsState gr.signature st →
    ((n f m : ℕ) → class_value (class_of c) c.facts (class_of c n) f ≡ Some m → m < st.next) → (i : Item) → FitsItem gr.signature (scope_of st) i → Every (Goes gr.signature st) (kids gr waiting c i st)
kids_on gr law program words waiting c st is below (on n (holds e (of_type t))) fit =
    every_one (Goes gr.signature st) (told (OfType n t) st) (goes_told gr.signature st st (self gr.signature law st is) (OfType n t) (fit.0, fit.1.1))
kids_on gr law program words waiting c st is below (on n (holds e (slot v))) fit =
    every_one (Goes gr.signature st) (binding e v n (bound st.envs e v) st) (binding_on gr.signature law st is e v n fit.1.0 fit.1.1 fit.0 (bound st.envs e v) refl)
kids_on gr law program words waiting c st is below (on n (holds e (at f d))) fit =
    every_one (Goes gr.signature st) (stepping gr.signature n f (holds e d) st) (stepping_on gr.signature law st is n f (holds e d) fit.0 fit.1.1.0 (fit.1.0, fit.1.1.1))
kids_on gr law program words waiting c st is below (on n (holds e (all ds))) fit =
    every_one (Goes gr.signature st) (doing_all (items_at e n ds) st) (goes_doing_all gr.signature st st (self gr.signature law st is) (items_at e n ds) (at_fit gr.signature (scope_of st) e n ds fit.0 fit.1.0 fit.1.1))
kids_on gr law program words waiting c st is below (on n (holds e (any ds))) fit = alternatives_on gr.signature law st is e n ds fit.0 fit.1.0 fit.1.1
kids_on gr law program words waiting c st is below (on n (holds e (differs d))) fit = every_one (Goes gr.signature st) (differing e n d st) (differing_on gr.signature law st is e n d fit.0 fit.1)
kids_on gr law program words waiting c st is below (on n (holds e (path_equation p q))) fit =
    every_one (Goes gr.signature st) (equating_paths gr.signature n p n q st) (equating_on gr.signature law st is n p n q fit.0 fit.1.1.0 fit.0 fit.1.1.1)
kids_on gr law program words waiting c st is below (on a (ends_with p b q)) fit =
    every_one (Goes gr.signature st) (equating_paths gr.signature a p b q st) (equating_on gr.signature law st is a p b q fit.0 fit.1.0 fit.1.1 fit.1.2)
kids_on gr law program words waiting c st is below (on b (leads q a)) fit = every_one (Goes gr.signature st) (leading gr.signature b q a st) (leading_on gr.signature law st is b q a fit.0 fit.1.0 fit.1.1)
kids_on gr law program words waiting c st is below (on n (generates g)) fit = generate_on gr.signature law st is gr.program.semantics n g fit.0 fit.1
kids_on gr law program words waiting c st is below (on n (generates_all g)) fit = list_on gr.signature law st is gr.program.lists program.lists n g fit.0 fit.1
kids_on gr law program words waiting c st is below (take n f d) fit =
    taken_on gr.signature law st is n f d fit.2 (class_value (class_of c) c.facts (class_of c n) f) (below n f)
kids_on gr law program words waiting c st is below (derive e k g) fit = goal_on gr.signature law st is waiting e k g fit
kids_on gr law program words waiting c st is below (called p ns) fit = clauses_on gr.signature law st is waiting ns (clauses_of gr.program p) fit (program.clauses p)
kids_on gr law program words waiting c st is below (cuts k) fit = every_one (Goes gr.signature st) st (self gr.signature law st is)
kids_on gr law program words waiting c st is below stop fit = every_none (Goes gr.signature st)
kids_on gr law program words waiting c st is below (split n end) fit = split_on gr.signature law st is gr.program.lists program.lists n end fit.0 fit.1
kids_on gr law program words waiting c st is below (pivot sm t) fit = pivot_on gr.signature law st is gr waiting gr.program.semantics words program.rules sm t fit.0 fit.1
kids_on gr law program words waiting c st is below (connect p us t) fit = connect_on gr.signature law st is gr waiting p us t program.rules fit.0 fit.1 fit.2
