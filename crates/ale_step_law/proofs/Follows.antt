-- The kids of each item, of every program: the words of each phrase are still to be found, or were found, once; where no
-- words are found none are in a kid; and a kid of a plain item is plain.
use Rattle.std.proofs.Common.{◌≡◌, ℕ, suc, ◌+◌, ◌<◌, ◌≤◌, Bool, true, false, eqb, ltb, cond, if◌then◌else◌, List, [], ◌∷◌, ◌++◌, length, ◌⊎◌, inl, inr, refl, sym, ap, ◌∙◌, subst, arith, Option, Some, None}
use Rattle.std.proofs.lemmas.Bool.{eqb-true, eq-eqb}
use Rattle.std.proofs.lemmas.List.{append_assoc}
use Rattle.ale_declared.specs.Lists.{Has, sum_over}
use Rattle.ale_hierarchy.specs.Hierarchy.{Hierarchy}
use Rattle.ale_graph.specs.declared.closed.Closed.{Closed}
use Rattle.ale_graph.specs.declared.fact.Fact.TheVariants.{OfType, Same}
use Rattle.ale_graph.specs.Filling.{class_value}
use Rattle.ale_graph.specs.Closure.{class_of}
use Rattle.ale_graph.proofs.Lists.{sum_append}
use Rattle.ale_logic.specs.Descriptions.{Description, Descriptions, of_type, slot, at, all, any, differs, path_equation, none, more, how_many}
use Rattle.ale_logic.specs.Goals.{Goal, Goals, yes, cut, each, either, equal, call, unless, if_else, once, no_goal, and_goal, IsPlain, ArePlain}
use Rattle.ale_logic.specs.Programs.{Element, cat, cats, derived, sem_head, member, tail, Clause, Constraint, Rule, ListTypes, clauses_of, goal_of}
use Rattle.ale_logic.specs.Fitting.{IsPlainElement, IsPlainProgram}
use Rattle.ale_logic.specs.Words.{Entry, Grammar}
use Rattle.ale_logic.specs.Headed.{semantic_head}
use Rattle.ale_logic.specs.States.{Demand, holds, ends_with, leads, generates, generates_all, Target, Piece, word, phrase, Item, on, take, derive, called, cuts, stop, split, pivot, connect, bound, State, told, doing, doing_all, grown, with_env, bind, imposing, with_phrases, say, remaining}
use Rattle.ale_logic.specs.DescriptionKids.{stepping, leading, equating_paths, binding, items_at, alternatives, differing, taken}
use Rattle.ale_logic.specs.GoalKids.{numbers, items_each, goals, goal_alternatives, equating, calling, goal_kids, by_clause, clause_kids, doing_goal, with_constraint}
use Rattle.ale_logic.specs.GenerationKids.{daughters, element_items, element_pieces, by_rule, pivot_rule, pivot_rules, one_up, upward_rule, upward_rules, by_entry, entry_kids, empty_kids, generate_kids, pivot_kids, connect_kids, list_kids, ending, split_kids}
use Rattle.ale_logic.specs.Visits.{kids}
use Rattle.ale_logic.specs.WellFormed.{Scope, scope_of, FitsDemand, FitsItem, FitItems, IsState, IsPlainItem, IsQuietItem, Each, ArePlainItems, AreQuietItems, times_sought, times_found}
use Rattle.ale_step_law.proofs.Carrying.{each_both}
use Rattle.ale_step_law.proofs.Every.{Every, every_none, every_more, every_one, every_both}

-- how often words of the phrase are sought or were found
abbrev pub tally : ℕ → State → ℕ
tally g st = sum_over (times_sought g) st.agenda + sum_over (times_found g) st.said

abbrev one_if : ℕ → ℕ → ℕ
one_if p g = if eqb p g then 1 else 0

one_same : (g : ℕ) → one_if g g ≡ 1
one_same g = ap (λ z. cond {A = ℕ} z 1 0) (eq-eqb g g refl)

one_other : (p g : ℕ) → (p ≡ g → ⊥) → one_if p g ≡ 0
one_other p g far = go (eqb p g) refl
  where
    go : (b : Bool) → eqb p g ≡ b → one_if p g ≡ 0
    go true e = absurd (far (eqb-true p g e))
    go false e = ap (λ z. cond {A = ℕ} z 1 0) e

-- a phrase that isn't there is neither sought nor found
demand_past : (h : Hierarchy) (c : Scope) (n : ℕ) (d : Demand) (g : ℕ) → FitsDemand h c d → c.phrases ≤ g → times_sought g (on n d) ≡ 0
demand_past h c n (holds e d) g fit le = refl
demand_past h c n (ends_with p b q) g fit le = refl
demand_past h c n (leads q a) g fit le = refl
demand_past h c n (generates p) g fit le = one_other p g (λ e. absurd (omega (arith, fit)))
demand_past h c n (generates_all p) g fit le = one_other p g (λ e. absurd (omega (arith, fit)))

take_on : (n f m : ℕ) (d : Demand) (g : ℕ) → times_sought g (on m d) ≡ times_sought g (take n f d)
take_on n f m (holds e d) g = refl
take_on n f m (ends_with p b q) g = refl
take_on n f m (leads q a) g = refl
take_on n f m (generates p) g = refl
take_on n f m (generates_all p) g = refl

item_past : (h : Hierarchy) (c : Scope) (i : Item) (g : ℕ) → FitsItem h c i → c.phrases ≤ g → times_sought g i ≡ 0
item_past h c (on n d) g fit le = demand_past h c n d g fit.1 le
item_past h c (take n f d) g fit le = sym (take_on n f n d g) ∙ demand_past h c n d g fit.2 le
item_past h c (derive e k goal) g fit le = refl
item_past h c (called p ns) g fit le = refl
item_past h c (cuts k) g fit le = refl
item_past h c stop g fit le = refl
item_past h c (split n end) g fit le = refl
item_past h c (pivot sm t) g fit le = one_other t.phrase g (λ e. let low = fit.1.1 in absurd (omega arith))
item_past h c (connect p us t) g fit le = one_other t.phrase g (λ e. let low = fit.1.1 in absurd (omega arith))

items_past : (h : Hierarchy) (c : Scope) (is : List Item) (g : ℕ) → FitItems h c is → c.phrases ≤ g → sum_over (times_sought g) is ≡ 0
items_past h c [] g fit le = refl
items_past h c (i ∷ is) g fit le = let a = item_past h c i g fit.0 le in let b = items_past h c is g fit.1 le in omega (arith, a, b)

found_past : (said : List (ℕ × List Piece)) (phrases g : ℕ) → ((p : ℕ × List Piece) → Has said p → p.0 < phrases) → phrases ≤ g → sum_over (times_found g) said ≡ 0
found_past [] phrases g low le = refl
found_past (p ∷ ps) phrases g low le =
    let here = low p (inl refl) in
    let a : times_found g p ≡ 0 = one_other p.0 g (λ e. absurd (omega (arith, here, le, e))) in
    let b = found_past ps phrases g (λ q k. low q (inr k)) le in
    omega (arith, a, b)

tally_past : (h : Hierarchy) (st : State) (g : ℕ) → IsState h st → st.phrases ≤ g → (sum_over (times_sought g) st.agenda ≡ 0) × (sum_over (times_found g) st.said ≡ 0)
tally_past h st g is le = (items_past h (scope_of st) st.agenda g is.items le, found_past st.said st.phrases g (λ p k. (is.said p.0 p.1 k).0) le)

-- what follows for a kid of an item, from a state without the item
pub record Follows (gr : Grammar) (st : State) (i : Item) (kid : State) : Type 0 where
  pub old : (g : ℕ) → g < st.phrases → tally g kid ≡ times_sought g i + tally g st
  pub new : (g : ℕ) → st.phrases ≤ g → g < kid.phrases → tally g kid ≡ 1
  pub quiet : IsQuietItem i → AreQuietItems st.agenda → AreQuietItems kid.agenda × (kid.said ≡ st.said)
  pub plain : IsPlainProgram gr.program → IsPlainItem i → ArePlainItems st.agenda → ArePlainItems kid.agenda

-- items that seek no words
at_sought : (g e n : ℕ) (ds : Descriptions) → sum_over (times_sought g) (items_at e n ds) ≡ 0
at_sought g e n none = refl
at_sought g e n (more d ds) = let r = at_sought g e n ds in omega (arith, r)

each_sought : (g e : ℕ) (ds : Descriptions) (ns : List ℕ) → sum_over (times_sought g) (items_each e ds ns) ≡ 0
each_sought g e none ns = refl
each_sought g e (more d ds) [] = refl
each_sought g e (more d ds) (n ∷ ns) = let r = each_sought g e ds ns in omega (arith, r)

goals_sought : (g e c : ℕ) (gs : Goals) → sum_over (times_sought g) (goals e c gs) ≡ 0
goals_sought g e c no_goal = refl
goals_sought g e c (and_goal x gs) = let r = goals_sought g e c gs in omega (arith, r)

at_quiet : (e n : ℕ) (ds : Descriptions) → Each IsQuietItem (items_at e n ds) × Each IsPlainItem (items_at e n ds)
at_quiet e n none = (tt, tt)
at_quiet e n (more d ds) = let r = at_quiet e n ds in ((tt, r.0), (tt, r.1))

each_quiet : (e : ℕ) (ds : Descriptions) (ns : List ℕ) → Each IsQuietItem (items_each e ds ns) × Each IsPlainItem (items_each e ds ns)
each_quiet e none ns = (tt, tt)
each_quiet e (more d ds) [] = (tt, tt)
each_quiet e (more d ds) (n ∷ ns) = let r = each_quiet e ds ns in ((tt, r.0), (tt, r.1))

goals_quiet : (e c : ℕ) (gs : Goals) → Each IsQuietItem (goals e c gs)
goals_quiet e c no_goal = tt
goals_quiet e c (and_goal g gs) = (tt, goals_quiet e c gs)

goals_plain : (e c : ℕ) (gs : Goals) → ArePlain gs → Each IsPlainItem (goals e c gs)
goals_plain e c no_goal p = tt
goals_plain e c (and_goal g gs) p = (p.0, goals_plain e c gs p.1)

-- the daughters' phrases are sought once each
elements_old : (g e c n p : ℕ) (es : List Element) → g < p → sum_over (times_sought g) (element_items e c n p es) ≡ 0
elements_old g e c n p [] low = refl
elements_old g e c n p (cat d ∷ es) low =
    let a : one_if p g ≡ 0 = one_other p g (λ z. absurd (omega arith)) in
    let b = elements_old g e c (suc n) (suc p) es (omega arith) in
    omega (arith, a, b)
elements_old g e c n p (cats d ∷ es) low =
    let a : one_if p g ≡ 0 = one_other p g (λ z. absurd (omega arith)) in
    let b = elements_old g e c (suc n) (suc p) es (omega arith) in
    omega (arith, a, b)
elements_old g e c n p (derived goal ∷ es) low = let b = elements_old g e c n p es low in omega (arith, b)
elements_old g e c n p (sem_head d ∷ es) low = elements_old g e c n p es low
elements_old g e c n p (member m ∷ es) low = elements_old g e c n p es low
elements_old g e c n p (tail m ∷ es) low = elements_old g e c n p es low

elements_new : (g e c n p : ℕ) (es : List Element) → p ≤ g → g < p + daughters es → sum_over (times_sought g) (element_items e c n p es) ≡ 1
elements_new g e c n p [] far low = absurd (omega arith)
elements_new g e c n p (cat d ∷ es) far low = go (λ less. elements_new g e c (suc n) (suc p) es less (omega arith)) (grind arith)
  where
    go : (suc p ≤ g → sum_over (times_sought g) (element_items e c (suc n) (suc p) es) ≡ 1) → (p ≡ g) ⊎ (suc p ≤ g) → sum_over (times_sought g) (element_items e c n p (cat d ∷ es)) ≡ 1
    go later (inl same) =
        let a : one_if p g ≡ 1 = subst (λ z. one_if z g ≡ 1) (sym same) (one_same g) in
        let b = elements_old g e c (suc n) (suc p) es (omega arith) in
        omega (arith, a, b)
    go later (inr less) =
        let a : one_if p g ≡ 0 = one_other p g (λ z. absurd (omega arith)) in
        let b = later less in
        omega (arith, a, b)
elements_new g e c n p (cats d ∷ es) far low = go (λ less. elements_new g e c (suc n) (suc p) es less (omega arith)) (grind arith)
  where
    go : (suc p ≤ g → sum_over (times_sought g) (element_items e c (suc n) (suc p) es) ≡ 1) → (p ≡ g) ⊎ (suc p ≤ g) → sum_over (times_sought g) (element_items e c n p (cats d ∷ es)) ≡ 1
    go later (inl same) =
        let a : one_if p g ≡ 1 = subst (λ z. one_if z g ≡ 1) (sym same) (one_same g) in
        let b = elements_old g e c (suc n) (suc p) es (omega arith) in
        omega (arith, a, b)
    go later (inr less) =
        let a : one_if p g ≡ 0 = one_other p g (λ z. absurd (omega arith)) in
        let b = later less in
        omega (arith, a, b)
elements_new g e c n p (derived goal ∷ es) far low = let b = elements_new g e c n p es far low in omega (arith, b)
elements_new g e c n p (sem_head d ∷ es) far low = elements_new g e c n p es far low
elements_new g e c n p (member m ∷ es) far low = elements_new g e c n p es far low
elements_new g e c n p (tail m ∷ es) far low = elements_new g e c n p es far low

elements_plain : (e c n p : ℕ) (es : List Element) → ((y : Element) → Has es y → IsPlainElement y) → Each IsPlainItem (element_items e c n p es)
elements_plain e c n p [] plain = tt
elements_plain e c n p (cat d ∷ es) plain = (tt, (tt, elements_plain e c (suc n) (suc p) es (λ y k. plain y (inr k))))
elements_plain e c n p (cats d ∷ es) plain = (tt, (tt, elements_plain e c (suc n) (suc p) es (λ y k. plain y (inr k))))
elements_plain e c n p (derived g ∷ es) plain = (plain (derived g) (inl refl), elements_plain e c n p es (λ y k. plain y (inr k)))
elements_plain e c n p (sem_head d ∷ es) plain = elements_plain e c n p es (λ y k. plain y (inr k))
elements_plain e c n p (member m ∷ es) plain = elements_plain e c n p es (λ y k. plain y (inr k))
elements_plain e c n p (tail m ∷ es) plain = elements_plain e c n p es (λ y k. plain y (inr k))

module _ (gr : Grammar) (st : State) where
  -- a kid that only puts items which seek what the item sought
  puts : (i : Item) (kid : State) (items : List Item) → kid.agenda ≡ items ++ st.agenda → kid.said ≡ st.said → kid.phrases ≡ st.phrases → ((g : ℕ) → sum_over (times_sought g) items ≡ times_sought g i) →
      (IsQuietItem i → Each IsQuietItem items) → (IsPlainProgram gr.program → IsPlainItem i → Each IsPlainItem items) → Follows gr st i kid
  puts i kid items agenda said phrases sought quiet plain = record {
    old = λ g low.
        let a : sum_over (times_sought g) kid.agenda ≡ sum_over (times_sought g) items + sum_over (times_sought g) st.agenda = ap (sum_over (times_sought g)) agenda ∙ sum_append (times_sought g) items st.agenda in
        let b : sum_over (times_found g) kid.said ≡ sum_over (times_found g) st.said = ap (sum_over (times_found g)) said in
        let c = sought g in
        omega (arith, a, b, c);
    new = λ g far low. absurd (omega (arith, far, low, phrases));
    quiet = λ q all. (subst (Each IsQuietItem) (sym agenda) (each_both IsQuietItem items st.agenda (quiet q) all), said);
    plain = λ program p all. subst (Each IsPlainItem) (sym agenda) (each_both IsPlainItem items st.agenda (plain program p) all);
  }

  -- a kid that puts nothing for an item which seeks nothing
  puts_none : (i : Item) (kid : State) → kid.agenda ≡ st.agenda → kid.said ≡ st.said → kid.phrases ≡ st.phrases → ((g : ℕ) → 0 ≡ times_sought g i) → Follows gr st i kid
  puts_none i kid agenda said phrases sought = puts i kid [] agenda said phrases sought (λ q. tt) (λ program p. tt)

  leading_follows : (i : Item) → ((g : ℕ) → 0 ≡ times_sought g i) → (h : Hierarchy) (b : ℕ) (q : List ℕ) (a : ℕ) → Follows gr st i (leading h b q a st)
  leading_follows i unsought h b [] a = puts_none i (told (Same a b) st) refl refl refl unsought
  leading_follows i unsought h b (f ∷ q) a = puts i (stepping h b f (leads q a) st) (take b f (leads q a) ∷ []) refl refl refl unsought (λ q. (tt, tt)) (λ program p. (tt, tt))

  equating_follows : (i : Item) → ((g : ℕ) → 0 ≡ times_sought g i) → (h : Hierarchy) (a : ℕ) (p : List ℕ) (b : ℕ) (q : List ℕ) → Follows gr st i (equating_paths h a p b q st)
  equating_follows i unsought h a [] b q = leading_follows i unsought h b q a
  equating_follows i unsought h a (f ∷ p) b q = puts i (stepping h a f (ends_with p b q) st) (take a f (ends_with p b q) ∷ []) refl refl refl unsought (λ q. (tt, tt)) (λ program p. (tt, tt))

  binding_follows : (i : Item) → ((g : ℕ) → 0 ≡ times_sought g i) → (e v n : ℕ) (o : Option ℕ) → Follows gr st i (binding e v n o st)
  binding_follows i unsought e v n None = puts_none i (bind e v n st) refl refl refl unsought
  binding_follows i unsought e v n (Some m) = puts_none i (told (Same n m) st) refl refl refl unsought

  alternatives_follow : (i : Item) → ((g : ℕ) → 0 ≡ times_sought g i) → (e n : ℕ) (ds : Descriptions) → Every (Follows gr st i) (alternatives e n ds st)
  alternatives_follow i none_sought e n none = every_none (Follows gr st i)
  alternatives_follow i none_sought e n (more d ds) =
      every_more (Follows gr st i) (doing (on n (holds e d)) st) (alternatives e n ds st)
      (puts i (doing (on n (holds e d)) st) (on n (holds e d) ∷ []) refl refl refl none_sought (λ q. (tt, tt)) (λ program p. (tt, tt)))
      (alternatives_follow i none_sought e n ds)

  taken_follows : (n f : ℕ) (d : Demand) (o : Option ℕ) → Every (Follows gr st (take n f d)) (taken d o st)
  taken_follows n f d None = every_none (Follows gr st (take n f d))
  taken_follows n f d (Some m) =
      every_one (Follows gr st (take n f d)) (doing (on m d) st)
      (puts (take n f d) (doing (on m d) st) (on m d ∷ []) refl refl refl (λ g. let e = take_on n f m d g in omega (arith, e)) (λ q. (q, tt)) (λ program p. (tt, tt)))

  goal_alternatives_follow : (e c : ℕ) (all_gs gs : Goals) → (ArePlain all_gs → ArePlain gs) → Every (Follows gr st (derive e c (either all_gs))) (goal_alternatives e c gs st)
  goal_alternatives_follow e c all_gs no_goal within = every_none (Follows gr st (derive e c (either all_gs)))
  goal_alternatives_follow e c all_gs (and_goal g gs) within =
      every_more (Follows gr st (derive e c (either all_gs))) (doing (derive e c g) st) (goal_alternatives e c gs st)
      (puts (derive e c (either all_gs)) (doing (derive e c g) st) (derive e c g ∷ []) refl refl refl (λ f. refl) (λ q. (tt, tt)) (λ program p. ((within p).0, tt)))
      (goal_alternatives_follow e c all_gs gs (λ p. (within p).1))

  goal_follows : (waiting e c : ℕ) (g : Goal) → Every (Follows gr st (derive e c g)) (goal_kids waiting e c g st)
  goal_follows waiting e c yes = every_one (Follows gr st (derive e c yes)) st (puts_none (derive e c yes) st refl refl refl (λ f. refl))
  goal_follows waiting e c cut = every_one (Follows gr st (derive e c cut)) st (puts_none (derive e c cut) st refl refl refl (λ f. refl))
  goal_follows waiting e c (each gs) =
      every_one (Follows gr st (derive e c (each gs))) (doing_all (goals e c gs) st)
      (puts (derive e c (each gs)) (doing_all (goals e c gs) st) (goals e c gs) refl refl refl (λ f. goals_sought f e c gs) (λ q. goals_quiet e c gs) (λ program p. goals_plain e c gs p))
  goal_follows waiting e c (either gs) = goal_alternatives_follow e c gs gs (λ p. p)
  goal_follows waiting e c (equal d d') =
      every_one (Follows gr st (derive e c (equal d d'))) (equating e d d' st)
      (puts (derive e c (equal d d')) (equating e d d' st) (on st.next (holds e d) ∷ on st.next (holds e d') ∷ []) refl refl refl (λ f. refl) (λ q. (tt, (tt, tt))) (λ program p. (tt, (tt, tt))))
  goal_follows waiting e c (call p ds) =
      let k : ℕ = how_many ds in
      let ns : List ℕ = numbers st.next k in
      every_one (Follows gr st (derive e c (call p ds))) (calling e p ds st)
      (puts (derive e c (call p ds)) (calling e p ds st) (items_each e ds ns ++ called p ns ∷ []) (sym (append_assoc (items_each e ds ns) (called p ns ∷ []) st.agenda)) refl refl
      (λ f. let a = each_sought f e ds ns in let b = sum_append (times_sought f) (items_each e ds ns) (called p ns ∷ []) in omega (arith, a, b))
      (λ q. each_both IsQuietItem (items_each e ds ns) (called p ns ∷ []) (each_quiet e ds ns).0 (tt, tt))
      (λ program q. each_both IsPlainItem (items_each e ds ns) (called p ns ∷ []) (each_quiet e ds ns).1 (tt, tt)))
  goal_follows waiting e c (unless g) =
      every_more (Follows gr st (derive e c (unless g))) (doing_all (derive e waiting g ∷ cuts waiting ∷ stop ∷ []) st) (st ∷ [])
      (puts (derive e c (unless g)) (doing_all (derive e waiting g ∷ cuts waiting ∷ stop ∷ []) st) (derive e waiting g ∷ cuts waiting ∷ stop ∷ []) refl refl refl (λ f. refl) (λ q. (tt, (tt, (tt, tt)))) (λ program p. absurd p))
      (every_one (Follows gr st (derive e c (unless g))) st (puts_none (derive e c (unless g)) st refl refl refl (λ f. refl)))
  goal_follows waiting e c (if_else g t f) =
      every_more (Follows gr st (derive e c (if_else g t f))) (doing_all (derive e waiting g ∷ cuts waiting ∷ derive e c t ∷ []) st) (doing (derive e c f) st ∷ [])
      (puts (derive e c (if_else g t f)) (doing_all (derive e waiting g ∷ cuts waiting ∷ derive e c t ∷ []) st) (derive e waiting g ∷ cuts waiting ∷ derive e c t ∷ []) refl refl refl (λ f. refl) (λ q. (tt, (tt, (tt, tt)))) (λ program p. absurd p))
      (every_one (Follows gr st (derive e c (if_else g t f))) (doing (derive e c f) st)
      (puts (derive e c (if_else g t f)) (doing (derive e c f) st) (derive e c f ∷ []) refl refl refl (λ f. refl) (λ q. (tt, tt)) (λ program p. absurd p)))
  goal_follows waiting e c (once g t) =
      every_one (Follows gr st (derive e c (once g t))) (doing_all (derive e waiting g ∷ cuts waiting ∷ derive e c t ∷ []) st)
      (puts (derive e c (once g t)) (doing_all (derive e waiting g ∷ cuts waiting ∷ derive e c t ∷ []) st) (derive e waiting g ∷ cuts waiting ∷ derive e c t ∷ []) refl refl refl (λ f. refl) (λ q. (tt, (tt, (tt, tt)))) (λ program p. absurd p))

  clauses_follow : (waiting p : ℕ) (ns : List ℕ) (cs : List Clause) → ((c : Clause) → Has cs c → Has (clauses_of gr.program p) c) → Every (Follows gr st (called p ns)) (clause_kids waiting ns cs st)
  clauses_follow waiting p ns [] within = every_none (Follows gr st (called p ns))
  clauses_follow waiting p ns (c ∷ cs) within =
      let e : ℕ = length st.envs in
      let items : List Item = items_each e c.args ns in
      every_more (Follows gr st (called p ns)) (by_clause waiting ns c st) (clause_kids waiting ns cs st)
      (puts (called p ns) (by_clause waiting ns c st) (items ++ derive e waiting c.body ∷ []) (sym (append_assoc items (derive e waiting c.body ∷ []) st.agenda)) refl refl
      (λ f. let a = each_sought f e c.args ns in let b = sum_append (times_sought f) items (derive e waiting c.body ∷ []) in omega (arith, a, b))
      (λ q. each_both IsQuietItem items (derive e waiting c.body ∷ []) (each_quiet e c.args ns).0 (tt, tt))
      (λ program q. each_both IsPlainItem items (derive e waiting c.body ∷ []) (each_quiet e c.args ns).1 (program.clauses p c (within c (inl refl)), tt)))
      (clauses_follow waiting p ns cs (λ d k. within d (inr k)))

  split_follows : (lists : Option ListTypes) (n : ℕ) (end : Option (ℕ × Description)) → Every (Follows gr st (split n end)) (split_kids lists n end st)
  split_follows None n end = every_none (Follows gr st (split n end))
  split_follows (Some l) n end =
      every_more (Follows gr st (split n end)) (told (OfType n l.e_list) (ending end st)) (told (OfType n l.ne_list) (remaining n st) ∷ []) (ends end)
      (every_one (Follows gr st (split n end)) (told (OfType n l.ne_list) (remaining n st)) (puts_none (split n end) (told (OfType n l.ne_list) (remaining n st)) refl refl refl (λ f. refl)))
    where
      ends : (o : Option (ℕ × Description)) → Follows gr st (split n end) (told (OfType n l.e_list) (ending o st))
      ends None = puts_none (split n end) (told (OfType n l.e_list) st) refl refl refl (λ f. refl)
      ends (Some o) = puts (split n end) (told (OfType n l.e_list) (ending (Some o) st)) (on o.0 (holds 0 o.1) ∷ []) refl refl refl (λ f. refl) (λ q. (tt, tt)) (λ program p. (tt, tt))

  -- a constraint that is imposed, as an item that seeks nothing
  pub constraint_follows : (waiting n k : ℕ) (c : Constraint) → Has gr.program.constraints c → Follows gr st (on 0 (holds 0 (of_type 0))) (with_constraint waiting n k c st)
  constraint_follows waiting n k c has = go c.goal (λ program. program.constraints c has)
    where
      e : ℕ
      e = length st.envs

      go : (o : Option Goal) → (IsPlainProgram gr.program → IsPlain (goal_of o)) → Follows gr st (on 0 (holds 0 (of_type 0))) (doing (on n (holds (length st.envs) c.desc)) (doing_goal (length st.envs) waiting o (imposing n k (with_env c.slots st))))
      go None plain =
          puts (on 0 (holds 0 (of_type 0))) (doing (on n (holds (length st.envs) c.desc)) (imposing n k (with_env c.slots st))) (on n (holds (length st.envs) c.desc) ∷ []) refl refl refl (λ f. refl) (λ q. (tt, tt)) (λ program p. (tt, tt))
      go (Some g) plain =
          puts (on 0 (holds 0 (of_type 0))) (doing (on n (holds (length st.envs) c.desc)) (doing (derive (length st.envs) waiting g) (imposing n k (with_env c.slots st)))) (on n (holds (length st.envs) c.desc) ∷ derive (length st.envs) waiting g ∷ [])
          refl refl refl (λ f. refl) (λ q. (tt, (tt, tt))) (λ program p. (tt, (plain program, tt)))

  -- a phrase that is found to consist of pieces
  says : (i : Item) (kid : State) (g : ℕ) (us : List Piece) → kid.agenda ≡ st.agenda → kid.said ≡ st.said ++ (g, us) ∷ [] → kid.phrases ≡ st.phrases → ((f : ℕ) → times_sought f i ≡ one_if g f) → (IsQuietItem i → ⊥) → Follows gr st i kid
  says i kid g us agenda said phrases sought loud = record {
    old = λ f low.
        let a : sum_over (times_sought f) kid.agenda ≡ sum_over (times_sought f) st.agenda = ap (sum_over (times_sought f)) agenda in
        let b : sum_over (times_found f) kid.said ≡ sum_over (times_found f) st.said + sum_over (times_found f) ((g, us) ∷ []) = ap (sum_over (times_found f)) said ∙ sum_append (times_found f) st.said ((g, us) ∷ []) in
        let c : times_sought f i ≡ one_if g f = sought f in
        let d : sum_over (times_found f) ((g, us) ∷ []) ≡ one_if g f + 0 = refl in
        omega (arith, a, b, c, d);
    new = λ f far low. absurd (omega (arith, far, low, phrases));
    quiet = λ q all. absurd (loud q);
    plain = λ program p all. subst (Each IsPlainItem) (sym agenda) all;
  }

module _ (gr : Grammar) (st : State) (is : IsState gr.signature st) where
  -- a pivot is sought where the node was
  generate_follows : (sems : Option ℕ) (n g : ℕ) → Every (Follows gr st (on n (generates g))) (generate_kids sems n g st)
  generate_follows None n g = every_none (Follows gr st (on n (generates g)))
  generate_follows (Some sem) n g =
      let t : Target = record { node = n; phrase = g; steps = 0 } in
      every_one (Follows gr st (on n (generates g))) (doing_all (called sem (n ∷ st.next ∷ []) ∷ pivot st.next t ∷ []) (grown 1 st))
      (puts gr st (on n (generates g)) (doing_all (called sem (n ∷ st.next ∷ []) ∷ pivot st.next t ∷ []) (grown 1 st)) (called sem (n ∷ st.next ∷ []) ∷ pivot st.next t ∷ []) refl refl refl
      (λ f. let a : times_sought f (on n (generates g)) ≡ one_if g f = refl in let b : times_sought f (pivot st.next t) ≡ one_if g f = refl in omega (arith, a, b))
      (λ q. absurd q) (λ program p. (tt, (tt, tt))))

  list_follows : (lists : Option ListTypes) (n g : ℕ) → g < st.phrases → Every (Follows gr st (on n (generates_all g))) (list_kids lists n g st)
  list_follows None n g low = every_none (Follows gr st (on n (generates_all g)))
  list_follows (Some l) n g low =
      every_more (Follows gr st (on n (generates_all g))) (told (OfType n l.e_list) (say g [] st)) (longer ∷ [])
      (says gr st (on n (generates_all g)) (told (OfType n l.e_list) (say g [] st)) g [] refl refl refl (λ f. refl) (λ q. q))
      (every_one (Follows gr st (on n (generates_all g))) longer
      (record {
        old = λ f small.
            let a : one_if st.phrases f ≡ 0 = one_other st.phrases f (λ e. absurd (omega arith)) in
            let b : one_if (suc st.phrases) f ≡ 0 = one_other (suc st.phrases) f (λ e. absurd (omega arith)) in
            let c = sum_append (times_found f) st.said ((g, ps) ∷ []) in
            omega (arith, a, b, c);
        new = λ f far small. fresh f far small (grind arith);
        quiet = λ q all. absurd q;
        plain = λ program p all. (tt, (tt, all));
      }))
    where
      ps : List Piece
      ps = phrase st.phrases ∷ phrase (suc st.phrases) ∷ []

      items : List Item
      items = take n l.hd (generates st.phrases) ∷ take n l.tl (generates_all (suc st.phrases)) ∷ []

      longer : State
      longer = doing_all (take n l.hd (generates st.phrases) ∷ take n l.tl (generates_all (suc st.phrases)) ∷ []) (told (OfType n l.ne_list) (say g (phrase st.phrases ∷ phrase (suc st.phrases) ∷ []) (with_phrases 2 st)))

      fresh : (f : ℕ) → st.phrases ≤ f → f < st.phrases + 2 → (f ≡ st.phrases) ⊎ (f ≡ suc st.phrases) → tally f longer ≡ 1
      fresh f far small (inl same) =
          let a : one_if st.phrases f ≡ 1 = subst (λ z. one_if z f ≡ 1) same (one_same f) in
          let b : one_if (suc st.phrases) f ≡ 0 = one_other (suc st.phrases) f (λ e. absurd (omega (arith, e, same))) in
          let c = sum_append (times_found f) st.said ((g, ps) ∷ []) in
          let d : one_if g f ≡ 0 = one_other g f (λ e. absurd (omega (arith, e, low, far))) in
          let p = tally_past gr.signature st f is far in
          omega (arith, a, b, c, d, p.0, p.1)
      fresh f far small (inr same) =
          let a : one_if st.phrases f ≡ 0 = one_other st.phrases f (λ e. absurd (omega (arith, e, same))) in
          let b : one_if (suc st.phrases) f ≡ 1 = subst (λ z. one_if z f ≡ 1) same (one_same f) in
          let c = sum_append (times_found f) st.said ((g, ps) ∷ []) in
          let d : one_if g f ≡ 0 = one_other g f (λ e. absurd (omega (arith, e, low, far))) in
          let p = tally_past gr.signature st f is far in
          omega (arith, a, b, c, d, p.0, p.1)

  -- a rule seeks its daughters' phrases
  rule_follows : (i : Item) (waiting : ℕ) (before : ℕ → ℕ → List Item) (us : List Piece) (t : Target) (r : Rule) → ((f : ℕ) → times_sought f i ≡ one_if t.phrase f) → (IsQuietItem i → ⊥) → t.phrase < st.phrases → Has gr.program.rules r →
      ((f : ℕ) → sum_over (times_sought f) (before (length st.envs) st.next) ≡ 0) → Each IsPlainItem (before (length st.envs) st.next) → Follows gr st i (by_rule waiting before us t r st)
  rule_follows i waiting before us t r sought loud low has first plain = record {
    old = λ f small.
        let a = elements_old f e waiting (suc st.next) st.phrases r.elements small in
        let b = sums f in
        let c : times_sought f i ≡ one_if t.phrase f = sought f in
        omega (arith, a, b, c);
    new = λ f far small.
        let a = elements_new f e waiting (suc st.next) st.phrases r.elements far small in
        let b = sums f in
        let c : one_if t.phrase f ≡ 0 = one_other t.phrase f (λ z. absurd (omega arith)) in
        let p = tally_past gr.signature st f is far in
        omega (arith, a, b, c, p.0, p.1);
    quiet = λ q all. absurd (loud q);
    plain = λ program p all.
        each_both IsPlainItem (on st.next (holds e r.mother) ∷ before e st.next) (elements ++ link ∷ st.agenda) (tt, plain)
        (each_both IsPlainItem elements (link ∷ st.agenda) (elements_plain e waiting (suc st.next) st.phrases r.elements (program.rules r has)) (tt, all));
  }
    where
      e : ℕ
      e = length st.envs

      elements : List Item
      elements = element_items (length st.envs) waiting (suc st.next) st.phrases r.elements

      link : Item
      link = connect st.next (element_pieces us st.phrases r.elements) t

      sums : (f : ℕ) → sum_over (times_sought f) (by_rule waiting before us t r st).agenda ≡ sum_over (times_sought f) elements + (one_if t.phrase f + sum_over (times_sought f) st.agenda)
      sums f =
          let a = sum_append (times_sought f) (before e st.next) (elements ++ link ∷ st.agenda) in
          let b = sum_append (times_sought f) elements (link ∷ st.agenda) in
          let c = first f in
          omega (arith, a, b, c)

  entry_follows : (sem sm : ℕ) (t : Target) (pieces : List Piece) (x : Entry) → Follows gr st (pivot sm t) (by_entry sem sm t pieces x st)
  entry_follows sem sm t pieces x =
      let p : ℕ = st.next + x.root in
      puts gr st (pivot sm t) (by_entry sem sm t pieces x st) (called sem (p ∷ sm ∷ []) ∷ connect p pieces t ∷ []) refl refl refl
      (λ f. let a : times_sought f (pivot sm t) ≡ one_if t.phrase f = refl in let b : times_sought f (connect p pieces t) ≡ one_if t.phrase f = refl in omega (arith, a, b))
      (λ q. absurd q) (λ program q. (tt, (tt, tt)))

  entries_follow : (sem sm : ℕ) (t : Target) (xs : List Entry) → Every (Follows gr st (pivot sm t)) (entry_kids sem sm t xs st)
  entries_follow sem sm t [] = every_none (Follows gr st (pivot sm t))
  entries_follow sem sm t (x ∷ xs) = every_more (Follows gr st (pivot sm t)) (by_entry sem sm t (word x.word ∷ []) x st) (entry_kids sem sm t xs st) (entry_follows sem sm t (word x.word ∷ []) x) (entries_follow sem sm t xs)

  empties_follow : (sem sm : ℕ) (t : Target) (xs : List Entry) → Every (Follows gr st (pivot sm t)) (empty_kids sem sm t xs st)
  empties_follow sem sm t [] = every_none (Follows gr st (pivot sm t))
  empties_follow sem sm t (x ∷ xs) = every_more (Follows gr st (pivot sm t)) (by_entry sem sm t [] x st) (empty_kids sem sm t xs st) (entry_follows sem sm t [] x) (empties_follow sem sm t xs)

  pivot_rules_follow : (waiting sem sm : ℕ) (t : Target) → t.phrase < st.phrases → (rs : List Rule) → ((r : Rule) → Has rs r → Has gr.program.rules r) → Every (Follows gr st (pivot sm t)) (pivot_rules waiting sem sm t rs st)
  pivot_rules_follow waiting sem sm t low [] within = every_none (Follows gr st (pivot sm t))
  pivot_rules_follow waiting sem sm t low (r ∷ rs) within = go (semantic_head r.elements) (pivot_rules_follow waiting sem sm t low rs (λ q k. within q (inr k)))
    where
      go : (o : Option Description) → Every (Follows gr st (pivot sm t)) (pivot_rules waiting sem sm t rs st) → Every (Follows gr st (pivot sm t)) (pivot_rule waiting sem sm t r st o (pivot_rules waiting sem sm t rs st))
      go None later =
          every_more (Follows gr st (pivot sm t)) (by_rule waiting (λ e p. called sem (p ∷ sm ∷ []) ∷ []) [] t r st) (pivot_rules waiting sem sm t rs st)
          (rule_follows (pivot sm t) waiting (λ e p. called sem (p ∷ sm ∷ []) ∷ []) [] t r (λ f. refl) (λ q. q) low (within r (inl refl)) (λ f. refl) (tt, tt)) later
      go (Some d) later = later

  pivot_follows : (waiting : ℕ) (sems : Option ℕ) (sm : ℕ) (t : Target) → t.phrase < st.phrases → Every (Follows gr st (pivot sm t)) (pivot_kids gr waiting sems sm t st)
  pivot_follows waiting None sm t low = every_none (Follows gr st (pivot sm t))
  pivot_follows waiting (Some sem) sm t low =
      every_both (Follows gr st (pivot sm t)) (entry_kids sem sm t gr.words.entries st) (empty_kids sem sm t gr.words.empties st ++ pivot_rules waiting sem sm t gr.program.rules st) (entries_follow sem sm t gr.words.entries)
      (every_both (Follows gr st (pivot sm t)) (empty_kids sem sm t gr.words.empties st) (pivot_rules waiting sem sm t gr.program.rules st) (empties_follow sem sm t gr.words.empties)
      (pivot_rules_follow waiting sem sm t low gr.program.rules (λ r k. k)))

  upward_rules_follow : (waiting p : ℕ) (us : List Piece) (t : Target) → t.phrase < st.phrases → (rs : List Rule) → ((r : Rule) → Has rs r → Has gr.program.rules r) → Every (Follows gr st (connect p us t)) (upward_rules waiting p us t rs st)
  upward_rules_follow waiting p us t low [] within = every_none (Follows gr st (connect p us t))
  upward_rules_follow waiting p us t low (r ∷ rs) within = go (semantic_head r.elements) (upward_rules_follow waiting p us t low rs (λ q k. within q (inr k)))
    where
      go : (o : Option Description) → Every (Follows gr st (connect p us t)) (upward_rules waiting p us t rs st) → Every (Follows gr st (connect p us t)) (upward_rule waiting p us t r st o (upward_rules waiting p us t rs st))
      go None later = later
      go (Some d) later =
          every_more (Follows gr st (connect p us t)) (by_rule waiting (λ e q. on p (holds e d) ∷ []) us (one_up t) r st) (upward_rules waiting p us t rs st)
          (rule_follows (connect p us t) waiting (λ e q. on p (holds e d) ∷ []) us (one_up t) r (λ f. refl) (λ q. q) low (within r (inl refl)) (λ f. refl) (tt, tt)) later

  connect_follows : (waiting p : ℕ) (us : List Piece) (t : Target) → t.phrase < st.phrases → Every (Follows gr st (connect p us t)) (connect_kids gr waiting p us t st)
  connect_follows waiting p us t low =
      every_more (Follows gr st (connect p us t)) (told (Same p t.node) (say t.phrase us st)) (cond (ltb t.steps gr.program.chain_length) (upward_rules waiting p us t gr.program.rules st) [])
      (says gr st (connect p us t) (told (Same p t.node) (say t.phrase us st)) t.phrase us refl refl refl (λ f. refl) (λ q. q)) (go (ltb t.steps gr.program.chain_length))
    where
      go : (b : Bool) → Every (Follows gr st (connect p us t)) (cond b (upward_rules waiting p us t gr.program.rules st) [])
      go true = upward_rules_follow waiting p us t low gr.program.rules (λ r k. k)
      go false = every_none (Follows gr st (connect p us t))

  -- the whole table
  pub kids_follow : (waiting : ℕ) (c : Closed) (i : Item) → FitsItem gr.signature (scope_of st) i → Every (Follows gr st i) (kids gr waiting c i st)
  kids_follow waiting c (on n (holds e (of_type t))) fit = every_one (Follows gr st (on n (holds e (of_type t)))) (told (OfType n t) st) (puts_none gr st (on n (holds e (of_type t))) (told (OfType n t) st) refl refl refl (λ f. refl))
  kids_follow waiting c (on n (holds e (slot v))) fit = every_one (Follows gr st (on n (holds e (slot v)))) (binding e v n (bound st.envs e v) st) (binding_follows gr st (on n (holds e (slot v))) (λ f. refl) e v n (bound st.envs e v))
  kids_follow waiting c (on n (holds e (at f d))) fit =
      every_one (Follows gr st (on n (holds e (at f d)))) (stepping gr.signature n f (holds e d) st)
      (puts gr st (on n (holds e (at f d))) (stepping gr.signature n f (holds e d) st) (take n f (holds e d) ∷ []) refl refl refl (λ f. refl) (λ q. (tt, tt)) (λ program p. (tt, tt)))
  kids_follow waiting c (on n (holds e (all ds))) fit =
      every_one (Follows gr st (on n (holds e (all ds)))) (doing_all (items_at e n ds) st)
      (puts gr st (on n (holds e (all ds))) (doing_all (items_at e n ds) st) (items_at e n ds) refl refl refl (λ f. at_sought f e n ds) (λ q. (at_quiet e n ds).0) (λ program p. (at_quiet e n ds).1))
  kids_follow waiting c (on n (holds e (any ds))) fit = alternatives_follow gr st (on n (holds e (any ds))) (λ f. refl) e n ds
  kids_follow waiting c (on n (holds e (differs d))) fit =
      every_one (Follows gr st (on n (holds e (differs d)))) (differing e n d st)
      (puts gr st (on n (holds e (differs d))) (differing e n d st) (on st.next (holds e d) ∷ []) refl refl refl (λ f. refl) (λ q. (tt, tt)) (λ program p. (tt, tt)))
  kids_follow waiting c (on n (holds e (path_equation p q))) fit =
      every_one (Follows gr st (on n (holds e (path_equation p q)))) (equating_paths gr.signature n p n q st) (equating_follows gr st (on n (holds e (path_equation p q))) (λ f. refl) gr.signature n p n q)
  kids_follow waiting c (on a (ends_with p b q)) fit = every_one (Follows gr st (on a (ends_with p b q))) (equating_paths gr.signature a p b q st) (equating_follows gr st (on a (ends_with p b q)) (λ f. refl) gr.signature a p b q)
  kids_follow waiting c (on b (leads q a)) fit = every_one (Follows gr st (on b (leads q a))) (leading gr.signature b q a st) (leading_follows gr st (on b (leads q a)) (λ f. refl) gr.signature b q a)
  kids_follow waiting c (on n (generates g)) fit = generate_follows gr.program.semantics n g
  kids_follow waiting c (on n (generates_all g)) fit = list_follows gr.program.lists n g fit.1
  kids_follow waiting c (take n f d) fit = taken_follows gr st n f d (class_value (class_of c) c.facts (class_of c n) f)
  kids_follow waiting c (derive e k g) fit = goal_follows gr st waiting e k g
  kids_follow waiting c (called p ns) fit = clauses_follow gr st waiting p ns (clauses_of gr.program p) (λ d k. k)
  kids_follow waiting c (cuts k) fit = every_one (Follows gr st (cuts k)) st (puts_none gr st (cuts k) st refl refl refl (λ f. refl))
  kids_follow waiting c stop fit = every_none (Follows gr st stop)
  kids_follow waiting c (split n end) fit = split_follows gr st gr.program.lists n end
  kids_follow waiting c (pivot sm t) fit = pivot_follows waiting gr.program.semantics sm t fit.1.1
  kids_follow waiting c (connect p us t) fit = connect_follows waiting p us t fit.1.1
