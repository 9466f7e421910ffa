-- What a visit is, from the parts that the program finds one after another.
use Rattle.std.proofs.Common.{◌≡◌, ℕ, zero, suc, List, [], ◌∷◌, ◌++◌, length, sym, ap, ◌∙◌, subst, refl, Option, Some, None, append_assoc}
use Rattle.std.proofs.lemmas.List.{map-append}
use Rattle.ale_declared.specs.Lists.{Has}
use Rattle.ale_hierarchy.specs.Hierarchy.{Hierarchy, IsLawful}
use Rattle.ale_graph.specs.declared.closed.Closed.{Closed}
use Rattle.ale_graph.specs.Closure.{close, class_of, classes_below}
use Rattle.ale_graph.specs.Settled.{first_some}
use Rattle.ale_engine.specs.Engine.{Visit, answers, goes}
use Rattle.ale_logic.specs.Descriptions.{Description, description, of_type, slot, at, all, any, differs, path_equation}
use Rattle.ale_logic.specs.States as plain
use Rattle.ale_logic.specs.States.{numbered}
use Rattle.ale_logic.specs.WellFormed.{Scope, scope_of, FitsDemand, FitItems, IsState}
use Rattle.ale_logic.specs.Visits.{Owed, owed_by, owed, closed_at, visit_item, visit_owed, visit_of, visit, kids, stay}
use Rattle.ale_search.specs.declared.state.Item.{Item}
use Rattle.ale_search.specs.declared.state.Item.TheVariants.{On, Take}
use Rattle.ale_search.specs.declared.state.Demand.TheVariants.{Holds, EndsWith, Leads}
use Rattle.ale_search.specs.declared.state.State.{State}
use Rattle.ale_search.specs.Views.{bare, item_of, demand_of, agenda_of, state_of, states_of, waiting_of, IsKnownDemand, IsKnown}
use Rattle.ale_logic.specs.Steps.{StepLaws}
use Rattle.ale_search.proofs.Bare.{bare_grammar}
use Rattle.ale_search.proofs.Turned.{turned_push}

known_demand : (h : Hierarchy) (c : Scope) (x : plain.Demand) → FitsDemand h c x → IsKnownDemand h c.envs x
known_demand h c (plain.holds e d) fit = fit
known_demand h c (plain.ends_with p b q) fit = (fit.0, fit.2)
known_demand h c (plain.leads q a) fit = fit.0
known_demand h c (plain.generates g) fit = tt
known_demand h c (plain.generates_all g) fit = tt

known : (h : Hierarchy) (c : Scope) (i : plain.Item) (is : List plain.Item) → FitItems h c (i ∷ is) → IsKnown h c.envs i
known h c (plain.on n x) is fit = known_demand h c x fit.0.1
known h c (plain.take n f x) is fit = tt
known h c (plain.derive e k g) is fit = tt
known h c (plain.called p ns) is fit = tt
known h c (plain.cuts k) is fit = tt
known h c plain.stop is fit = tt
known h c (plain.split n end) is fit = tt
known h c (plain.pivot s target) is fit = tt
known h c (plain.connect p us target) is fit = tt

-- the last item of the stack is known
pub known_last : (h : Hierarchy) (c : Scope) (items below : List Item) (item : Item) → items ≡ below ++ item ∷ [] → FitItems h c (agenda_of items) → IsKnown h c.envs (item_of item)
known_last h c items below item e fit =
    known h c (item_of item) (agenda_of below) (subst (FitItems h c) (ap agenda_of e ∙ turned_push item_of below item []) fit)

-- nothing is owed where there are no constraints
none_owed : (h : Hierarchy) (c : Closed) (classes : List ℕ) → first_some (λ a. owed_by h c [] a 0 []) classes ≡ None
none_owed h c [] = refl
none_owed h c (a ∷ classes) = none_owed h c classes

pub nothing_owed : (h : Hierarchy) (c : Closed) → owed (bare h) c [] ≡ None
nothing_owed h c = none_owed h c (classes_below (class_of c) c.next)

-- how many wait is nothing to the kids of a description
same_described : (h : Hierarchy) (waiting : ℕ) (c : Closed) (n e : ℕ) (d : Description) (st : plain.State) → kids (bare h) waiting c (plain.on n (plain.holds e d)) st ≡ kids (bare h) 0 c (plain.on n (plain.holds e d)) st
same_described h waiting c n e (of_type t) st = refl
same_described h waiting c n e (slot v) st = refl
same_described h waiting c n e (at f d) st = refl
same_described h waiting c n e (all ds) st = refl
same_described h waiting c n e (any ds) st = refl
same_described h waiting c n e (differs d) st = refl
same_described h waiting c n e (path_equation p q) st = refl

same_kids : (h : Hierarchy) (waiting : ℕ) (c : Closed) (i : Item) (st : plain.State) → kids (bare h) waiting c (item_of i) st ≡ kids (bare h) 0 c (item_of i) st
same_kids h waiting c (On n (Holds e d)) st = same_described h waiting c n e (description d.now) st
same_kids h waiting c (On n (EndsWith p b q)) st = refl
same_kids h waiting c (On n (Leads q a)) st = refl
same_kids h waiting c (Take n f d) st = refl

-- all that wait stay
same_stay : (waiting : ℕ) (i : Item) → stay waiting (item_of i) ≡ waiting
same_stay waiting (On n d) = refl
same_stay waiting (Take n f d) = refl

-- where nothing is owed, a state at its closure does its first item
visit_first : (h : Hierarchy) (waiting : ℕ) (st : plain.State) (c : Closed) → st.imposed ≡ [] → close h st.facts st.next ≡ Some c → visit_item (bare h) waiting c st.agenda st ≡ visit (bare h) waiting st
unfolding visit
visit_first h waiting st c none e =
    sym (ap (λ o. visit_owed (bare h) waiting c o st) (ap (owed (bare h) c) none ∙ nothing_owed h c))
    ∙ sym (ap (λ z. visit_of (bare h) waiting z st) e)

pub visit_goes : (h : Hierarchy) (waiting : ℕ) (st : plain.State) (c : Closed) (i : Item) (is : List plain.Item) (ks : List plain.State) → st.imposed ≡ [] → close h st.facts st.next ≡ Some c → st.agenda ≡ item_of i ∷ is → ks ≡ numbered 0 (kids (bare h) 0 c (item_of i) (closed_at c is st)) → goes waiting ks ≡ visit (bare h) waiting st
visit_goes h waiting st c i is ks none e a k =
    ap (goes waiting) k
    ∙ ap (λ (n : ℕ). goes n (numbered 0 (kids (bare h) 0 c (item_of i) (closed_at c is st)))) (sym (same_stay waiting i))
    ∙ ap (λ z. goes (stay waiting (item_of i)) (numbered 0 z)) (sym (same_kids h waiting c i (closed_at c is st)))
    ∙ sym (ap (λ z. visit_item (bare h) waiting c z st) a)
    ∙ visit_first h waiting st c none e

pub visit_answers : (h : Hierarchy) (waiting : ℕ) (st : plain.State) (c : Closed) → st.imposed ≡ [] → close h st.facts st.next ≡ Some c → st.agenda ≡ [] → answers (record { closed = c; state = st }) ≡ visit (bare h) waiting st
visit_answers h waiting st c none e a = sym (ap (λ z. visit_item (bare h) waiting c z st) a) ∙ visit_first h waiting st c none e

pub visit_fails : (h : Hierarchy) (waiting : ℕ) (st : plain.State) → close h st.facts st.next ≡ None → goes waiting [] ≡ visit (bare h) waiting st
unfolding visit
visit_fails h waiting st e = sym (ap (λ z. visit_of (bare h) waiting z st) e)

-- one state moves from the end of the list to the top of the stack
pub put_one : (xs : List State) (x : State) (ws : List State) → states_of xs ++ waiting_of (ws ++ x ∷ []) ≡ states_of (xs ++ x ∷ []) ++ waiting_of ws
put_one xs x ws =
    ap (λ z. states_of xs ++ z) (turned_push state_of ws x [])
    ∙ sym (append_assoc (states_of xs) (state_of x ∷ []) (waiting_of ws))
    ∙ ap (λ z. z ++ waiting_of ws) (sym (map-append state_of xs (x ∷ [])))

-- the states that a visit puts in place of one
pub visit_states : StepLaws → (h : Hierarchy) → IsLawful h → (waiting : ℕ) (st : plain.State) (n : ℕ) (ks : List plain.State) → IsState h st → goes n ks ≡ visit (bare h) waiting st → (kid : plain.State) → Has ks kid → IsState h kid
visit_states steps h law waiting st n ks is e kid has =
    ((steps (bare h) waiting st (bare_grammar h law) is).kids_are_states kid (record { stay = n; kids = ks; goes_on = e; has = has })).is
