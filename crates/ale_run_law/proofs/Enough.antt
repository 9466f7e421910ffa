-- How many visits a search for a description without disjunction makes at most, where there is no constraint: two
-- for each part, and one for the answer.
use Rattle.std.proofs.Common.{◌≡◌, ℕ, zero, suc, ◌+◌, ◌*◌, ◌<◌, ◌≤◌, true, List, [], ◌∷◌, ◌++◌, length, refl, sym, ap, ◌∙◌, subst, arith, Option, Some, None}
use Rattle.ale_hierarchy.specs.Hierarchy.{Hierarchy}
use Rattle.ale_graph.specs.declared.closed.Closed.{Closed}
use Rattle.ale_graph.specs.Settled.{first_some}
use Rattle.ale_graph.specs.Filling.{class_value}
use Rattle.ale_graph.specs.Closure.{close, class_of, classes_below}
use Rattle.ale_engine.specs.Engine.{moved, waiting_after, is_nothing}
use Rattle.ale_engine.proofs.Budget.{none_after}
use Rattle.ale_logic.specs.Descriptions.{Description, Descriptions, of_type, slot, at, all, any, differs, path_equation, none, more, HasNoChoice, HaveNoChoice, parts, parts_of_all}
use Rattle.ale_logic.specs.Words.{Grammar}
use Rattle.ale_logic.specs.States.{Demand, holds, ends_with, leads, generates, generates_all, Item, on, take, derive, called, cuts, stop, split, pivot, connect, bound, State, numbered}
use Rattle.ale_logic.specs.DescriptionKids.{leading, equating_paths, binding, items_at, taken}
use Rattle.ale_logic.specs.Visits.{owed_by, owed, closed_at, visit_item, visit_owed, visit_of, visit}
use Rattle.ale_logic.specs.Starts.{start}
use Rattle.ale_logic.specs.Lexicons.{wordless}
use Rattle.ale_logic.specs.Answers.{EnoughLaw}

abbrev mutual
  cost : Description → ℕ
  cost (of_type t) = 1
  cost (slot v) = 1
  cost (at f d) = suc (suc (cost d))
  cost (all ds) = suc (cost_of_all ds)
  cost (any ds) = suc (cost_of_all ds)
  cost (differs d) = suc (cost d)
  cost (path_equation p q) = suc (2 * length p + 2 * length q)

  cost_of_all : Descriptions → ℕ
  cost_of_all none = 0
  cost_of_all (more d ds) = cost d + cost_of_all ds

abbrev demand_cost : Demand → ℕ
demand_cost (holds e d) = cost d
demand_cost (ends_with p b q) = suc (2 * length p + 2 * length q)
demand_cost (leads q a) = suc (2 * length q)
demand_cost (generates g) = 0
demand_cost (generates_all g) = 0

abbrev item_cost : Item → ℕ
item_cost (on n x) = demand_cost x
item_cost (take n f x) = suc (demand_cost x)
item_cost (derive e c g) = 0
item_cost (called p ns) = 0
item_cost (cuts c) = 0
item_cost stop = 0
item_cost (split n end) = 0
item_cost (pivot s target) = 0
item_cost (connect p us target) = 0

abbrev agenda_cost : List Item → ℕ
agenda_cost [] = 0
agenda_cost (i ∷ is) = item_cost i + agenda_cost is

mutual
  cost_small : (d : Description) → cost d ≤ 2 * parts d
  cost_small (of_type t) = omega arith
  cost_small (slot v) = omega arith
  cost_small (at f d) = let ih = cost_small d in omega arith
  cost_small (all ds) = let ih = costs_small ds in omega arith
  cost_small (any ds) = let ih = costs_small ds in omega arith
  cost_small (differs d) = let ih = cost_small d in omega arith
  cost_small (path_equation p q) = omega arith

  costs_small : (ds : Descriptions) → cost_of_all ds ≤ 2 * parts_of_all ds
  costs_small none = omega arith
  costs_small (more d ds) = let a = cost_small d in let b = costs_small ds in omega arith

items_cost : (e n : ℕ) (ds : Descriptions) (rest : List Item) → agenda_cost (items_at e n ds ++ rest) ≡ cost_of_all ds + agenda_cost rest
items_cost e n none rest = omega arith
items_cost e n (more d ds) rest = let ih = items_cost e n ds rest in omega arith

-- no disjunction stands in the agenda, and nothing but descriptions
abbrev IsDirectDemand : Demand → Type 0
IsDirectDemand (holds e d) = HasNoChoice d
IsDirectDemand (ends_with p b q) = Unit {0}
IsDirectDemand (leads q a) = Unit {0}
IsDirectDemand (generates g) = ⊥
IsDirectDemand (generates_all g) = ⊥

abbrev IsDirect : Item → Type 0
IsDirect (on n x) = IsDirectDemand x
IsDirect (take n f x) = IsDirectDemand x
IsDirect (derive e c g) = ⊥
IsDirect (called p ns) = ⊥
IsDirect (cuts c) = ⊥
IsDirect stop = ⊥
IsDirect (split n end) = ⊥
IsDirect (pivot s target) = ⊥
IsDirect (connect p us target) = ⊥

abbrev AreDirect : List Item → Type 0
AreDirect [] = Unit {0}
AreDirect (i ∷ is) = IsDirect i × AreDirect is

items_direct : (e n : ℕ) (ds : Descriptions) (rest : List Item) → HaveNoChoice ds → AreDirect rest → AreDirect (items_at e n ds ++ rest)
items_direct e n none rest p q = q
items_direct e n (more d ds) rest p q = (p.0, items_direct e n ds rest p.1 q)

-- the agenda costs less than so many visits
abbrev Costs : List Item → ℕ → Type 0
Costs agenda left = AreDirect agenda × (agenda_cost agenda < left)

leading_costs : (h : Hierarchy) (b : ℕ) (q : List ℕ) (a : ℕ) (st : State) (left : ℕ) → AreDirect st.agenda → suc (2 * length q) + agenda_cost st.agenda < suc left → Costs (leading h b q a st).agenda left
leading_costs h b [] a st left direct less = (direct, omega arith)
leading_costs h b (f ∷ q) a st left direct less = ((tt, direct), omega arith)

paths_cost : (h : Hierarchy) (a : ℕ) (p : List ℕ) (b : ℕ) (q : List ℕ) (st : State) (left : ℕ) → AreDirect st.agenda → suc (2 * length p + 2 * length q) + agenda_cost st.agenda < suc left → Costs (equating_paths h a p b q st).agenda left
paths_cost h a [] b q st left direct less = leading_costs h b q a st left direct (omega arith)
paths_cost h a (f ∷ p) b q st left direct less = ((tt, direct), omega arith)

binding_costs : (e v n : ℕ) (o : Option ℕ) (st : State) (left : ℕ) → AreDirect st.agenda → suc (agenda_cost st.agenda) < suc left → Costs (binding e v n o st).agenda left
binding_costs e v n None st left direct less = (direct, omega arith)
binding_costs e v n (Some m) st left direct less = (direct, omega arith)

none_owes : (gr : Grammar) (c : Closed) (imposed : List (ℕ × ℕ)) → gr.program.constraints ≡ [] → owed gr c imposed ≡ None
none_owes gr c imposed e = ap (λ cs. first_some (λ a. owed_by gr.signature c imposed a 0 cs) (classes_below (class_of c) c.next)) e ∙ none_of (classes_below (class_of c) c.next)
  where
    none_of : (xs : List ℕ) → first_some (λ a. owed_by gr.signature c imposed a 0 []) xs ≡ None
    none_of [] = refl
    none_of (x ∷ xs) = none_of xs

module _ (gr : Grammar) (free : gr.program.constraints ≡ []) where
  ends : (left : ℕ) (st : State) → Costs st.agenda left → is_nothing (waiting_after (visit gr) left (st ∷ [])) ≡ true
  unfolding visit
  ends zero st costs = let less = costs.1 in absurd (omega arith)
  ends (suc left) st costs = closes (ends left) (close gr.signature st.facts st.next)
    where
      Later : Type 0
      Later = (kid : State) → Costs kid.agenda left → is_nothing (waiting_after (visit gr) left (kid ∷ [])) ≡ true

      nothing : is_nothing (waiting_after (visit gr) left []) ≡ true
      nothing = ap is_nothing (none_after (visit gr) left)

      taken_ends : Later → (x : Demand) (next : State) (o : Option ℕ) → Costs (on 0 x ∷ next.agenda) left → is_nothing (waiting_after (visit gr) left (numbered 0 (taken x o next) ++ [])) ≡ true
      taken_ends ih x next None costs = nothing
      taken_ends ih x next (Some m) costs = ih _ costs

      does : Later → (c : Closed) (agenda : List Item) → Costs agenda (suc left) → is_nothing (waiting_after (visit gr) left (moved [] (visit_item gr 0 c agenda st)).waiting) ≡ true
      does ih c [] costs = nothing
      does ih c (on n (holds e (of_type t)) ∷ is) ((p, q), less) = ih _ (q, omega arith)
      does ih c (on n (holds e (slot v)) ∷ is) ((p, q), less) = ih _ (binding_costs e v n (bound st.envs e v) (closed_at c is st) left q (omega arith))
      does ih c (on n (holds e (at f d)) ∷ is) ((p, q), less) = ih _ ((p, q), omega arith)
      does ih c (on n (holds e (all ds)) ∷ is) ((p, q), less) = let sum = items_cost e n ds is in ih _ (items_direct e n ds is p q, omega arith)
      does ih c (on n (holds e (any ds)) ∷ is) ((p, q), less) = absurd p
      does ih c (on n (holds e (differs d)) ∷ is) ((p, q), less) = ih _ ((p, q), omega arith)
      does ih c (on n (holds e (path_equation a b)) ∷ is) ((p, q), less) = ih _ (paths_cost gr.signature n a n b (closed_at c is st) left q less)
      does ih c (on n (ends_with a b d) ∷ is) ((p, q), less) = ih _ (paths_cost gr.signature n a b d (closed_at c is st) left q less)
      does ih c (on n (leads a b) ∷ is) ((p, q), less) = ih _ (leading_costs gr.signature n a b (closed_at c is st) left q less)
      does ih c (on n (generates g) ∷ is) ((p, q), less) = absurd p
      does ih c (on n (generates_all g) ∷ is) ((p, q), less) = absurd p
      does ih c (take n f x ∷ is) ((p, q), less) = taken_ends ih x (closed_at c is st) (class_value (class_of c) c.facts (class_of c n) f) ((p, q), omega arith)
      does ih c (derive e k g ∷ is) ((p, q), less) = absurd p
      does ih c (called k ns ∷ is) ((p, q), less) = absurd p
      does ih c (cuts k ∷ is) ((p, q), less) = absurd p
      does ih c (stop ∷ is) ((p, q), less) = absurd p
      does ih c (split n end ∷ is) ((p, q), less) = absurd p
      does ih c (pivot s target ∷ is) ((p, q), less) = absurd p
      does ih c (connect k us target ∷ is) ((p, q), less) = absurd p

      closes : Later → (o : Option Closed) → is_nothing (waiting_after (visit gr) left (moved [] (visit_of gr 0 o st)).waiting) ≡ true
      closes ih None = nothing
      closes ih (Some c) = subst (λ o. is_nothing (waiting_after (visit gr) left (moved [] (visit_owed gr 0 c o st)).waiting) ≡ true) (sym (none_owes gr c st.imposed free)) (does ih c st.agenda costs)

pub enough : EnoughLaw
enough h program slots d budget accepted fit direct free le = let small = cost_small d in ends (wordless h program) free budget (start slots d) ((direct, tt), omega arith)
