-- The defined search: what one visit of a state gives, while so many others wait. A constraint that is owed
-- comes before what is to be done. The order of visits is this project's own.
use Rattle.std.specs.Prelude.{ℕ, suc, Bool, false, ◌&&◌, not, ◌||◌, eqb, Option, Some, None, List, [], ◌∷◌, if◌then◌else◌}
use Rattle.ale_hierarchy.specs.Hierarchy.{Hierarchy}
use Rattle.ale_graph.specs.declared.fact.Fact.TheVariants.{OfType}
use Rattle.ale_graph.specs.declared.closed.Closed.{Closed}
use Rattle.ale_graph.specs.Settled.{first_some}
use Rattle.ale_graph.specs.Structures.{type_of}
use Rattle.ale_graph.specs.Filling.{class_value}
use Rattle.ale_graph.specs.Closure.{close, class_of, node_of, classes_below}
use Rattle.ale_logic.specs.Descriptions.{of_type, slot, at, all, any, differs, path_equation}
use Rattle.ale_logic.specs.Goals.{Goal, yes, cut, each, either, equal, call, unless, if_else, once}
use Rattle.ale_logic.specs.Programs.{Constraint, clauses_of}
use Rattle.ale_logic.specs.Words.{Grammar}
use Rattle.ale_logic.specs.States.{holds, ends_with, leads, generates, generates_all, Item, on, take, derive, called, cuts, stop, split, pivot, connect, bound, State, told, doing_all, numbered}
use Rattle.ale_engine.specs.Engine.{Visit, answers, goes}
use Rattle.ale_logic.specs.DescriptionKids.{stepping, leading, equating_paths, binding, items_at, alternatives, differing, taken}
use Rattle.ale_logic.specs.GoalKids.{goal_kids, clause_kids, with_constraint}
use Rattle.ale_logic.specs.GenerationKids.{generate_kids, pivot_kids, connect_kids, list_kids, split_kids}

-- the kids of an item, from the state at its closure without the item
abbrev pub kids : Grammar → ℕ → Closed → Item → State → List State
kids gr waiting c (on n (holds e (of_type t))) st = told (OfType n t) st ∷ []
kids gr waiting c (on n (holds e (slot v))) st = binding e v n (bound st.envs e v) st ∷ []
kids gr waiting c (on n (holds e (at f d))) st = stepping gr.signature n f (holds e d) st ∷ []
kids gr waiting c (on n (holds e (all ds))) st = doing_all (items_at e n ds) st ∷ []
kids gr waiting c (on n (holds e (any ds))) st = alternatives e n ds st
kids gr waiting c (on n (holds e (differs d))) st = differing e n d st ∷ []
kids gr waiting c (on n (holds e (path_equation p q))) st = equating_paths gr.signature n p n q st ∷ []
kids gr waiting c (on a (ends_with p b q)) st = equating_paths gr.signature a p b q st ∷ []
kids gr waiting c (on b (leads q a)) st = leading gr.signature b q a st ∷ []
kids gr waiting c (on n (generates g)) st = generate_kids gr.program.semantics n g st
kids gr waiting c (on n (generates_all g)) st = list_kids gr.program.lists n g st
kids gr waiting c (take n f d) st = taken d (class_value (class_of c) c.facts (class_of c n) f) st
kids gr waiting c (derive e h g) st = goal_kids waiting e h g st
kids gr waiting c (called p ns) st = clause_kids waiting ns (clauses_of gr.program p) st
kids gr waiting c (cuts h) st = st ∷ []
kids gr waiting c stop st = []
kids gr waiting c (split n end) st = split_kids gr.program.lists n end st
kids gr waiting c (pivot s target) st = pivot_kids gr waiting gr.program.semantics s target st
kids gr waiting c (connect p us target) st = connect_kids gr waiting p us target st

-- of so many states that wait, how many stay after a goal or an item
abbrev pub stay_after : ℕ → ℕ → Goal → ℕ
stay_after waiting h cut = h
stay_after waiting h yes = waiting
stay_after waiting h (each gs) = waiting
stay_after waiting h (either gs) = waiting
stay_after waiting h (equal d e) = waiting
stay_after waiting h (call p ds) = waiting
stay_after waiting h (unless g) = waiting
stay_after waiting h (if_else g t f) = waiting
stay_after waiting h (once g t) = waiting

abbrev pub stay : ℕ → Item → ℕ
stay waiting (derive e h g) = stay_after waiting h g
stay waiting (cuts h) = h
stay waiting (on n d) = waiting
stay waiting (take n f d) = waiting
stay waiting (called p ns) = waiting
stay waiting stop = waiting
stay waiting (split n end) = waiting
stay waiting (pivot s target) = waiting
stay waiting (connect p us target) = waiting

-- an imposed pair names the constraint with number k and a node of class a
abbrev pub is_imposed : (ℕ → ℕ) → List (ℕ × ℕ) → ℕ → ℕ → Bool
is_imposed class [] a k = false
is_imposed class (p ∷ ps) a k = (eqb (class p.0) a && eqb p.1 k) || is_imposed class ps a k

-- a class, the number of a constraint that it owes, and the constraint
pub record Owed : Type 0 where
  pub class : ℕ
  pub number : ℕ
  pub constraint : Constraint

-- the first of the constraints, numbered from k on, that class a owes
abbrev pub owed_by : Hierarchy → Closed → List (ℕ × ℕ) → ℕ → ℕ → List Constraint → Option Owed
owed_by h c imposed a k [] = None
owed_by h c imposed a k (x ∷ xs) =
    if h.is_above x.of (type_of c.graph (node_of c a)) && not (is_imposed (class_of c) imposed a k)
    then Some (record { class = a; number = k; constraint = x })
    else owed_by h c imposed a (suc k) xs

-- the least class that owes a constraint, and the first constraint that it owes
abbrev pub owed : Grammar → Closed → List (ℕ × ℕ) → Option Owed
owed gr c imposed = first_some (λ a. owed_by gr.signature c imposed a 0 gr.program.constraints) (classes_below (class_of c) c.next)

-- a state at its closure, with so many items
abbrev pub closed_at : Closed → List Item → State → State
closed_at c agenda st = record st { facts = c.facts; next = c.next; agenda = agenda }

-- the state in which something was found, and its closure
pub record Answer : Type 0 where
  pub closed : Closed
  pub state : State

-- A state with nothing to do is an answer; else its first item gives its kids, and tells how many of the waiting
-- states stay.
abbrev pub visit_item : Grammar → ℕ → Closed → List Item → State → Visit State Answer
visit_item gr waiting c [] st = answers (record { closed = c; state = st })
visit_item gr waiting c (i ∷ is) st = goes (stay waiting i) (numbered 0 (kids gr waiting c i (closed_at c is st)))

-- a constraint that is owed is imposed first
abbrev pub visit_owed : Grammar → ℕ → Closed → Option Owed → State → Visit State Answer
visit_owed gr waiting c None st = visit_item gr waiting c st.agenda st
visit_owed gr waiting c (Some o) st = goes waiting (numbered 0 (with_constraint waiting o.class o.number o.constraint (closed_at c st.agenda st) ∷ []))

-- a state without closure has no kids
abbrev pub visit_of : Grammar → ℕ → Option Closed → State → Visit State Answer
visit_of gr waiting None st = goes waiting []
visit_of gr waiting (Some c) st = visit_owed gr waiting c (owed gr c st.imposed) st

-- a visit of a state, while so many others wait
unfoldable pub visit : Grammar → ℕ → State → Visit State Answer
visit gr waiting st = visit_of gr waiting (close gr.signature st.facts st.next) st
