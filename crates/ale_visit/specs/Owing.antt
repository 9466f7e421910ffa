-- What is known of constraints and closures where it is asked what is owed.
use Rattle.std.specs.Prelude.{ℕ, ◌<◌, Option, Some, None, List, [], ◌∷◌}
use Rattle.ale_hierarchy.specs.Hierarchy.{Hierarchy}
use Rattle.ale_graph.specs.declared.closed.Closed.{Closed}
use Rattle.ale_graph.specs.Closure.{node_of}
use Rattle.ale_graph.specs.Structures.{type_of}
use Rattle.ale_logic.specs.Visits as visits
use Rattle.ale_program.specs.Views.{constraint_data}
use Rattle.ale_program.specs.declared.clause.Constraint.{Constraint}
use Rattle.ale_visit.specs.declared.owing.Owed.{Owed}

-- the constraints are on types of the signature
abbrev pub HaveTypes : Hierarchy → List Constraint → Type 0
HaveTypes h [] = Unit {0}
HaveTypes h (x ∷ xs) = (x.at < h.types) × HaveTypes h xs

-- the nodes of the graph have types of the signature
abbrev pub GraphHasTypes : Hierarchy → Closed → Type 0
GraphHasTypes h c = (a : ℕ) → a < c.next → type_of c.graph (node_of c a) < h.types

abbrev pub owed_of : Option Owed → Option visits.Owed
owed_of None = None
owed_of (Some o) = Some (record { class = o.class; number = o.number; constraint = constraint_data o.constraint.now })
