-- How a search goes on where a description, or what is left of one, is demanded of a node. Each kid is the
-- state given, which is at its closure and without the item, with what the item adds. This project's own.
use Rattle.std.specs.Prelude.{ℕ, Option, Some, None, List, [], ◌∷◌}
use Rattle.ale_hierarchy.specs.Hierarchy.{Hierarchy}
use Rattle.ale_graph.specs.declared.fact.Fact.TheVariants.{OfType, Same, Differ}
use Rattle.ale_logic.specs.Descriptions.{Description, Descriptions, none, more}
use Rattle.ale_logic.specs.States.{Demand, holds, ends_with, leads, Item, on, take, State, told, doing, grown, bind}

-- the node is told to have the feature, and then its value is taken
abbrev pub stepping : Hierarchy → ℕ → ℕ → Demand → State → State
stepping h n f d st = doing (take n f d) (told (OfType n (h.intro f)) st)

-- a path from b is to end at a
abbrev pub leading : Hierarchy → ℕ → List ℕ → ℕ → State → State
leading h b [] a st = told (Same a b) st
leading h b (f ∷ q) a st = stepping h b f (leads q a) st

-- a path from a and one from b are to end at one node: first the path from a, then the other
abbrev pub equating_paths : Hierarchy → ℕ → List ℕ → ℕ → List ℕ → State → State
equating_paths h a [] b q st = leading h b q a st
equating_paths h a (f ∷ p) b q st = stepping h a f (ends_with p b q) st

-- a variable is bound to the node, or its node is the same
abbrev pub binding : ℕ → ℕ → ℕ → Option ℕ → State → State
binding e v n None st = bind e v n st
binding e v n (Some m) st = told (Same n m) st

-- each of the descriptions at the node
abbrev pub items_at : ℕ → ℕ → Descriptions → List Item
items_at e n none = []
items_at e n (more d ds) = on n (holds e d) ∷ items_at e n ds

-- a state for each of the descriptions at the node, in order
abbrev pub alternatives : ℕ → ℕ → Descriptions → State → List State
alternatives e n none st = []
alternatives e n (more d ds) st = doing (on n (holds e d)) st ∷ alternatives e n ds st

-- a new node differs from the node, and is as described
abbrev pub differing : ℕ → ℕ → Description → State → State
differing e n d st = told (Differ n st.next) (doing (on st.next (holds e d)) (grown 1 st))

-- what is demanded of the value, where there is one
abbrev pub taken : Demand → Option ℕ → State → List State
taken d None st = []
taken d (Some m) st = doing (on m d) st ∷ []
