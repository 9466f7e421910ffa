-- The closure of facts about nodes: least classes and types, then filling, then extensional merging, and
-- nothing where a join is missing or differing nodes met. Source: Carpenter 1992, chapters 3, 6 and 8.
use Rattle.std.specs.Prelude.{ℕ, zero, suc, Bool, true, not, eqb, Option, Some, None, List, [], ◌∷◌, ◌++◌, map, length, get_or, if◌then◌else◌}
use Rattle.ale_declared.specs.Lists.{upto, every}
use Rattle.ale_hierarchy.specs.Hierarchy.{Hierarchy}
use Rattle.ale_graph.specs.declared.node.Node.{Node}
use Rattle.ale_graph.specs.declared.fact.Fact.{Fact}
use Rattle.ale_graph.specs.declared.fact.Fact.TheVariants.{OfType, Value, Same, Differ}
use Rattle.ale_graph.specs.declared.closed.Closed.{Closed}
use Rattle.ale_graph.specs.Structures.{Structure}
use Rattle.ale_graph.specs.Classes.{classes}
use Rattle.ale_graph.specs.Types.{least_types}
use Rattle.ale_graph.specs.Filling.{Filled, class_value, fill}
use Rattle.ale_graph.specs.Collapsing.{collapse}

-- the nodes of a Differ are not in one class
abbrev pub is_kept_apart : (ℕ → ℕ) → Fact → Bool
is_kept_apart class (Differ a b) = not (eqb (class a) (class b))
is_kept_apart class (OfType n t) = true
is_kept_apart class (Value n f m) = true
is_kept_apart class (Same a b) = true

-- the classes below n, in order
abbrev pub classes_below : (ℕ → ℕ) → ℕ → List ℕ
classes_below class zero = []
classes_below class (suc n) = if eqb (class n) n then classes_below class n ++ n ∷ [] else classes_below class n

-- a class is numbered in the graph by how many classes are below it
abbrev pub place : (ℕ → ℕ) → ℕ → ℕ
place class c = length (classes_below class c)

-- the values by these features of a class
abbrev pub values_by : Filled → ℕ → List ℕ → List (ℕ × ℕ)
values_by st c [] = []
values_by st c (f ∷ fs) = elim (class_value st.class st.facts c f) [ None ↦ values_by st c fs | Some m ↦ (f, place st.class m) ∷ values_by st c fs ]

abbrev pub class_node : Hierarchy → Filled → ℕ → Node
class_node h st c = record { of = st.types c; values = values_by st c (upto h.features) }

-- the pairs of the Differs, in order
abbrev pub differing : (ℕ → ℕ) → List Fact → List (ℕ × ℕ)
differing class [] = []
differing class (Differ a b ∷ xs) = (place class (class a), place class (class b)) ∷ differing class xs
differing class (OfType n t ∷ xs) = differing class xs
differing class (Value n f m ∷ xs) = differing class xs
differing class (Same a b ∷ xs) = differing class xs

-- the classes as nodes, in order
abbrev pub graph_of : Hierarchy → Filled → Structure
graph_of h st = record {
  nodes = map (class_node h st) (classes_below st.class st.next);
  differ = differing st.class st.facts;
  roots = [];
}

abbrev pub closed_of : Hierarchy → Filled → Closed
closed_of h st = record { facts = st.facts; next = st.next; class = map st.class (upto st.next); graph = graph_of h st }

abbrev pub finish : Hierarchy → Filled → Option Closed
finish h st = if every (is_kept_apart st.class) st.facts then Some (closed_of h st) else None

abbrev pub close_from : Hierarchy → List Fact → ℕ → (ℕ → ℕ) → Option (ℕ → ℕ) → Option Closed
close_from h facts next class None = None
close_from h facts next class (Some types) =
    finish h (collapse h (fill h (record { facts = facts; next = next; class = class; types = types })))

unfoldable pub close : Hierarchy → List Fact → ℕ → Option Closed
close h facts next =
    let class : ℕ → ℕ = classes facts next in
    close_from h facts next class (least_types h facts next class)

-- the class of a node: its least node
abbrev pub class_of : Closed → ℕ → ℕ
class_of c a = get_or c.class a a

-- the node of the graph that a node's class is
abbrev pub node_of : Closed → ℕ → ℕ
node_of c a = place (class_of c) (class_of c a)
