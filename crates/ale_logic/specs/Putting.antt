-- A kept structure's nodes among those of a state: they take the next numbers, with their types, values and
-- differing pairs as facts, and the constraints that were imposed on them. This project's own.
use Rattle.std.specs.Prelude.{ℕ, suc, ◌+◌, List, [], ◌∷◌, ◌++◌, map}
use Rattle.ale_graph.specs.declared.fact.Fact.{Fact}
use Rattle.ale_graph.specs.declared.fact.Fact.TheVariants.{OfType, Value, Differ}
use Rattle.ale_graph.specs.declared.node.Node.{Node}
use Rattle.ale_graph.specs.Structures.{Structure, count}
use Rattle.ale_logic.specs.Words.{Kept}
use Rattle.ale_logic.specs.States.{State}

-- by how much numbers grow, the node's number, and its values
abbrev pub value_facts : ℕ → ℕ → List (ℕ × ℕ) → List Fact
value_facts by n [] = []
value_facts by n (v ∷ vs) = Value (by + n) v.0 (by + v.1) ∷ value_facts by n vs

-- of the nodes from number n on
abbrev pub node_facts : ℕ → ℕ → List Node → List Fact
node_facts by n [] = []
node_facts by n (x ∷ xs) = (OfType (by + n) x.of ∷ value_facts by n x.values) ++ node_facts by (suc n) xs

abbrev pub pair_facts : ℕ → List (ℕ × ℕ) → List Fact
pair_facts by [] = []
pair_facts by (p ∷ ps) = Differ (by + p.0) (by + p.1) ∷ pair_facts by ps

abbrev pub graph_facts : ℕ → Structure → List Fact
graph_facts by s = node_facts by 0 s.nodes ++ pair_facts by s.differ

abbrev pub moved : ℕ → List (ℕ × ℕ) → List (ℕ × ℕ)
moved by pairs = map (λ p. (by + p.0, p.1)) pairs

-- the state with the kept structure's nodes behind its own
abbrev pub putting : Kept → State → State
putting kept st = record st {
  facts = st.facts ++ graph_facts st.next kept.graph;
  next = st.next + count kept.graph;
  imposed = st.imposed ++ moved st.next kept.imposed;
}
