-- The closure's result, read off the working lists. This project's own representation.
use Rattle.std.specs.Prelude.{ℕ, List, [], ◌∷◌, get_or}
use Rattle.ale_graph.specs.declared.node.Node.{Node}
use Rattle.ale_graph.specs.declared.fact.Fact.{Fact}
use Rattle.ale_graph.specs.declared.fact.Fact.TheVariants.{OfType, Value, Same, Differ}
use Rattle.ale_graph.specs.Drafts.{class_in, type_in, values_in, mapped}
use Rattle.ale_graph.specs.Working.{Working}

-- the place of a node's class, from the list of places
abbrev pub place_in : List ℕ → List ℕ → ℕ → ℕ
place_in places class a = get_or places (class_in class a) 0

abbrev pub node_in : List ℕ → Working → ℕ → Node
node_in places w c = record { of = type_in w.types c; values = mapped (place_in places w.class) (values_in w.values c) }

-- the pairs of the Differs through a map
abbrev pub pairs_of : (ℕ → ℕ) → List Fact → List (ℕ × ℕ)
pairs_of at [] = []
pairs_of at (Differ a b ∷ xs) = (at a, at b) ∷ pairs_of at xs
pairs_of at (OfType n t ∷ xs) = pairs_of at xs
pairs_of at (Value n f m ∷ xs) = pairs_of at xs
pairs_of at (Same a b ∷ xs) = pairs_of at xs
