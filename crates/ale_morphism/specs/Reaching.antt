-- What is visible, round by round, as flags of the nodes. This project's own representation.
use Rattle.std.specs.Prelude.{ℕ, zero, suc, Bool, true, false, Option, List, [], ◌∷◌, ◌++◌, map, get_or, slice_set, if◌then◌else◌}
use Rattle.ale_declared.specs.Lists.{upto}
use Rattle.ale_graph.specs.declared.node.Node.{Node}
use Rattle.ale_graph.specs.Structures.{Structure, count, node_at}
use Rattle.ale_graph.specs.Drafts.{mapped}

-- the same nodes with other differing pairs and roots
abbrev pub starting : Structure → List (ℕ × ℕ) → List (Option ℕ) → Structure
starting s differ roots = record { nodes = s.nodes; differ = differ; roots = roots }

-- the values are flagged
abbrev pub marked : List (ℕ × ℕ) → List Bool → List Bool
marked [] flags = flags
marked (v ∷ vs) flags = marked vs (slice_set flags v.1 true)

-- so are the values of a node, where it was flagged before
abbrev pub marked_by : Structure → List Bool → ℕ → List Bool → List Bool
marked_by s before m flags = if get_or before m false then marked (node_at s m).values flags else flags

-- the same for each node below m
abbrev pub spread : Structure → List Bool → ℕ → List Bool
spread s before zero = before
spread s before (suc m) = marked_by s before m (spread s before m)

-- the test of each node
abbrev pub flags_of : Structure → (ℕ → Bool) → List Bool
flags_of s test = map test (upto (count s))

-- the number of a node in a list of numbers
abbrev pub number_in : List ℕ → ℕ → ℕ
number_in numbers n = get_or numbers n 0

abbrev pub numbered : Structure → List ℕ → ℕ → Node
numbered s numbers n = record { of = (node_at s n).of; values = mapped (number_in numbers) (node_at s n).values }

-- the flagged nodes below n, renumbered
abbrev pub built : Structure → List Bool → List ℕ → ℕ → List Node
built s flags numbers zero = []
built s flags numbers (suc n) =
    if get_or flags n false then built s flags numbers n ++ numbered s numbers n ∷ [] else built s flags numbers n
