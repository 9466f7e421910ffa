-- What is told of an answer of a search, and what is shown of it. Source: this project's own.
use Rattle.std.specs.Prelude.{ℕ, Some, List, [], ◌∷◌, map}
use Rattle.ale_graph.specs.Structures.{Structure}
use Rattle.ale_graph.specs.Closure.{node_of}
use Rattle.ale_logic.specs.Growing.{rooted}
use Rattle.ale_logic.specs.Parts.{placed}
use Rattle.ale_logic.specs.States.{env_at}
use Rattle.ale_logic.specs.Visits as visits
use Rattle.ale_logic.specs.Words.{bound_in}
use Rattle.ale_search.specs.declared.answers.Answer.{Answer}

-- its closure with the imposed pairs, the first environment, the node of the root, and the kids chosen
abbrev pub told : visits.Answer → Answer
told a = record { closed = a.closed; imposed = a.state.imposed; env = env_at a.state.envs 0; root = node_of a.closed 0; choices = a.state.choices }

-- what is shown of an answer from its root, and from variables of its environment
abbrev pub root_shown : Answer → Structure
root_shown a = rooted a.closed.graph (Some a.root ∷ [])

abbrev pub slots_shown : List ℕ → Answer → Structure
slots_shown slots a = rooted a.closed.graph (map (λ v. placed (node_of a.closed) (bound_in a.env v)) slots)
