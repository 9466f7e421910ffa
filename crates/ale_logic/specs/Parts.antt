-- What is kept of an answer: for an entry, an empty or an item of the chart. Source: this project's own.
use Rattle.std.specs.Prelude.{ℕ, Option, Some, None, List, [], ◌∷◌, map}
use Rattle.ale_graph.specs.Closure.{node_of}
use Rattle.ale_logic.specs.Programs.{Element, cat, cats, derived, sem_head, member, tail}
use Rattle.ale_logic.specs.Words.{Environment, Kept}
use Rattle.ale_logic.specs.States.{env_at}
use Rattle.ale_logic.specs.Visits.{Answer}

-- what is kept, with its root and the elements that remain; `whole` gives the node of the answer's graph for each
-- of its nodes
pub record Part : Type 0 where
  pub kept : Kept
  pub root : ℕ
  pub rest : List Element
  pub whole : ℕ → ℕ

-- a way to take a part of an answer: the root is the node with the number given in the answer's state
abbrev pub Extract : Type 0
Extract = ℕ → Answer → Part

-- an element that names a node, with the node elsewhere
abbrev pub renamed : (ℕ → ℕ) → Element → Element
renamed to (member n) = member (to n)
renamed to (tail n) = tail (to n)
renamed to (cat d) = cat d
renamed to (cats d) = cats d
renamed to (sem_head d) = sem_head d
renamed to (derived g) = derived g

abbrev pub placed : (ℕ → ℕ) → Option ℕ → Option ℕ
placed to None = None
placed to (Some n) = Some (to n)

-- an environment is kept where elements remain
abbrev pub where_rest : List Element → Environment → Environment
where_rest [] env = []
where_rest (e ∷ es) env = env

-- an answer's graph, what was imposed in it, and its first environment
abbrev pub kept_answer : Answer → Kept
kept_answer a = record {
  graph = a.closed.graph;
  imposed = map (λ p. (node_of a.closed p.0, p.1)) a.state.imposed;
  env = map (placed (node_of a.closed)) (env_at a.state.envs 0);
}

-- all of an answer, without its environment where no element remains
abbrev pub whole_of : Extract
whole_of root a = record {
  kept = record (kept_answer a) { env = where_rest a.state.rest (kept_answer a).env };
  root = node_of a.closed root;
  rest = map (renamed (node_of a.closed)) a.state.rest;
  whole = λ n. n;
}
