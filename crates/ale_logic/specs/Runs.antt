-- The law of whole searches, from any states: each answer comes from a first state, which is satisfied wherever
-- the answer's graph goes, and at the end each model that satisfies a first state is reached by an answer with the
-- same elements remaining. Source: most general satisfiers, Carpenter 1992, chapters 4 and 15.
use Rattle.std.specs.Prelude.{◌≡◌, ℕ, ◌<◌, ◌≤◌, true, Some, None, List, [], ◌++◌, length}
use Rattle.ale_declared.specs.Lists.{Has}
use Rattle.ale_graph.specs.Structures.{Structure, IsStructure, count}
use Rattle.ale_graph.specs.Morphisms.{IsMorphismAside}
use Rattle.ale_graph.specs.Closure.{node_of}
use Rattle.ale_graph.specs.Universal.{IsClosure}
use Rattle.ale_logic.specs.Programs.{Word, Element}
use Rattle.ale_logic.specs.Models.{MeetsAt, IsModel}
use Rattle.ale_logic.specs.Words.{Grammar}
use Rattle.ale_logic.specs.States.{Piece, env_at, bound, State}
use Rattle.ale_logic.specs.Spelling.{spell}
use Rattle.ale_logic.specs.Satisfaction.{Sense, Satisfies, Agrees}
use Rattle.ale_logic.specs.WellFormed.{IsState, AreQuietItems, IsSaidOnce}
use Rattle.ale_logic.specs.Steps.{IsAccounted, IsGrammar, IsAllImposed, ModelSatisfies, IsInFragment}
use Rattle.ale_engine.specs.Engine.{search}
use Rattle.ale_logic.specs.Visits.{Answer, visit}

abbrev pub AreStates : Grammar → List State → Type 0
AreStates gr sts = (st : State) → Has sts st → IsState gr.signature st

-- an imposed pair is met where the map takes its node
abbrev pub MeetsPairs : Grammar → Structure → (ℕ → ℕ) → List (ℕ × ℕ) → Type 0
MeetsPairs gr s to pairs = (n k : ℕ) → Has pairs (n, k) → MeetsAt gr.signature gr.program s k (to n)

-- One of the answers is satisfied, and has a morphism into the structure, in a sense that agrees on the state.
pub record IsReached (gr : Grammar) (s : Structure) (st : State) (x : Sense) (remain : List Element) (found : List Answer) : Type 0 where
  pub answer : Answer
  pub has : Has found answer
  pub rest : answer.state.rest ≡ remain
  pub map : ℕ → ℕ
  pub is : IsMorphismAside gr.signature answer.closed.graph s map
  pub sense : Sense
  pub agrees : Agrees st sense x
  pub satisfies : Satisfies gr s sense answer.state remain
  -- the class of each node goes where the node goes
  pub lands : (a : ℕ) → a < answer.state.next → map (node_of answer.closed a) ≡ sense.node a
  pub is_bound : (e v n : ℕ) → bound answer.state.envs e v ≡ Some n → sense.var e v ≡ map (node_of answer.closed n)

-- what an answer leaves open of a sense: nodes for the variables that are not bound, and words for the phrases
pub record FreeSense (s : Structure) (a : Answer) : Type 0 where
  pub node : ℕ → ℕ → ℕ
  pub inside : (e v : ℕ) → node e v < count s
  pub words : ℕ → List Word
  pub is_said : (g : ℕ) (ps : List Piece) → Has a.state.said (g, ps) → words g ≡ spell words ps

-- The structure into which the answer's graph goes satisfies the state, whatever node an unbound variable
-- stands for; and what was imposed is accounted for.
pub record Returns (gr : Grammar) (s : Structure) (st : State) (a : Answer) (map : ℕ → ℕ) (free : FreeSense s a) : Type 0 where
  pub sense : Sense
  pub node : (n : ℕ) → sense.node n ≡ map (node_of a.closed n)
  pub words : (g : ℕ) → sense.words g ≡ free.words g
  pub bound_to : (e v n : ℕ) → bound a.state.envs e v ≡ Some n → sense.var e v ≡ map (node_of a.closed n)
  pub unbound : (e v : ℕ) → bound a.state.envs e v ≡ None → sense.var e v ≡ free.node e v
  pub satisfies : Satisfies gr s sense st a.state.rest
  pub accounted : (p : ℕ × ℕ) → Has a.state.imposed p → IsAccounted gr s sense st.imposed p

-- What always holds of an answer: it was found in a state that went on from a first one, its graph is total and
-- extensional, it owes nothing, and it is a model where what was imposed is met.
pub record IsAnswer (gr : Grammar) (st : State) (a : Answer) : Type 0 where
  pub is : IsState gr.signature a.state
  pub next : st.next ≤ a.state.next
  pub envs : length st.envs ≤ length a.state.envs
  pub lengths : (e : ℕ) → e < length st.envs → length (env_at a.state.envs e) ≡ length (env_at st.envs e)
  pub phrases : st.phrases ≤ a.state.phrases
  -- nothing is to be done
  pub nothing : a.state.agenda ≡ []
  pub closure : IsClosure gr.signature a.state.facts a.state.next a.closed
  pub longer : a.state.next ≤ a.closed.next
  pub imposed : (more : List (ℕ × ℕ)) × (a.state.imposed ≡ st.imposed ++ more)
  pub nodes : (n : ℕ) → n < a.closed.next → node_of a.closed n < count a.closed.graph
  pub structure : IsStructure gr.signature a.closed.graph
  pub all_imposed : IsAllImposed gr a
  pub model : MeetsPairs gr a.closed.graph (node_of a.closed) a.state.imposed → IsModel gr.signature gr.program a.closed.graph
  -- where no words are found for a node
  pub said : AreQuietItems st.agenda → a.state.said ≡ st.said
  pub once : IsSaidOnce st → IsSaidOnce a.state

-- the answer's graph goes into a structure by this map
pub record IsInto (gr : Grammar) (a : Answer) (s : Structure) (map : ℕ → ℕ) : Type 0 where
  pub structure : IsStructure gr.signature s
  pub is : IsMorphismAside gr.signature a.closed.graph s map

abbrev pub AreInFragment : Grammar → List State → Type 0
AreInFragment gr sts = (st : State) → Has sts st → IsInFragment gr st

pub record ComesFrom (gr : Grammar) (sts : List State) (a : Answer) : Type 0 where
  pub state : State
  pub has : Has sts state
  pub is : IsAnswer gr state a
  pub back : IsInFragment gr state → (s : Structure) (map : ℕ → ℕ) → IsInto gr a s map → (free : FreeSense s a) → Returns gr s state a map free

-- a model satisfies one of the first states
pub record SatisfiesFirst (gr : Grammar) (first : List State) (s : Structure) (st : State) (x : Sense) (remain : List Element) : Type 0 where
  pub has : Has first st
  pub is : ModelSatisfies gr s x st remain

pub record RunLaw (gr : Grammar) (first : List State) (budget : ℕ) : Type 0 where
  pub comes : (a : Answer) → Has (search (visit gr) budget first).answers a → ComesFrom gr first a
  pub reached : AreInFragment gr first → (search (visit gr) budget first).finished ≡ true → (s : Structure) (st : State) (x : Sense) (remain : List Element) →
      SatisfiesFirst gr first s st x remain → IsReached gr s st x remain (search (visit gr) budget first).answers

abbrev pub RunLaws : Type 0
RunLaws = (gr : Grammar) (first : List State) (budget : ℕ) → IsGrammar gr → AreStates gr first → RunLaw gr first budget
