-- When an answer's own graph is a model: where what the first state imposed and what entries and empties brought in is
-- met there. Source: most general satisfiers under constraints on types, Carpenter 1992, chapter 15.
use Rattle.std.specs.Prelude.{ℕ, List}
use Rattle.ale_declared.specs.Lists.{Has}
use Rattle.ale_graph.specs.Closure.{node_of}
use Rattle.ale_logic.specs.Models.{MeetsAt, IsModel}
use Rattle.ale_logic.specs.Words.{Grammar}
use Rattle.ale_logic.specs.States.{State}
use Rattle.ale_engine.specs.Engine.{search}
use Rattle.ale_logic.specs.Visits.{Answer, visit}
use Rattle.ale_logic.specs.Steps.{IsGrammar, IsBrought, IsInFragment}
use Rattle.ale_logic.specs.Runs.{MeetsPairs}
use Rattle.ale_logic.specs.StartLaws.{IsStart}

-- what was imposed in the answer and was brought by an entry or an empty is met in the answer's graph
abbrev pub MeetsBrought : Grammar → Answer → Type 0
MeetsBrought gr a =
    (n k : ℕ) → Has a.state.imposed (n, k) → IsBrought gr a.closed.graph (node_of a.closed n) k → MeetsAt gr.signature gr.program a.closed.graph k (node_of a.closed n)

-- the answer came from one of the states, and its graph is a model where what was given is met
pub record IsModelWhereMet (gr : Grammar) (first : List State) (a : Answer) : Type 0 where
  pub state : State
  pub has : Has first state
  pub model : MeetsPairs gr a.closed.graph (node_of a.closed) state.imposed → MeetsBrought gr a → IsModel gr.signature gr.program a.closed.graph

-- a start of the grammar inside the fragment
pub record IsPlainStart (gr : Grammar) (st : State) : Type 0 where
  pub is : IsStart gr.signature st
  pub inside : IsInFragment gr st

abbrev pub ModelLaws : Type 0
ModelLaws =
    (gr : Grammar) (first : List State) (budget : ℕ) → IsGrammar gr → ((st : State) → Has first st → IsPlainStart gr st) →
    (a : Answer) → Has (search (visit gr) budget first).answers a → IsModelWhereMet gr first a
