-- Searches that are made one after the other within one budget, and what their answers become.
-- Source: this project's own.
use Rattle.std.specs.Prelude.{ℕ, ◌+◌, ◌-◌, Bool, true, ◌&&◌, List, [], ◌∷◌, ◌++◌, map}
use Rattle.ale_engine.specs.Engine.{Visit, Outcome, search}

-- a search that is due, or in progress: the states that wait, and what an answer of it becomes
pub record Task (S A B : Type 0) : Type 0 where
  pub waiting : List S
  pub made : A → B

-- what was found, in how many visits, and whether no search that was due has a state left to visit
pub record Found (B : Type 0) : Type 0 where
  pub all : List B
  pub visits : ℕ
  pub finished : Bool

-- the one, and then what comes of the visits that it left
abbrev pub followed_by : {B : Type 0} → Found B → Found B → Found B
followed_by f g = record { all = f.all ++ g.all; visits = f.visits + g.visits; finished = f.finished && g.finished }

abbrev pub none_due : {B : Type 0} → Found B
none_due = record { all = []; visits = 0; finished = true }

abbrev pub made_of : {S A B : Type 0} → Task S A B → Outcome A → Found B
made_of task o = record { all = map task.made o.answers; visits = o.visits; finished = o.finished }

-- the searches in order, within so many visits together; one with nothing left finds nothing, and is unfinished
-- where it has a state to visit
abbrev pub run_all : {S A B : Type 0} → (ℕ → S → Visit S A) → List (Task S A B) → ℕ → Found B
run_all visit [] left = none_due
run_all visit (t ∷ ts) left = followed_by (made_of t (search visit left t.waiting)) (run_all visit ts (left - (search visit left t.waiting).visits))
