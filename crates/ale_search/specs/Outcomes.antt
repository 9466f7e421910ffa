-- What the result of a search stands for, and what it has so far.
use Rattle.std.specs.Prelude.{ℕ, ◌+◌, List, [], ◌∷◌, ◌++◌, map}
use Rattle.ale_hierarchy.specs.Hierarchy.{Hierarchy}
use Rattle.ale_engine.specs.Engine.{Outcome, search}
use Rattle.ale_logic.specs.Descriptions.{Description}
use Rattle.ale_logic.specs.Starts.{start}
use Rattle.ale_logic.specs.Visits as visits
use Rattle.ale_logic.specs.declared.answer.Answer.{Answer}
use Rattle.ale_search.specs.declared.finding.Found.{Found}
use Rattle.ale_search.specs.Views.{bare, seen}

abbrev pub outcome_of : Found → Outcome Answer
outcome_of f = record { answers = f.answers; visits = f.visits; finished = f.finished }

abbrev pub seen_answer : visits.Answer → Answer
seen_answer a = seen a.closed a.state

-- with what is told of each answer
abbrev pub told_of : Outcome visits.Answer → Outcome Answer
told_of o = record { answers = map seen_answer o.answers; visits = o.visits; finished = o.finished }

-- the defined search for a description, within a budget of visits
abbrev pub found : Hierarchy → ℕ → ℕ → Description → Outcome Answer
found h budget slots d = told_of (search (visits.visit (bare h)) budget (start slots d ∷ []))

-- the answers and visits so far, before what comes
abbrev pub so_far : List Answer → ℕ → Outcome Answer → Outcome Answer
so_far answers visits o = record { answers = answers ++ o.answers; visits = visits + o.visits; finished = o.finished }
