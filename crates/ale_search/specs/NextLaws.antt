-- What a search that stops at its first answer has to do with the whole search within the same budget.
-- Source: this project's own.
use Rattle.std.specs.Prelude.{◌≡◌, ℕ, ◌+◌, ◌<◌, true, false, List, [], ◌∷◌}
use Rattle.ale_engine.specs.Engine.{Outcome, search, Next, found, ended, spent, next_answer}
use Rattle.ale_logic.specs.States.{State}
use Rattle.ale_logic.specs.Visits.{Answer, visit}
use Rattle.ale_logic.specs.Words.{Grammar}

-- the answer, after so many visits, and then what comes
abbrev pub with_answer : Answer → ℕ → Outcome Answer → Outcome Answer
with_answer a visits o = record { answers = a ∷ o.answers; visits = visits + o.visits; finished = o.finished }

-- after so many visits, and one at least, the answer came; then the search goes on from what waits, with what is left
pub record FindsFirst (gr : Grammar) (budget : ℕ) (sts : List State) (a : Answer) (waiting : List State) (left : ℕ) : Type 0 where
  pub visits : ℕ
  pub some : 0 < visits
  pub spends : budget ≡ visits + left
  pub goes_on : search (visit gr) budget sts ≡ with_answer a visits (search (visit gr) left waiting)

-- after so many visits nothing waits, and none was an answer
pub record EndsEmpty (gr : Grammar) (budget : ℕ) (sts : List State) (left : ℕ) : Type 0 where
  pub visits : ℕ
  pub spends : budget ≡ visits + left
  pub ends : search (visit gr) budget sts ≡ record { answers = []; visits = visits; finished = true }

-- no visit was an answer, and something waits after all of them; with more visits the search goes on from there
pub record StopsShort (gr : Grammar) (budget : ℕ) (sts : List State) (waiting : List State) : Type 0 where
  pub stops : search (visit gr) budget sts ≡ record { answers = []; visits = budget; finished = false }
  pub goes_on : (more : ℕ) → search (visit gr) (budget + more) sts
      ≡ record { answers = (search (visit gr) more waiting).answers; visits = budget + (search (visit gr) more waiting).visits; finished = (search (visit gr) more waiting).finished }

abbrev pub IsNextOf : Grammar → ℕ → List State → Next State Answer → Type 0
IsNextOf gr budget sts (found a waiting left) = FindsFirst gr budget sts a waiting left
IsNextOf gr budget sts (ended left) = EndsEmpty gr budget sts left
IsNextOf gr budget sts (spent waiting) = StopsShort gr budget sts waiting

abbrev pub NextLaws : Type 0
NextLaws = (gr : Grammar) (budget : ℕ) (sts : List State) → IsNextOf gr budget sts (next_answer (visit gr) budget sts)
