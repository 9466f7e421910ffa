-- What a budget is to a search, and what stopping at an answer is, for states of any kind.
-- Source: this project's own.
use Rattle.std.specs.Prelude.{◌≡◌, ℕ, suc, ◌+◌, ◌<◌, ◌≤◌, true, false, List, [], ◌∷◌, ◌++◌, length}
use Rattle.ale_engine.specs.Engine.{Visit, waiting_after, answers_in, visits_in, search, Next, found, ended, spent}

-- the second list is the first and then more
abbrev pub IsPrefix : {A : Type 0} → List A → List A → Type 0
IsPrefix {A = A} xs ys = (more : List A) × (ys ≡ xs ++ more)

-- some state waits
pub record IsWaiting (S : Type 0) (sts : List S) : Type 0 where
  pub first : S
  pub others : List S
  pub are : sts ≡ first ∷ others

-- with so many more visits, the search gives what it gave, and then what the rest of it gives
pub record GoesOn (S A : Type 0) (visit : ℕ → S → Visit S A) (budget more : ℕ) (sts : List S) : Type 0 where
  pub answers : (search visit (budget + more) sts).answers ≡ (search visit budget sts).answers ++ (search visit more (waiting_after visit budget sts)).answers
  pub visits : (search visit (budget + more) sts).visits ≡ (search visit budget sts).visits + (search visit more (waiting_after visit budget sts)).visits
  pub waiting : waiting_after visit (budget + more) sts ≡ waiting_after visit more (waiting_after visit budget sts)

pub record BudgetLaw (S A : Type 0) (visit : ℕ → S → Visit S A) (budget : ℕ) (sts : List S) : Type 0 where
  pub within : (search visit budget sts).visits ≤ budget
  -- no more answers than visits
  pub few : length (search visit budget sts).answers ≤ (search visit budget sts).visits
  pub spent : (search visit budget sts).finished ≡ false → ((search visit budget sts).visits ≡ budget) × IsWaiting S (waiting_after visit budget sts)
  -- before each visit that was made something waited
  pub needed : (n : ℕ) → n < (search visit budget sts).visits → IsWaiting S (waiting_after visit n sts)
  -- and nothing waits after those of a finished search: they are just as many as it needs
  pub ended : (search visit budget sts).finished ≡ true → waiting_after visit (search visit budget sts).visits sts ≡ []
  -- a finished search is the same with any budget that has its visits
  pub settled : (search visit budget sts).finished ≡ true → (other : ℕ) → (search visit budget sts).visits ≤ other → search visit other sts ≡ search visit budget sts
  pub further : (more : ℕ) → GoesOn S A visit budget more sts

-- the answer came with the last of n visits and one more, none before it, and so many are left
pub record IsFound (S A : Type 0) (visit : ℕ → S → Visit S A) (budget : ℕ) (sts : List S) (a : A) (waiting : List S) (left : ℕ) : Type 0 where
  pub before : ℕ
  pub spends : budget ≡ suc before + left
  pub visits : visits_in visit (suc before) sts ≡ suc before
  pub none_before : answers_in visit before sts ≡ []
  pub found : answers_in visit (suc before) sts ≡ a ∷ []
  pub waits : waiting_after visit (suc before) sts ≡ waiting

-- the whole search has no answer, and so many visits are left
pub record HasEnded (S A : Type 0) (visit : ℕ → S → Visit S A) (budget : ℕ) (sts : List S) (left : ℕ) : Type 0 where
  pub none_found : answers_in visit budget sts ≡ []
  pub none_waits : waiting_after visit budget sts ≡ []
  pub spends : budget ≡ visits_in visit budget sts + left

-- no answer came within the budget, and some states still wait
pub record IsSpent (S A : Type 0) (visit : ℕ → S → Visit S A) (budget : ℕ) (sts : List S) (waiting : List S) : Type 0 where
  pub none_found : answers_in visit budget sts ≡ []
  pub waits : waiting_after visit budget sts ≡ waiting
  pub some_waits : IsWaiting S waiting
  pub visits : visits_in visit budget sts ≡ budget

-- a search that stops at its first answer is the search, up to there
abbrev pub IsNext : (S A : Type 0) → (ℕ → S → Visit S A) → ℕ → List S → Next S A → Type 0
IsNext S A visit budget sts (found a waiting left) = IsFound S A visit budget sts a waiting left
IsNext S A visit budget sts (ended left) = HasEnded S A visit budget sts left
IsNext S A visit budget sts (spent waiting) = IsSpent S A visit budget sts waiting
