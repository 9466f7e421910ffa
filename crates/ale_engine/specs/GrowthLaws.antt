-- What a budget is to searches that are made one after the other, and what is found is made of.
-- Source: this project's own.
use Rattle.std.specs.Prelude.{◌≡◌, ℕ, ◌-◌, ◌<◌, ◌≤◌, true, false, List, ◌∷◌, ◌++◌, length}
use Rattle.ale_relation.specs.Has.{Has}
use Rattle.ale_engine.specs.Engine.{Visit, waiting_after, search}
use Rattle.ale_engine.specs.Growth.{Task, run_all}
use Rattle.ale_engine.specs.EngineLaws.{IsPrefix, IsWaiting, BudgetLaw, IsNext}
use Rattle.ale_engine.specs.Engine.{next_answer}

-- it is what an answer of one of the searches becomes, within some budget
pub record IsMade (S A B : Type 0) (visit : ℕ → S → Visit S A) (tasks : List (Task S A B)) (x : B) : Type 0 where
  pub task : Task S A B
  pub has : Has tasks task
  pub budget : ℕ
  pub answer : A
  pub is_answer : Has (search visit budget task.waiting).answers answer
  pub is : x ≡ task.made answer

-- the search was made to its end within some budget, and what each answer becomes is there
pub record HasRun (S A B : Type 0) (visit : ℕ → S → Visit S A) (task : Task S A B) (all : List B) : Type 0 where
  pub budget : ℕ
  pub ended : (search visit budget task.waiting).finished ≡ true
  pub results : (a : A) → Has (search visit budget task.waiting).answers a → Has all (task.made a)

-- one of the searches has a state left to visit, after the visits that those before it left of the budget
pub record IsCutOff (S A B : Type 0) (visit : ℕ → S → Visit S A) (tasks : List (Task S A B)) (budget : ℕ) : Type 0 where
  pub before : List (Task S A B)
  pub task : Task S A B
  pub later : List (Task S A B)
  pub are : tasks ≡ before ++ task ∷ later
  pub waits : IsWaiting S (waiting_after visit (budget - (run_all visit before budget).visits) task.waiting)

pub record RunAllLaw (S A B : Type 0) (visit : ℕ → S → Visit S A) (tasks : List (Task S A B)) (budget : ℕ) : Type 0 where
  pub within : (run_all visit tasks budget).visits ≤ budget
  -- no more is found than there are visits
  pub few : length (run_all visit tasks budget).all ≤ (run_all visit tasks budget).visits
  pub made : (x : B) → Has (run_all visit tasks budget).all x → IsMade S A B visit tasks x
  pub has_run : (run_all visit tasks budget).finished ≡ true → (t : Task S A B) → Has tasks t → HasRun S A B visit t (run_all visit tasks budget).all
  pub spent : (run_all visit tasks budget).finished ≡ false → (run_all visit tasks budget).visits ≡ budget
  -- unfinished only where a search that is due has a state left
  pub unfinished : (run_all visit tasks budget).finished ≡ false → IsCutOff S A B visit tasks budget
  -- and finished only where none has
  pub ended : (run_all visit tasks budget).finished ≡ true → IsCutOff S A B visit tasks budget → ⊥
  -- the visits of what is finished are just as many as it needs
  pub needed : (run_all visit tasks budget).finished ≡ true → (fewer : ℕ) → fewer < (run_all visit tasks budget).visits → (run_all visit tasks fewer).finished ≡ false
  -- and it is the same with any budget that has them
  pub settled : (run_all visit tasks budget).finished ≡ true → (other : ℕ) → (run_all visit tasks budget).visits ≤ other → run_all visit tasks other ≡ run_all visit tasks budget
  -- a larger budget gives more behind it
  pub further : (larger : ℕ) → budget ≤ larger → IsPrefix (run_all visit tasks budget).all (run_all visit tasks larger).all

-- of every search by these visits
pub record EngineLaw (S A B : Type 0) (visit : ℕ → S → Visit S A) : Type 0 where
  pub budgets : (budget : ℕ) (sts : List S) → BudgetLaw S A visit budget sts
  pub stops : (budget : ℕ) (sts : List S) → IsNext S A visit budget sts (next_answer visit budget sts)
  pub runs : (tasks : List (Task S A B)) (budget : ℕ) → RunAllLaw S A B visit tasks budget
