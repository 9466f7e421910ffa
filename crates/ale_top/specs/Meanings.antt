-- What the answers to a command mean: a word for each promise, of the grammar, the command and what its search comes to.
-- A promise of another kind of command is a further case of its word. Source: most general satisfiers, Carpenter 1992,
-- chapter 4.
use Rattle.std.specs.Prelude.{◌≡◌, ℕ, ◌+◌, ◌*◌, ◌≤◌, true, length, [], ◌∷◌}
use Rattle.ale_hierarchy.specs.Hierarchy.{Hierarchy}
use Rattle.ale_hierarchy.specs.Order.{hierarchy}
use Rattle.ale_logic.specs.Descriptions.{HasNoChoice, parts}
use Rattle.ale_engine.specs.EngineLaws.{BudgetLaw}
use Rattle.ale_logic.specs.States.{State}
use Rattle.ale_logic.specs.Starts.{start}
use Rattle.ale_logic.specs.Visits as visits
use Rattle.ale_search.specs.Solutions.{AnswersAreSolutions, SolutionsAreAnswered, SubsumedAreSolutions}
use Rattle.ale_search.specs.Views.{bare, empty_program}
use Rattle.ale_engine.specs.Engine.{Outcome}
use Rattle.ale_logic.specs.declared.answer.Answer.{Answer}
use Rattle.ale_report.specs.Written.{WrittenAreSatisfiers, SatisfiersAreWritten, SubsumedAreSatisfiers, TextsFix}
use Rattle.ale_load.specs.Grammars.{LoadedData}
use Rattle.ale_load.specs.Commands.{QueryData}

abbrev of_grammar : LoadedData → Hierarchy
of_grammar l = hierarchy l.signature_of

-- each answer is a solution, and what is written of it is a satisfier
pub record Sound (l : LoadedData) (q : QueryData) (o : Outcome Answer) : Type 0 where
  pub answers : AnswersAreSolutions (of_grammar l) empty_program q.0 o.answers
  pub written : WrittenAreSatisfiers (of_grammar l) q.0 o.answers

-- where the search ended, an answer subsumes each solution, and one that is written each satisfier
pub record Complete (l : LoadedData) (q : QueryData) (o : Outcome Answer) : Type 0 where
  pub answers : o.finished ≡ true → SolutionsAreAnswered (of_grammar l) empty_program q.0 o.answers
  pub written : o.finished ≡ true → SatisfiersAreWritten (of_grammar l) q.0 o.answers

-- whatever an answer subsumes is a solution, and whatever one that is written subsumes is a satisfier
pub record Subsumed (l : LoadedData) (q : QueryData) (o : Outcome Answer) : Type 0 where
  pub answers : SubsumedAreSolutions (of_grammar l) empty_program q.0 o.answers
  pub written : SubsumedAreSatisfiers (of_grammar l) q.0 o.answers

-- two visits a part and two to spare are enough for a description without disjunction
abbrev pub Enough : ℕ → LoadedData → QueryData → Outcome Answer → Type 0
Enough budget l q o = HasNoChoice q.0 → 2 * parts q.0 + 2 ≤ budget → o.finished ≡ true

-- the search ends within the budget exactly where nothing waits after as many visits
abbrev pub Budgeted : ℕ → LoadedData → QueryData → Outcome Answer → Type 0
Budgeted budget l q o = BudgetLaw State visits.Answer (visits.visit (bare (of_grammar l))) budget (start (length q.1) q.0 ∷ [])

-- the text of what is written of each answer fixes it
abbrev pub Fixed : LoadedData → QueryData → Outcome Answer → Type 0
Fixed l q o = TextsFix l.signature_of o.answers
