-- Which replies are marked unfinished: just those whose search, or the lexicon's closure where the command uses it, needs
-- more visits than its budget. This holds of every program, also of those with cut, negation and if-then.
-- Source: this project's own.
use Rattle.std.specs.Prelude.{◌≡◌, ℕ, ◌≤◌, ◌⊎◌, true, false, List, [], ◌∷◌}
use Rattle.ale_hierarchy.specs.Hierarchy.{Hierarchy}
use Rattle.ale_engine.specs.Engine.{waiting_after}
use Rattle.ale_engine.specs.EngineLaws.{IsWaiting}
use Rattle.ale_logic.specs.Descriptions.{Description}
use Rattle.ale_logic.specs.Goals.{Goal}
use Rattle.ale_logic.specs.Programs.{Word, Program}
use Rattle.ale_logic.specs.Words.{Grammar}
use Rattle.ale_logic.specs.States.{State}
use Rattle.ale_logic.specs.Visits.{visit}
use Rattle.ale_logic.specs.Parts.{Extract}
use Rattle.ale_logic.specs.Starts.{start, start_goal, start_gen}
use Rattle.ale_logic.specs.Lexicons.{lexicon, wordless, with_words}
use Rattle.ale_logic.specs.LexiconLaws.{IsLexiconCutOff}
use Rattle.ale_logic.specs.Charts.{Keep, first_chart}
use Rattle.ale_logic.specs.ChartLaws.{IsChartCutOff}
use Rattle.ale_logic.specs.Shown.{Reply, mgsat, query, gen, lex, rec}

-- some state waits after the budget's visits
abbrev pub SearchNeedsMore : Grammar → State → ℕ → Type 0
SearchNeedsMore gr st budget = IsWaiting State (waiting_after (visit gr) budget (st ∷ []))

-- a search that is due for the lexicon, or for the chart, has a state left to visit
abbrev pub LexiconNeedsMore : Extract → Hierarchy → Program → ℕ → Type 0
LexiconNeedsMore extract h program closing = IsLexiconCutOff extract (wordless h program) closing

abbrev pub ChartNeedsMore : Extract → Keep → Hierarchy → Program → ℕ → List Word → ℕ → Type 0
ChartNeedsMore extract keep h program closing sentence budget =
    IsChartCutOff extract keep h program (first_chart program (lexicon extract h program closing).words sentence budget)

-- the reply, made within the budget, is unfinished exactly where more visits are needed
pub record IsMarked (reply : Reply) (budget : ℕ) (Needs : Type 0) : Type 0 where
  pub within : reply.visits ≤ budget
  pub unfinished : reply.complete ≡ false → Needs
  pub complete : reply.complete ≡ true → Needs → ⊥

-- the lexicon is closed within a budget of its own
pub record MarksLaw (extract : Extract) (keep : Keep) (h : Hierarchy) (program : Program) (closing budget : ℕ) : Type 0 where
  pub descriptions : (slots : ℕ) (d : Description) → IsMarked (mgsat h program slots d budget) budget (SearchNeedsMore (wordless h program) (start slots d) budget)
  pub goals : (slots : ℕ) (g : Goal) (printed : List ℕ) → IsMarked (query h program slots g printed budget) budget (SearchNeedsMore (wordless h program) (start_goal slots g) budget)
  pub words : (w : Word) → IsMarked (lex (lexicon extract h program closing) w) budget (LexiconNeedsMore extract h program closing)
  pub sentences : (sentence : List Word) →
      IsMarked (rec extract keep h program (lexicon extract h program closing) sentence budget) budget
      (ChartNeedsMore extract keep h program closing sentence budget ⊎ LexiconNeedsMore extract h program closing)
  pub generations : (slots : ℕ) (d : Description) →
      IsMarked (gen h program (lexicon extract h program closing) slots d budget) budget
      (SearchNeedsMore (with_words h program (lexicon extract h program closing).words) (start_gen slots d) budget ⊎ LexiconNeedsMore extract h program closing)

abbrev pub MarksLaws : Type 0
MarksLaws = (extract : Extract) (keep : Keep) (h : Hierarchy) (program : Program) (closing budget : ℕ) → MarksLaw extract keep h program closing budget
