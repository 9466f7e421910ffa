-- The defined output: what the program ends with and what it writes, for a grammar, commands and a budget.
use Rattle.std.specs.Prelude.{ℕ, suc, Bool, true, false, ◌&&◌, Result, Ok, Err, List, [], ◌∷◌, ◌++◌, codes, length}
use Rattle.ale_declared.specs.Declarations.{Declared}
use Rattle.ale_engine.specs.Engine.{Outcome}
use Rattle.ale_logic.specs.declared.answer.Answer.{Answer}
use Rattle.ale_load.specs.declared.grammar_error.GrammarError.{GrammarError}
use Rattle.ale_load.specs.declared.command_error.CommandError.{CommandError}
use Rattle.ale_load.specs.Grammars.{LoadedData, IsLoaded, load_of}
use Rattle.ale_load.specs.Commands.{QueryData, AreCommands, commands_of}
use Rattle.ale_report.specs.Parts.{searched, command_text}
use Rattle.ale_top.specs.declared.status.Status.{Status}
use Rattle.ale_top.specs.declared.status.Status.TheVariants.{Done, Unfinished, Grammar, Commands}
use Rattle.ale_top.specs.Lines.{grammar_line, command_line, passed_text}

-- the search for what a command asks for
abbrev pub search_for : Declared → ℕ → QueryData → Outcome Answer
search_for d budget q = searched d budget (length q.1) q.0

-- the parts of the commands, counted from k on; each search has the whole budget
abbrev pub commands_text : Declared → ℕ → ℕ → List QueryData → List ℕ
commands_text d budget k [] = []
commands_text d budget k (q ∷ qs) = command_text d k (search_for d budget q) ++ commands_text d budget (suc k) qs

-- every search ends within the budget
abbrev pub all_finished : Declared → ℕ → List QueryData → Bool
all_finished d budget [] = true
all_finished d budget (q ∷ qs) = (search_for d budget q).finished && all_finished d budget qs

abbrev pub first_line : List ℕ
first_line = codes "ale: inside the fragment\n"

abbrev pub ending : Bool → Status
ending true = Done
ending false = Unfinished

abbrev pub answers_text : LoadedData → ℕ → List QueryData → List ℕ
answers_text l budget qs = first_line ++ passed_text l.passed ++ commands_text l.signature_of budget 1 qs

pub data Output (g c : List ℕ) (budget : ℕ) : Status → List ℕ → Type 0 where
  grammar_refused : (e : GrammarError) → IsLoaded g (Err e) → Output g c budget Grammar (grammar_line e)
  commands_refused : (l : LoadedData) (e : CommandError) → IsLoaded g (Ok l) → AreCommands l c (Err e) →
      Output g c budget Commands (command_line e)
  answered : (l : LoadedData) (qs : List QueryData) → IsLoaded g (Ok l) → AreCommands l c (Ok qs) →
      Output g c budget (ending (all_finished l.signature_of budget qs)) (answers_text l budget qs)

-- The same as a function, one stage after another.
abbrev pub Ending : Type 0
Ending = Status × List ℕ

abbrev pub after_commands : LoadedData → ℕ → Result (List QueryData) CommandError → Ending
after_commands l budget (Ok qs) = (ending (all_finished l.signature_of budget qs), answers_text l budget qs)
after_commands l budget (Err e) = (Commands, command_line e)

abbrev pub after_grammar : List ℕ → ℕ → Result LoadedData GrammarError → Ending
after_grammar c budget (Ok l) = after_commands l budget (commands_of l c)
after_grammar c budget (Err e) = (Grammar, grammar_line e)

abbrev pub outcome : List ℕ → List ℕ → ℕ → Ending
outcome g c budget = after_grammar c budget (load_of g)
