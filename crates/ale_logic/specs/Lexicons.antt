-- The lexicon by levels: the entries of the declared words, the empties, and then what lexical rules make of the
-- entries of the level before; all within one budget of visits. Source: lexical rules, ALE 3.2 User's Guide; levels
-- and order are this project's own.
use Rattle.std.specs.Prelude.{ℕ, zero, suc, ◌+◌, ◌-◌, Bool, ◌&&◌, Option, Some, None, List, [], ◌∷◌, ◌++◌, map, flat_map}
use Rattle.ale_hierarchy.specs.Hierarchy.{Hierarchy}
use Rattle.ale_graph.specs.Structures.{count}
use Rattle.ale_logic.specs.Programs.{Word, WordDeclaration, EmptyDeclaration, LexicalRule, Program}
use Rattle.ale_logic.specs.Words.{Entry, Words, Grammar}
use Rattle.ale_logic.specs.States.{State}
use Rattle.ale_logic.specs.Visits.{Answer, visit}
use Rattle.ale_engine.specs.Growth.{Task, Found, followed_by, none_due, run_all}
use Rattle.ale_logic.specs.Parts.{Part, Extract}
use Rattle.ale_logic.specs.Starts.{start, start_lex}

-- a grammar without words, in which all searches but those of a generation are made
abbrev pub wordless : Hierarchy → Program → Grammar
wordless h program = record { signature = h; program = program; words = record { entries = []; empties = [] } }

abbrev pub with_words : Hierarchy → Program → Words → Grammar
with_words h program words = record { signature = h; program = program; words = words }

-- an answer's part as an entry
abbrev pub entry_of : Word → ℕ → Part → Entry
entry_of w level p = record { word = w; level = level; kept = p.kept; root = p.root }

abbrev pub EntryTask : Type 0
EntryTask = Task State Answer Entry

abbrev pub word_task : Extract → WordDeclaration → EntryTask
word_task extract w = record { waiting = start w.slots w.desc ∷ []; made = λ a. entry_of w.word 0 (extract 0 a) }

-- an empty has no word
abbrev pub empty_task : Extract → EmptyDeclaration → EntryTask
empty_task extract e = record { waiting = start e.slots e.desc ∷ []; made = λ a. entry_of [] 0 (extract 0 a) }

-- a lexical rule on an entry, where its lines make a word of the entry's
abbrev pub rule_task_for : Extract → Entry → LexicalRule → Option Word → List EntryTask
rule_task_for extract x rule None = []
rule_task_for extract x rule (Some w) =
    record { waiting = start_lex rule x ∷ []; made = λ a. entry_of w (suc x.level) (extract (count x.kept.graph) a) } ∷ []

abbrev pub rule_task : Extract → Entry → LexicalRule → List EntryTask
rule_task extract x rule = rule_task_for extract x rule (rule.becomes x.word)

abbrev pub rule_tasks : Extract → List LexicalRule → Entry → List EntryTask
rule_tasks extract rules x = flat_map (rule_task extract x) rules

-- the searches of the level above these entries
abbrev pub level_tasks : Extract → Program → List Entry → List EntryTask
level_tasks extract program xs = flat_map (rule_tasks extract program.lex_rules) xs

-- so many levels above these entries
abbrev pub levels : Extract → Grammar → ℕ → List Entry → ℕ → Found Entry
levels extract gr zero xs left = none_due
levels extract gr (suc more) xs left =
    let next : Found Entry = run_all (visit gr) (level_tasks extract gr.program xs) left in
    followed_by next (levels extract gr more next.all (left - next.visits))

-- the entries of the declared words; the empties
abbrev pub declared_words : Extract → Grammar → ℕ → Found Entry
declared_words extract gr left = run_all (visit gr) (map (word_task extract) gr.program.words) left

abbrev pub declared_empties : Extract → Grammar → ℕ → Found Entry
declared_empties extract gr left = run_all (visit gr) (map (empty_task extract) gr.program.empties) left

pub record Lexicon : Type 0 where
  pub words : Words
  pub visits : ℕ
  pub finished : Bool

abbrev pub lexicon_of : Found Entry → Found Entry → Found Entry → Lexicon
lexicon_of declared empties above = record {
  words = record { entries = declared.all ++ above.all; empties = empties.all };
  visits = (declared.visits + empties.visits) + above.visits;
  finished = (declared.finished && empties.finished) && above.finished;
}

unfoldable pub lexicon : Extract → Hierarchy → Program → ℕ → Lexicon
lexicon extract h program budget =
    let gr : Grammar = wordless h program in
    let words : Found Entry = declared_words extract gr budget in
    let empties : Found Entry = declared_empties extract gr (budget - words.visits) in
    lexicon_of words empties (levels extract gr program.lex_depth words.all ((budget - words.visits) - empties.visits))
