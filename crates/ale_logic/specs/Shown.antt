-- What the program shows of answers: a structure with its roots, and for a generation its words.
-- Source: this project's own.
use Rattle.std.specs.Prelude.{ℕ, ◌-◌, eqb, Bool, true, ◌&&◌, Some, List, [], ◌∷◌, map, filter, length}
use Rattle.ale_hierarchy.specs.Hierarchy.{Hierarchy}
use Rattle.ale_graph.specs.Structures.{Structure}
use Rattle.ale_graph.specs.Closure.{node_of}
use Rattle.ale_logic.specs.Descriptions.{Description}
use Rattle.ale_logic.specs.Goals.{Goal}
use Rattle.ale_logic.specs.Programs.{Word, Program}
use Rattle.ale_logic.specs.Words.{Kept, Entry}
use Rattle.ale_logic.specs.Words.{bound_in}
use Rattle.ale_logic.specs.States.{env_at}
use Rattle.ale_logic.specs.Spelling.{spelled}
use Rattle.ale_logic.specs.Visits.{Answer, visit}
use Rattle.ale_engine.specs.Engine.{Outcome, search, is_nothing}
use Rattle.ale_logic.specs.Growing.{rooted}
use Rattle.ale_logic.specs.Parts.{placed, Extract}
use Rattle.ale_logic.specs.Starts.{start, start_goal, start_gen, ChartItem}
use Rattle.ale_logic.specs.Lexicons.{wordless, with_words, Lexicon}
use Rattle.ale_logic.specs.Charts.{same_word, Keep, Chart, items, chart}

-- a phrase consists of words and later phrases, so they stand within one another no deeper than there are phrases
abbrev pub words_of : Answer → ℕ → List Word
words_of a g = spelled a.state.phrases a.state.said g

-- words and a structure
pub record Shown : Type 0 where
  pub words : List Word
  pub structure : Structure

abbrev pub shown_root : Answer → Structure
shown_root a = rooted a.closed.graph (Some (node_of a.closed 0) ∷ [])

-- the roots are the nodes of these variables, where they are bound
abbrev pub shown_slots : List ℕ → Answer → Structure
shown_slots slots a = rooted a.closed.graph (map (λ v. placed (node_of a.closed) (bound_in (env_at a.state.envs 0) v)) slots)

abbrev pub shown_kept : Kept → ℕ → Structure
shown_kept kept root = rooted kept.graph (Some root ∷ [])

-- what a command comes to: its answers, the visits made for it, and whether it is complete
pub record Reply : Type 0 where
  pub answers : List Shown
  pub visits : ℕ
  pub complete : Bool

abbrev pub reply_of : (Answer → Shown) → Bool → Outcome Answer → Reply
reply_of show ready o = record { answers = map show o.answers; visits = o.visits; complete = o.finished && ready }

abbrev pub mgsat : Hierarchy → Program → ℕ → Description → ℕ → Reply
mgsat h program slots d budget = reply_of (λ a. record { words = []; structure = shown_root a }) true (search (visit (wordless h program)) budget (start slots d ∷ []))

abbrev pub query : Hierarchy → Program → ℕ → Goal → List ℕ → ℕ → Reply
query h program slots g printed budget = reply_of (λ a. record { words = []; structure = shown_slots printed a }) true (search (visit (wordless h program)) budget (start_goal slots g ∷ []))

-- a generation uses the entries and empties of the lexicon
abbrev pub gen : Hierarchy → Program → Lexicon → ℕ → Description → ℕ → Reply
gen h program l slots d budget = reply_of (λ a. record { words = words_of a 0; structure = shown_root a }) l.finished (search (visit (with_words h program l.words)) budget (start_gen slots d ∷ []))

-- a word's entries are looked up, without a visit
abbrev pub lex : Lexicon → Word → Reply
lex l w = record { answers = map (λ (x : Entry). record { words = []; structure = shown_kept x.kept x.root }) (filter (λ (x : Entry). same_word x.word w) l.words.entries); visits = 0; complete = l.finished }

-- passive, and over the places from i to k
abbrev pub is_passive_over : ℕ → ℕ → ChartItem → Bool
is_passive_over i k x = (eqb x.from i && eqb x.to k) && is_nothing x.rest

abbrev pub rec_of : ℕ → Bool → ℕ → Chart → Reply
rec_of size ready budget c = record {
  answers = map (λ (x : ChartItem). record { words = []; structure = shown_kept x.kept x.root }) (filter (is_passive_over 0 size) (items c));
  visits = budget - c.left;
  complete = c.finished && ready;
}

-- the passive items over the whole sentence
abbrev pub rec : Extract → Keep → Hierarchy → Program → Lexicon → List Word → ℕ → Reply
rec extract keep h program l sentence budget = rec_of (length sentence) l.finished budget (chart extract keep h program l.words sentence budget)
