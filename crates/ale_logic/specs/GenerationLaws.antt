-- What the answers of a generation mean, and that a node which words are found for spans these words.
-- Source: semantic-head-driven generation, Shieber, van Noord, Pereira and Moore 1990; this project's own form.
use Rattle.std.specs.Prelude.{◌≡◌, ℕ, true, List, [], ◌∷◌, length}
use Rattle.ale_declared.specs.Lists.{Has}
use Rattle.ale_hierarchy.specs.Hierarchy.{Hierarchy}
use Rattle.ale_graph.specs.Structures.{Structure, IsStructure}
use Rattle.ale_graph.specs.Morphisms.{IsMorphismAside}
use Rattle.ale_graph.specs.Closure.{node_of}
use Rattle.ale_logic.specs.Descriptions.{Description, Describes, FitsDescription}
use Rattle.ale_logic.specs.Programs.{Word, Program}
use Rattle.ale_logic.specs.Fitting.{FitsProgram}
use Rattle.ale_logic.specs.Words.{Words}
use Rattle.ale_logic.specs.Spans.{Spans}
use Rattle.ale_logic.specs.Solutions.{IsHeaded, SolvesGeneration}
use Rattle.ale_logic.specs.Growing.{GrowsTo}
use Rattle.ale_engine.specs.Engine.{Outcome, search}
use Rattle.ale_logic.specs.Visits.{Answer, visit}
use Rattle.ale_logic.specs.Parts.{kept_answer}
use Rattle.ale_logic.specs.Starts.{start_gen}
use Rattle.ale_logic.specs.Shown.{words_of}
use Rattle.ale_logic.specs.Lexicons.{with_words}
use Rattle.ale_logic.specs.Extending.{HasSoundExtension}
use Rattle.ale_logic.specs.LexiconLaws.{AreSoundWords, AreAllWords}
use Rattle.ale_logic.specs.Answers.{IsAccepted, SubsumesAt}

-- a search with words
abbrev pub generated_from : Hierarchy → Program → Words → ℕ → ℕ → Description → Outcome Answer
generated_from h program words budget slots d = search (visit (with_words h program words)) budget (start_gen slots d ∷ [])

pub record IsGenerated (h : Hierarchy) (program : Program) (d : Description) (ws : List Word) (n : ℕ) (t : Structure) : Type 0 where
  pub describes : Describes h t d n
  pub headed : IsHeaded h program t n ws

pub record GenerationLaw (h : Hierarchy) (program : Program) (words : Words) (slots : ℕ) (d : Description) (budget : ℕ) : Type 0 where
  pub sound : (a : Answer) → Has (generated_from h program words budget slots d).answers a → (s : Structure) (map : ℕ → ℕ) → IsStructure h s → IsMorphismAside h a.closed.graph s map →
      HasSoundExtension h program (kept_answer a) s map (IsGenerated h program d (words_of a 0) (map (node_of a.closed 0)))
  -- the answer's own graph grows to a solution, with the answer's words
  pub solved : (a : Answer) → Has (generated_from h program words budget slots d).answers a →
      GrowsTo h a.closed.graph (node_of a.closed 0) (λ t. SolvesGeneration h program d t (node_of a.closed 0) (words_of a 0))
  pub complete : AreAllWords h program words → (generated_from h program words budget slots d).finished ≡ true → (s : Structure) (n : ℕ) (ws : List Word) → SolvesGeneration h program d s n ws →
      (a : Answer) × Has (generated_from h program words budget slots d).answers a × (words_of a 0 ≡ ws) × SubsumesAt h a.closed.graph (node_of a.closed 0) s n

abbrev pub GenerationLaws : Type 0
GenerationLaws = (h : Hierarchy) (program : Program) (words : Words) (slots : ℕ) (d : Description) (budget : ℕ) → IsAccepted h program → FitsDescription h slots d → AreSoundWords h program words → GenerationLaw h program words slots d budget

-- what is generated can be parsed, as no rule has two heads
abbrev pub HeadedSpans : Type 0
HeadedSpans = (h : Hierarchy) (program : Program) (s : Structure) (n : ℕ) (ws : List Word) → FitsProgram h program → IsHeaded h program s n ws → Spans h program s ws n 0 (length ws)
