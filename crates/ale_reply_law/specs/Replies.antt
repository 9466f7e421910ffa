-- What the reply to a command has to do with the command's solutions: each answer is the visible part of a solution, and
-- where the reply is complete each solution is subsumed by an answer. Source: most general satisfiers, Carpenter 1992,
-- chapters 4, 14 and 15.
use Rattle.std.specs.Prelude.{◌≡◌, ℕ, ◌+◌, ◌*◌, ◌≤◌, true, Option, Some, None, List, [], ◌∷◌, map}
use Rattle.ale_declared.specs.Lists.{Has}
use Rattle.ale_hierarchy.specs.Hierarchy.{Hierarchy}
use Rattle.ale_graph.specs.Structures.{Structure}
use Rattle.ale_graph.specs.Morphisms.{Subsumes}
use Rattle.ale_morphism.specs.Visible.{visible}
use Rattle.ale_logic.specs.Descriptions.{Description, IsAssignment, FitsDescription, HasNoChoice, parts}
use Rattle.ale_logic.specs.Goals.{Goal, FitsGoal, IsPlain}
use Rattle.ale_logic.specs.Programs.{Word, Program}
use Rattle.ale_logic.specs.Solutions.{SolvesDescription, SolvesGoal, SolvesWord, SolvesSentence, SolvesGeneration}
use Rattle.ale_logic.specs.Growing.{rooted}
use Rattle.ale_logic.specs.Parts.{Extract, whole_of}
use Rattle.ale_logic.specs.PartLaws.{PartLaw}
use Rattle.ale_logic.specs.Lexicons.{lexicon}
use Rattle.ale_logic.specs.Charts.{Keep, keep_all}
use Rattle.ale_logic.specs.ChartLaws.{KeepLaw}
use Rattle.ale_logic.specs.Answers.{IsAccepted}
use Rattle.ale_logic.specs.Shown.{Shown, Reply, mgsat, query, gen, lex, rec}

-- what solves a command with one root: a structure, its root, and words
abbrev pub RootedSolution : Type 1
RootedSolution = Structure → ℕ → List Word → Type 0

-- a command that is answered without words
abbrev pub without_words : (Structure → ℕ → Type 0) → RootedSolution
without_words Solves s n ws = Solves s n × (ws ≡ [])

-- the answer is the visible part of a solution, with its words
pub record IsPartOfSolution (Solves : Structure → ℕ → List Word → Type 0) (x : Shown) : Type 0 where
  pub solution : Structure
  pub root : ℕ
  pub solves : Solves solution root x.words
  pub visible_part : visible (rooted solution (Some root ∷ [])) ≡ visible x.structure

-- one of the answers has these words and subsumes the structure, root to root
pub record IsAnswered (h : Hierarchy) (answers : List Shown) (s : Structure) (n : ℕ) (ws : List Word) : Type 0 where
  pub answer : Shown
  pub has : Has answers answer
  pub words : answer.words ≡ ws
  pub subsumes : Subsumes h answer.structure (rooted s (Some n ∷ []))

-- the reply to a command with one root
pub record ReplyLaw (h : Hierarchy) (Solves : Structure → ℕ → List Word → Type 0) (reply : Reply) : Type 0 where
  pub sound : (x : Shown) → Has reply.answers x → IsPartOfSolution Solves x
  pub complete : reply.complete ≡ true → (s : Structure) (n : ℕ) (ws : List Word) → Solves s n ws → IsAnswered h reply.answers s n ws

-- each printed variable stands for its root, or where it is unbound for the node that it is given
abbrev pub StandFor : List (Option ℕ) → List ℕ → (ℕ → ℕ) → (ℕ → ℕ) → Type 0
StandFor [] vs free assign = vs ≡ []
StandFor (None ∷ roots) [] free assign = ⊥
StandFor (Some n ∷ roots) [] free assign = ⊥
StandFor (None ∷ roots) (v ∷ vs) free assign = (assign v ≡ free v) × StandFor roots vs free assign
StandFor (Some n ∷ roots) (v ∷ vs) free assign = (assign v ≡ n) × StandFor roots vs free assign

-- the answer is the visible part of a solution, whatever nodes the unbound variables are given
pub record IsPartOfDerivation (h : Hierarchy) (program : Program) (g : Goal) (printed : List ℕ) (x : Shown) : Type 0 where
  pub solution : Structure
  pub visible_part : visible (rooted solution x.structure.roots) ≡ visible x.structure
  pub solves : (free : ℕ → ℕ) → IsAssignment solution free → (assign : ℕ → ℕ) × SolvesGoal h program g solution assign × StandFor x.structure.roots printed free assign

-- one of the answers subsumes the structure, each bound root going to where its variable stands
pub record IsDerived (h : Hierarchy) (answers : List Shown) (printed : List ℕ) (s : Structure) (assign : ℕ → ℕ) : Type 0 where
  pub answer : Shown
  pub has : Has answers answer
  pub subsumes : Subsumes h answer.structure (rooted s (map (λ v. Some (assign v)) printed))

-- the reply to a query
pub record QueryReplyLaw (h : Hierarchy) (program : Program) (g : Goal) (printed : List ℕ) (reply : Reply) : Type 0 where
  pub sound : (x : Shown) → Has reply.answers x → IsPartOfDerivation h program g printed x
  pub complete : reply.complete ≡ true → (s : Structure) (assign : ℕ → ℕ) → SolvesGoal h program g s assign → IsDerived h reply.answers printed s assign

-- the replies to all kinds of commands; those that use words use the lexicon closed within a budget of its own
pub record RepliesLaw (extract : Extract) (keep : Keep) (h : Hierarchy) (program : Program) : Type 0 where
  pub descriptions : (slots : ℕ) (d : Description) (budget : ℕ) → FitsDescription h slots d → ReplyLaw h (without_words (SolvesDescription h program d)) (mgsat h program slots d budget)
  -- without disjunction and constraints two visits for each part, and two to spare, are enough
  pub enough : (slots : ℕ) (d : Description) (budget : ℕ) → FitsDescription h slots d → HasNoChoice d → program.constraints ≡ [] → 2 * parts d + 2 ≤ budget → (mgsat h program slots d budget).complete ≡ true
  pub goals : (slots : ℕ) (g : Goal) (printed : List ℕ) (budget : ℕ) → FitsGoal h slots g → IsPlain g → QueryReplyLaw h program g printed (query h program slots g printed budget)
  pub words : (closing : ℕ) (w : Word) → ReplyLaw h (without_words (SolvesWord h program w)) (lex (lexicon extract h program closing) w)
  pub sentences : (closing : ℕ) (sentence : List Word) (budget : ℕ) →
      ReplyLaw h (without_words (SolvesSentence h program sentence)) (rec extract keep h program (lexicon extract h program closing) sentence budget)
  pub generations : (closing slots : ℕ) (d : Description) (budget : ℕ) → FitsDescription h slots d →
      ReplyLaw h (SolvesGeneration h program d) (gen h program (lexicon extract h program closing) slots d budget)

abbrev pub ReplyLaws : Type 0
ReplyLaws = (extract : Extract) (keep : Keep) (h : Hierarchy) (program : Program) → IsAccepted h program → PartLaw h program extract → KeepLaw h keep → RepliesLaw extract keep h program

-- where all of an answer is kept, and every item of a chart, nothing is owed
abbrev pub WholeReplyLaws : Type 0
WholeReplyLaws = (h : Hierarchy) (program : Program) → IsAccepted h program → RepliesLaw whole_of keep_all h program
