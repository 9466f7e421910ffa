-- What solves a command: a model of the program, with roots and, for a generation, words.
-- Source: most general satisfiers, Carpenter 1992, chapters 4, 14 and 15.
use Rattle.std.specs.Prelude.{ℕ, ◌<◌, List, length}
use Rattle.ale_hierarchy.specs.Hierarchy.{Hierarchy}
use Rattle.ale_graph.specs.Structures.{Structure, count}
use Rattle.ale_logic.specs.Descriptions.{Description, IsAssignment, Describes}
use Rattle.ale_logic.specs.Goals.{Goal}
use Rattle.ale_logic.specs.Programs.{Word, Program}
use Rattle.ale_logic.specs.Derivations.{Derivable}
use Rattle.ale_logic.specs.Models.{IsModel}
use Rattle.ale_logic.specs.Lexical.{Lexical, IsEmptyCategory}
use Rattle.ale_logic.specs.Spans.{Spans}
use Rattle.ale_logic.specs.Headed.{Headed}

-- the root of mgsat, lex, rec and gen is one of a model
pub record IsRoot (h : Hierarchy) (program : Program) (s : Structure) (n : ℕ) : Type 0 where
  pub model : IsModel h program s
  pub node : n < count s

abbrev pub SolvesDescription : Hierarchy → Program → Description → Structure → ℕ → Type 0
SolvesDescription h program d s n = IsRoot h program s n × Describes h s d n

-- the goal can be derived where its variables stand for the nodes of `assign`
pub record SolvesGoal (h : Hierarchy) (program : Program) (g : Goal) (s : Structure) (assign : ℕ → ℕ) : Type 0 where
  pub model : IsModel h program s
  pub nodes : IsAssignment s assign
  pub derived : Derivable h program s assign g

abbrev pub SolvesWord : Hierarchy → Program → Word → Structure → ℕ → Type 0
SolvesWord h program w s n = IsRoot h program s n × Lexical h program s w n

abbrev pub SolvesSentence : Hierarchy → Program → List Word → Structure → ℕ → Type 0
SolvesSentence h program ws s n = IsRoot h program s n × Spans h program s ws n 0 (length ws)

-- words and empties stand where they are lexical
abbrev pub IsHeaded : Hierarchy → Program → Structure → ℕ → List Word → Type 0
IsHeaded h program s n ws = Headed h program s (Lexical h program s) (IsEmptyCategory h program s) n ws

abbrev pub SolvesGeneration : Hierarchy → Program → Description → Structure → ℕ → List Word → Type 0
SolvesGeneration h program d s n ws = IsRoot h program s n × Describes h s d n × IsHeaded h program s n ws
