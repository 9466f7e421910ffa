-- When a word is lexical at a node: by its declaration, or by lexical rules, up to their depth.
-- Source: lexical rules of B. Carpenter and G. Penn, ALE 3.2 User's Guide.
use Rattle.std.specs.Prelude.{◌≡◌, ℕ, zero, suc, ◌<◌, ◌≤◌, Some}
use Rattle.ale_declared.specs.Lists.{Has}
use Rattle.ale_hierarchy.specs.Hierarchy.{Hierarchy}
use Rattle.ale_graph.specs.Structures.{Structure, count}
use Rattle.ale_logic.specs.Descriptions.{HoldsAt, IsAssignment, Describes}
use Rattle.ale_logic.specs.Programs.{Word, WordDeclaration, EmptyDeclaration, LexicalRule, Program, goal_of}
use Rattle.ale_logic.specs.Derivations.{Derivable}

-- a declaration of the word holds at the node
pub record IsDeclared (h : Hierarchy) (program : Program) (s : Structure) (w : Word) (n : ℕ) : Type 0 where
  pub declaration : WordDeclaration
  pub has : Has program.words declaration
  pub word : declaration.word ≡ w
  pub inside : n < count s
  pub describes : Describes h s declaration.desc n

-- a lexical rule leads there from a word that was lexical at another node
pub record ByLexicalRule (h : Hierarchy) (program : Program) (s : Structure) (before : Word → ℕ → Type 0) (w : Word) (n : ℕ) : Type 0 where
  pub rule : LexicalRule
  pub has : Has program.lex_rules rule
  pub word : Word
  pub becomes : rule.becomes word ≡ Some w
  pub inside : n < count s
  pub node : ℕ
  pub lexical : before word node
  pub assign : ℕ → ℕ
  pub nodes : IsAssignment s assign
  pub input : HoldsAt h s assign rule.input node
  pub output : HoldsAt h s assign rule.output n
  pub derived : Derivable h program s assign (goal_of rule.goal)

abbrev pub LexicalAt : Hierarchy → Program → Structure → ℕ → Word → ℕ → Type 0
LexicalAt h program s zero w n = IsDeclared h program s w n
LexicalAt h program s (suc d) w n = ByLexicalRule h program s (LexicalAt h program s d) w n

abbrev pub Lexical : Hierarchy → Program → Structure → Word → ℕ → Type 0
Lexical h program s w n = (d : ℕ) × (d ≤ program.lex_depth) × LexicalAt h program s d w n

-- the node is an empty category by this declaration; by one of the program's
abbrev pub IsEmptyBy : Hierarchy → EmptyDeclaration → Structure → ℕ → Type 0
IsEmptyBy h declaration s n = (n < count s) × Describes h s declaration.desc n

abbrev pub IsEmptyCategory : Hierarchy → Program → Structure → ℕ → Type 0
IsEmptyCategory h program s n = (declaration : EmptyDeclaration) × Has program.empties declaration × IsEmptyBy h declaration s n
