-- Programs as plain data: clauses, constraints, words, empty categories, lexical rules and rules, and what
-- keeps them to one signature and inside the fragment. Source: B. Carpenter and G. Penn, ALE 3.2 User's Guide.
use Rattle.std.specs.Prelude.{ℕ, Option, Some, None, List, [], get_or}
use Rattle.ale_logic.specs.Descriptions.{Description, Descriptions}
use Rattle.ale_logic.specs.Goals.{Goal, yes}

-- a word as its characters
abbrev pub Word : Type 0
Word = List ℕ

-- the head's description for each argument, and the body
pub record Clause : Type 0 where
  pub args : Descriptions
  pub body : Goal
  pub slots : ℕ

-- of every node of the type the description holds, and the goal, where there is one, can be derived under the same
-- assignment
pub record Constraint : Type 0 where
  pub of : ℕ
  pub desc : Description
  pub goal : Option Goal
  pub slots : ℕ

pub record WordDeclaration : Type 0 where
  pub word : Word
  pub desc : Description
  pub slots : ℕ

pub record EmptyDeclaration : Type 0 where
  pub desc : Description
  pub slots : ℕ

-- `becomes` is what its lines make of a word, where one of them fits
pub record LexicalRule : Type 0 where
  pub input : Description
  pub output : Description
  pub goal : Option Goal
  pub becomes : Word → Option Word
  pub slots : ℕ

pub data Element : Type 0 where
  cat : Description → Element
  cats : Description → Element
  derived : Goal → Element
  sem_head : Description → Element
  -- in chart items alone: the first member, and the list of the others, of the list that the node is
  member : ℕ → Element
  tail : ℕ → Element

pub record Rule : Type 0 where
  pub mother : Description
  pub elements : List Element
  pub slots : ℕ

-- the type of the empty list, the type of lists with members, and the features of their first member and of the rest
pub record ListTypes : Type 0 where
  pub e_list : ℕ
  pub ne_list : ℕ
  pub hd : ℕ
  pub tl : ℕ

pub record Program : Type 0 where
  -- the clauses of each predicate, by its number
  pub preds : List (List Clause)
  pub constraints : List Constraint
  pub words : List WordDeclaration
  pub empties : List EmptyDeclaration
  pub lex_rules : List LexicalRule
  pub rules : List Rule
  pub semantics : Option ℕ
  -- where the signature has them
  pub lists : Option ListTypes
  pub lex_depth : ℕ
  pub chain_length : ℕ

abbrev pub clauses_of : Program → ℕ → List Clause
clauses_of program p = get_or program.preds p []

-- a goal that is left out always holds
abbrev pub goal_of : Option Goal → Goal
goal_of None = yes
goal_of (Some g) = g
