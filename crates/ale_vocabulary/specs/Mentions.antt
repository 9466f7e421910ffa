-- The names that descriptions, goals and declarations mention, from left to right.
-- Source: types, features, macros, lists and predicates in the ALE 3.2 User's Guide; the order is this project's own.
use Rattle.std.specs.Prelude.{ℕ, suc, Option, Some, None, List, [], ◌∷◌, ◌++◌, map, length}
use Rattle.ale_term.specs.Terms.{TermData, TermsData, name, slot, at, all, any, differs, meet, macro, list, list_with, none, more}
use Rattle.ale_term.specs.Goals.{GoalData, GoalsData, holds, cut, each, either, equal, call, not_proved, if_else, once, no_goal, goal_more}
use Rattle.ale_declaration.specs.Declarations as declaration
use Rattle.ale_declaration.specs.Declarations.{DeclarationData, Element, daughter, daughters, condition, head}

-- a name where a type or a feature stands; a macro or a predicate with so many arguments; list notation
pub data Mention : Type 0 where
  type : List ℕ → Mention
  feature : List ℕ → Mention
  macro_call : List ℕ → ℕ → Mention
  predicate : List ℕ → ℕ → Mention
  a_list : Mention

abbrev pub how_many : TermsData → ℕ
how_many none = 0
how_many (more t ts) = suc (how_many ts)

-- a macro's name before its arguments, the opening bracket of a list before its members
abbrev mutual
  pub mentions : TermData → List Mention
  mentions (name n) = type n ∷ []
  mentions (slot x) = []
  mentions (at f t) = feature f ∷ mentions t
  mentions (all ts) = mentions_of_all ts
  mentions (any ts) = mentions_of_all ts
  mentions (differs t) = mentions t
  mentions (meet p q) = map feature p ++ map feature q
  mentions (macro m ts) = macro_call m (how_many ts) ∷ mentions_of_all ts
  mentions (list ts) = a_list ∷ mentions_of_all ts
  mentions (list_with ts t) = a_list ∷ mentions_of_all ts ++ mentions t

  pub mentions_of_all : TermsData → List Mention
  mentions_of_all none = []
  mentions_of_all (more t ts) = mentions t ++ mentions_of_all ts

abbrev pub mentions_of_each : List TermData → List Mention
mentions_of_each [] = []
mentions_of_each (t ∷ ts) = mentions t ++ mentions_of_each ts

abbrev mutual
  pub mentions_of_goal : GoalData → List Mention
  mentions_of_goal holds = []
  mentions_of_goal cut = []
  mentions_of_goal (each gs) = mentions_of_goals gs
  mentions_of_goal (either gs) = mentions_of_goals gs
  mentions_of_goal (equal t u) = mentions t ++ mentions u
  mentions_of_goal (call p ts) = predicate p (length ts) ∷ mentions_of_each ts
  mentions_of_goal (not_proved g) = mentions_of_goal g
  mentions_of_goal (if_else c g e) = mentions_of_goal c ++ mentions_of_goal g ++ mentions_of_goal e
  mentions_of_goal (once c g) = mentions_of_goal c ++ mentions_of_goal g

  pub mentions_of_goals : GoalsData → List Mention
  mentions_of_goals no_goal = []
  mentions_of_goals (goal_more g gs) = mentions_of_goal g ++ mentions_of_goals gs

abbrev pub mentions_of_some : Option GoalData → List Mention
mentions_of_some None = []
mentions_of_some (Some g) = mentions_of_goal g

-- a list of daughters is list notation
abbrev pub mentions_of_element : Element → List Mention
mentions_of_element (daughter t) = mentions t
mentions_of_element (daughters t) = a_list ∷ mentions t
mentions_of_element (condition g) = mentions_of_goal g
mentions_of_element (head t) = mentions t

abbrev pub mentions_of_elements : List Element → List Mention
mentions_of_elements [] = []
mentions_of_elements (e ∷ es) = mentions_of_element e ++ mentions_of_elements es

-- a clause's own head is defined by itself; the predicate of the semantics has two arguments
abbrev pub mentions_of_declaration : DeclarationData → List Mention
mentions_of_declaration (declaration.signature s) = []
mentions_of_declaration (declaration.constraint n t g) = type n ∷ mentions t ++ mentions_of_some g
mentions_of_declaration (declaration.macro m ps t) = mentions t
mentions_of_declaration (declaration.clause p ts g) = mentions_of_each ts ++ mentions_of_goal g
mentions_of_declaration (declaration.word w t) = mentions t
mentions_of_declaration (declaration.empty t) = mentions t
mentions_of_declaration (declaration.lex_rule n t u g ls) = mentions t ++ mentions u ++ mentions_of_some g
mentions_of_declaration (declaration.rule n t es) = mentions t ++ mentions_of_elements es
mentions_of_declaration (declaration.semantics p) = predicate p 2 ∷ []
mentions_of_declaration (declaration.lex_depth n) = []
mentions_of_declaration (declaration.chain_length n) = []
mentions_of_declaration (declaration.passed_over n) = []
