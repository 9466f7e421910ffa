-- What is built so far. Each form of description, goal, declaration and command is built from some stage of the program on; what
-- is read and not built yet is refused as such. Raising the stage builds the forms of the next one. Source: this project's own.
use Rattle.std.specs.Prelude.{ℕ, Bool, true, ◌&&◌, nat_le, Option, Some, None, List, [], ◌∷◌}
use Rattle.ale_declared.specs.declared.decl.SigDecl.TheVariants.{Kind, Ext}
use Rattle.ale_term.specs.Terms.{TermData, TermsData, name, slot, at, all, any, differs, meet, macro, list, list_with, none, more}
use Rattle.ale_term.specs.Goals.{GoalData, GoalsData, holds, cut, each, either, equal, call, not_proved, if_else, once, no_goal, goal_more}
use Rattle.ale_declaration.specs.Declarations as declaration
use Rattle.ale_declaration.specs.Declarations.{DeclarationData, Element, daughter, daughters, condition, head}
use Rattle.ale_command.specs.Commands.{CommandData, mgsat, query, lex, rec, gen, code}

unfoldable pub stage : ℕ
stage = 4

-- the forms of this stage are built
abbrev pub since : ℕ → Bool
since n = nat_le n stage

abbrev mutual
  pub is_built : TermData → Bool
  is_built (name n) = since 2
  is_built (slot x) = since 3
  is_built (at f t) = is_built t && since 2
  is_built (all ts) = are_built ts && since 2
  is_built (any ts) = are_built ts && since 2
  is_built (meet p q) = since 3
  is_built (macro m ts) = are_built ts && since 4
  is_built (list ts) = are_built ts && since 4
  is_built (list_with ts t) = are_built ts && is_built t && since 4
  is_built (differs t) = is_built t && since 6

  pub are_built : TermsData → Bool
  are_built none = true
  are_built (more t ts) = is_built t && are_built ts

abbrev pub each_built : List TermData → Bool
each_built [] = true
each_built (t ∷ ts) = is_built t && each_built ts

abbrev mutual
  pub goal_is_built : GoalData → Bool
  goal_is_built holds = since 5
  goal_is_built (each gs) = goals_are_built gs && since 5
  goal_is_built (either gs) = goals_are_built gs && since 5
  goal_is_built (equal t u) = is_built t && is_built u && since 5
  goal_is_built (call p ts) = each_built ts && since 5
  goal_is_built cut = since 11
  goal_is_built (not_proved g) = goal_is_built g && since 11
  goal_is_built (if_else c g e) = goal_is_built c && goal_is_built g && goal_is_built e && since 11
  goal_is_built (once c g) = goal_is_built c && goal_is_built g && since 11

  pub goals_are_built : GoalsData → Bool
  goals_are_built no_goal = true
  goals_are_built (goal_more g gs) = goal_is_built g && goals_are_built gs

abbrev pub some_goal_is_built : Option GoalData → Bool
some_goal_is_built None = true
some_goal_is_built (Some g) = goal_is_built g

abbrev pub element_is_built : Element → Bool
element_is_built (daughter t) = is_built t
element_is_built (daughters t) = is_built t
element_is_built (condition g) = goal_is_built g
element_is_built (head t) = is_built t

abbrev pub elements_are_built : List Element → Bool
elements_are_built [] = true
elements_are_built (e ∷ es) = element_is_built e && elements_are_built es

abbrev pub declaration_is_built : DeclarationData → Bool
declaration_is_built (declaration.signature (Kind t ts fs)) = since 2
declaration_is_built (declaration.passed_over n) = since 2
declaration_is_built (declaration.macro m ps t) = is_built t && since 4
declaration_is_built (declaration.clause p ts g) = each_built ts && goal_is_built g && since 5
declaration_is_built (declaration.signature (Ext ts)) = since 6
declaration_is_built (declaration.constraint n t g) = is_built t && some_goal_is_built g && since 7
declaration_is_built (declaration.word w t) = is_built t && since 8
declaration_is_built (declaration.empty t) = is_built t && since 8
declaration_is_built (declaration.lex_rule n t u g ls) = is_built t && is_built u && some_goal_is_built g && since 8
declaration_is_built (declaration.lex_depth n) = since 8
declaration_is_built (declaration.rule n t es) = is_built t && elements_are_built es && since 9
declaration_is_built (declaration.semantics p) = since 10
declaration_is_built (declaration.chain_length n) = since 10

abbrev pub command_is_built : CommandData → Bool
command_is_built (mgsat t) = is_built t && since 2
command_is_built (query g) = goal_is_built g && since 5
command_is_built (lex w) = since 8
command_is_built (rec ws) = since 9
command_is_built (gen t) = is_built t && since 10
command_is_built (code p n) = since 12
