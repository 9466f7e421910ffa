-- The parts of a program inside the fragment: without cut, negation and if-then. This project's own condition.
use Rattle.std.specs.Prelude.{Option, List, [], ◌∷◌, option_map}
use Rattle.ale_logic.specs.Goals.{IsPlain}
use Rattle.ale_logic.specs.Programs.{goal_of}
use Rattle.ale_logic.specs.Fitting.{IsPlainElement}
use Rattle.ale_program.specs.Goals.{goal_data}
use Rattle.ale_program.specs.Views.{element_data}
use Rattle.ale_program.specs.declared.goal.Goal.{Goal}
use Rattle.ale_program.specs.declared.clause.Clause.{Clause}
use Rattle.ale_program.specs.declared.clause.Pred.{Pred}
use Rattle.ale_program.specs.declared.clause.Constraint.{Constraint}
use Rattle.ale_program.specs.declared.lexical.LexRule.{LexRule}
use Rattle.ale_program.specs.declared.element.Element.{Element}
use Rattle.ale_program.specs.declared.element.Rule.{Rule}
use Rattle.ale_program.specs.declared.parts.Parts.{Parts}

-- it holds of each element
abbrev pub Each : {A : Type 0} → (A → Type 0) → List A → Type 0
Each P [] = Unit {0}
Each P (x ∷ xs) = P x × Each P xs

abbrev pub IsPlainOption : Option Goal → Type 0
IsPlainOption goal = IsPlain (goal_of (option_map goal_data goal))

abbrev pub IsPlainClause : Clause → Type 0
IsPlainClause c = IsPlain (goal_data c.body)

abbrev pub IsPlainPred : Pred → Type 0
IsPlainPred p = Each IsPlainClause p.clauses

abbrev pub IsPlainConstraint : Constraint → Type 0
IsPlainConstraint c = IsPlainOption c.goal

abbrev pub IsPlainLexRule : LexRule → Type 0
IsPlainLexRule r = IsPlainOption r.goal

abbrev pub IsPlainPart : Element → Type 0
IsPlainPart e = IsPlainElement (element_data e)

abbrev pub IsPlainRule : Rule → Type 0
IsPlainRule r = Each IsPlainPart r.elements

abbrev pub HasPlainClauses : Parts → Type 0
HasPlainClauses p = Each IsPlainPred p.preds × Each IsPlainConstraint p.constraints

abbrev pub HasPlainRules : Parts → Type 0
HasPlainRules p = Each IsPlainLexRule p.lex_rules × Each IsPlainRule p.rules
