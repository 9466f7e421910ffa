-- Declarations in whose goals no cut, negation, if-then or if-then-else is written.
-- Source: definite clauses over descriptions, Carpenter 1992, chapter 14.
use Rattle.std.specs.Prelude.{Option, Some, None, List, [], ◌∷◌}
use Rattle.ale_term.specs.Goals.{GoalData}
use Rattle.ale_declaration.specs.Declarations.{DeclarationData, signature, constraint, macro, clause, word, empty, lex_rule, rule, semantics, lex_depth, chain_length, passed_over, Element, daughter, daughters, condition, head}
use Rattle.ale_describe.specs.Plain.{IsPlainGoal}

abbrev pub IsPlainSome : Option GoalData → Type 0
IsPlainSome None = Unit {0}
IsPlainSome (Some g) = IsPlainGoal g

abbrev pub ArePlainElements : List Element → Type 0
ArePlainElements [] = Unit {0}
ArePlainElements (condition g ∷ es) = IsPlainGoal g × ArePlainElements es
ArePlainElements (daughter t ∷ es) = ArePlainElements es
ArePlainElements (daughters t ∷ es) = ArePlainElements es
ArePlainElements (head t ∷ es) = ArePlainElements es

abbrev pub HasPlainGoals : DeclarationData → Type 0
HasPlainGoals (constraint n t g) = IsPlainSome g
HasPlainGoals (clause p ts g) = IsPlainGoal g
HasPlainGoals (lex_rule n t u g ls) = IsPlainSome g
HasPlainGoals (rule n t es) = ArePlainElements es
HasPlainGoals (signature s) = Unit {0}
HasPlainGoals (macro m ps t) = Unit {0}
HasPlainGoals (word w t) = Unit {0}
HasPlainGoals (empty t) = Unit {0}
HasPlainGoals (semantics p) = Unit {0}
HasPlainGoals (lex_depth n) = Unit {0}
HasPlainGoals (chain_length n) = Unit {0}
HasPlainGoals (passed_over n) = Unit {0}

abbrev pub HavePlainGoals : List DeclarationData → Type 0
HavePlainGoals [] = Unit {0}
HavePlainGoals (x ∷ xs) = HasPlainGoals x × HavePlainGoals xs
