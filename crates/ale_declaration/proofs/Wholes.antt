-- Descriptions and goals that are all of the lexemes, and what may follow a form before a word or a symbol of the language.
use Rattle.std.proofs.Common.{◌≡◌, ℕ, Option, Some, List, [], ◌∷◌, refl}
use Rattle.ale_term.specs.declared.symbol.Symbol.TheVariants.{RuleArrow, LexRuleArrow, Comma}
use Rattle.ale_term.specs.declared.lexeme.Lexeme.{Lexeme}
use Rattle.ale_term.specs.declared.lexeme.Lexeme.TheVariants.{Atom, Sign}
use Rattle.ale_term.specs.Terms.{TermData}
use Rattle.ale_term.specs.Goals.{GoalData}
use Rattle.ale_term.specs.Grammar.{IsDescription, IsGoal}
use Rattle.ale_term.specs.Follows.{EndsPart, EndsDescription, EndsGoalPart, EndsGoal}
use Rattle.ale_form.specs.Whole.{description_of, goal_of}
use Rattle.ale_form.proofs.Wholes.{description_reads, goal_reads}

abbrev pub got : {A : Type 0} → A → List Lexeme → Option (A × List Lexeme)
got a ls = Some (a, ls)

pub description_is : (ls : List Lexeme) (t : TermData) → IsDescription ls t → description_of ls ≡ Some t
description_is ls t d = let f = description_reads ls t in f.0 d

pub is_description : (ls : List Lexeme) (t : TermData) → description_of ls ≡ Some t → IsDescription ls t
is_description ls t e = let f = description_reads ls t in f.1 e

pub goal_is : (ls : List Lexeme) (g : GoalData) → IsGoal ls g → goal_of ls ≡ Some g
goal_is ls g d = let f = goal_reads ls g in f.0 d

pub is_goal : (ls : List Lexeme) (g : GoalData) → goal_of ls ≡ Some g → IsGoal ls g
is_goal ls g e = let f = goal_reads ls g in f.1 e

-- what may follow before a word
pub description_before_word : (w : List ℕ) (ls : List Lexeme) → EndsDescription (Atom w ∷ ls)
description_before_word w ls = record {
  conjunction = record { part = record { simple = record { no_colon = refl; no_round = refl }; no_same_path = refl }; no_comma = refl };
  no_semicolon = refl;
}

pub goal_before_word : (w : List ℕ) (ls : List Lexeme) → EndsGoal (Atom w ∷ ls)
goal_before_word w ls = record {
  conjunction = record { part = record { simple = record { no_colon = refl; no_round = refl }; no_equals = refl }; no_comma = refl };
  no_then = refl;
  no_semicolon = refl;
}

pub description_before_end : EndsDescription []
description_before_end = record {
  conjunction = record { part = record { simple = record { no_colon = refl; no_round = refl }; no_same_path = refl }; no_comma = refl };
  no_semicolon = refl;
}

pub description_before_lexical : (ls : List Lexeme) → EndsDescription (Sign LexRuleArrow ∷ ls)
description_before_lexical ls = record {
  conjunction = record { part = record { simple = record { no_colon = refl; no_round = refl }; no_same_path = refl }; no_comma = refl };
  no_semicolon = refl;
}

pub description_before_rule : (ls : List Lexeme) → EndsDescription (Sign RuleArrow ∷ ls)
description_before_rule ls = record {
  conjunction = record { part = record { simple = record { no_colon = refl; no_round = refl }; no_same_path = refl }; no_comma = refl };
  no_semicolon = refl;
}

-- what may follow an element of a rule
pub record EndsElement (rest : List Lexeme) : Type 0 where
  pub part : EndsPart rest
  pub goal : EndsGoalPart rest

pub element_before_comma : (ls : List Lexeme) → EndsElement (Sign Comma ∷ ls)
element_before_comma ls = record {
  part = record { simple = record { no_colon = refl; no_round = refl }; no_same_path = refl };
  goal = record { simple = record { no_colon = refl; no_round = refl }; no_equals = refl };
}

pub element_before_end : EndsElement []
element_before_end = record {
  part = record { simple = record { no_colon = refl; no_round = refl }; no_same_path = refl };
  goal = record { simple = record { no_colon = refl; no_round = refl }; no_equals = refl };
}
