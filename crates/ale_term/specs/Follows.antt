-- A form at the start of lexemes, and what may not stand after it, since the form would go on with it. Each record
-- says this of one form of specs/Grammar.
use Rattle.std.specs.Prelude.{◌≡◌, ℕ, Some, None, List, ◌++◌, Result}
use Rattle.ale_term.specs.declared.error.ReadError.{ReadError}
use Rattle.ale_term.specs.declared.symbol.Symbol.TheVariants.{SamePath, Then, Equals, Colon, Comma, Semicolon, OpenRound}
use Rattle.ale_term.specs.declared.lexeme.Lexeme.{Lexeme}
use Rattle.ale_term.specs.Results.{Gives}
use Rattle.ale_term.specs.Terms.{TermData}
use Rattle.ale_term.specs.Grammar.{IsCall}
use Rattle.ale_term.specs.Reading.{past}

-- the form stands at the start, and stands for the first of the two; the second are the lexemes after it
abbrev pub Front : {A : Type 0} → (List Lexeme → A → Type 0) → List Lexeme → A × List Lexeme → Type 0
Front One zs p = (xs : List Lexeme) × (zs ≡ xs ++ p.1) × One xs p.0

-- a call that reads has read this at the start, with the rest after it, unless memory ran out
abbrev pub HasRead : {A B : Type 0} → (A → B × List Lexeme) → Result A ReadError → B → List Lexeme → Type 0
HasRead view result b rest = Gives view result (Some (b, rest))

-- a call as a pair of its name and its arguments
abbrev pub IsCallPair : List Lexeme → List ℕ × List TermData → Type 0
IsCallPair xs c = IsCall xs c.0 c.1

-- after an atom neither ":" nor "(" stands
pub record EndsSimple (rest : List Lexeme) : Type 0 where
  pub no_colon : past Colon rest ≡ None
  pub no_round : past OpenRound rest ≡ None

-- nor "==" after what may be a path
pub record EndsPart (rest : List Lexeme) : Type 0 where
  pub simple : EndsSimple rest
  pub no_same_path : past SamePath rest ≡ None

pub record EndsConjunction (rest : List Lexeme) : Type 0 where
  pub part : EndsPart rest
  pub no_comma : past Comma rest ≡ None

pub record EndsDescription (rest : List Lexeme) : Type 0 where
  pub conjunction : EndsConjunction rest
  pub no_semicolon : past Semicolon rest ≡ None

-- nor "=" after a goal that may be a description
pub record EndsGoalPart (rest : List Lexeme) : Type 0 where
  pub simple : EndsSimple rest
  pub no_equals : past Equals rest ≡ None

pub record EndsGoalConjunction (rest : List Lexeme) : Type 0 where
  pub part : EndsGoalPart rest
  pub no_comma : past Comma rest ≡ None

pub record EndsGoal (rest : List Lexeme) : Type 0 where
  pub conjunction : EndsGoalConjunction rest
  pub no_then : past Then rest ≡ None
  pub no_semicolon : past Semicolon rest ≡ None
