-- Commands as they are written, as plain data, and their forms over lexemes.
-- Source: the commands of the ALE 3.2 User's Guide, in this project's own profile.
use Rattle.std.specs.Prelude.{◌≡◌, ◌≤◌, ℕ, Some, List, [], ◌∷◌, codes, length}
use Rattle.ale_term.specs.declared.symbol.Symbol.TheVariants.{Slash}
use Rattle.ale_term.specs.declared.lexeme.Lexeme.{Lexeme}
use Rattle.ale_term.specs.declared.lexeme.Lexeme.TheVariants.{Atom, Number, Sign}
use Rattle.ale_term.specs.Terms.{TermData, term_data}
use Rattle.ale_term.specs.Goals.{GoalData, goal_data}
use Rattle.ale_term.specs.Grammar.{atom_name, IsPath, IsDescription, IsGoal}
use Rattle.ale_form.specs.Numbers.{held}
use Rattle.ale_command.specs.declared.command_term.CommandTerm.{CommandTerm}
use Rattle.ale_command.specs.declared.command_term.CommandTerm.TheVariants as kind

pub data CommandData : Type 0 where
  mgsat : TermData → CommandData
  query : GoalData → CommandData
  lex : List ℕ → CommandData
  rec : List (List ℕ) → CommandData
  gen : TermData → CommandData
  code : List ℕ → ℕ → CommandData

-- the plain data of a command of the program
abbrev pub command_data : CommandTerm → CommandData
command_data (kind.Mgsat t) = mgsat (term_data t)
command_data (kind.Query g) = query (goal_data g)
command_data (kind.Lex w) = lex w
command_data (kind.Rec ws) = rec ws
command_data (kind.Gen t) = gen (term_data t)
command_data (kind.Code p n) = code p n

-- a word of the language; it is never quoted
abbrev pub keyword : List ℕ → Lexeme
keyword w = Atom w

-- the lexemes are this command
pub data IsCommand : List Lexeme → CommandData → Type 0 where
  satisfiers : (xs : List Lexeme) (t : TermData) → IsDescription xs t → IsCommand (keyword (codes "mgsat") ∷ xs) (mgsat t)
  proofs : (xs : List Lexeme) (g : GoalData) → IsGoal xs g → IsCommand (keyword (codes "query") ∷ xs) (query g)
  entries : (l : Lexeme) (w : List ℕ) → atom_name l ≡ Some w → IsCommand (keyword (codes "lex") ∷ l ∷ []) (lex w)
  parses : (xs : List Lexeme) (ws : List (List ℕ)) → IsPath xs ws → IsCommand (keyword (codes "rec") ∷ xs) (rec ws)
  sentences : (xs : List Lexeme) (t : TermData) → IsDescription xs t → IsCommand (keyword (codes "gen") ∷ xs) (gen t)
  instructions : (l : Lexeme) (p : List ℕ) (cs : List ℕ) → atom_name l ≡ Some p → length cs ≤ 9 →
      IsCommand (keyword (codes "code") ∷ l ∷ Sign Slash ∷ Number cs ∷ []) (code p (held cs))
