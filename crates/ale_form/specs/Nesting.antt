-- How deep lexemes nest. It is counted from 0: an opening bracket and each of ":", "=\=", "\+" and "->" add 1. What
-- separates parts goes back to the count of its level, which is the one just after the innermost bracket that is still
-- open, or 0, and 1 more for each "->" since then that stands in no bracket closed again. A closing bracket, of either
-- kind, goes back to the count before the innermost one that is open.
-- Source: this project's own profile.
use Rattle.std.specs.Prelude.{ℕ, suc, Bool, ◌||◌, List, [], ◌∷◌, max, nat_lt}
use Rattle.ale_term.specs.declared.symbol.Symbol.{Symbol}
use Rattle.ale_term.specs.declared.symbol.Symbol.TheVariants.{RuleArrow, WordArrow, FunctionArrow, LexRuleArrow, OtherThan, SamePath, Identical, Neck, Then, NotProved, Equals, Colon, Comma, Semicolon, OpenRound, CloseRound, OpenSquare, CloseSquare, Bar, MacroSign, Exclamation, Slash, Greater}
use Rattle.ale_term.specs.declared.lexeme.Lexeme.{Lexeme}
use Rattle.ale_term.specs.declared.lexeme.Lexeme.TheVariants.{Atom, Quoted, Variable, Number, Sign, Other, End}

-- the most that a declaration or a command may nest
unfoldable pub nesting_limit : ℕ
nesting_limit = 200

-- the count, that of the level, and the two for each open bracket as they were before it, innermost first
pub record Depth : Type 0 where
  pub count : ℕ
  pub level : ℕ
  pub around : List (ℕ × ℕ)

abbrev pub at_start : Depth
at_start = record { count = 0; level = 0; around = [] }

abbrev pub deeper : Depth → Depth
deeper d = record d { count = suc d.count }

abbrev pub behind_then : Depth → Depth
behind_then d = record d { count = suc d.count; level = suc d.level }

abbrev pub separated : Depth → Depth
separated d = record d { count = d.level }

abbrev pub opened : Depth → Depth
opened d = record { count = suc d.count; level = suc d.count; around = (d.count, d.level) ∷ d.around }

abbrev pub closed_to : Depth → List (ℕ × ℕ) → Depth
closed_to d [] = d
closed_to d (o ∷ os) = record { count = o.0; level = o.1; around = os }

abbrev pub behind_sign : Symbol → Depth → Depth
behind_sign OpenRound d = opened d
behind_sign OpenSquare d = opened d
behind_sign CloseRound d = closed_to d d.around
behind_sign CloseSquare d = closed_to d d.around
behind_sign Colon d = deeper d
behind_sign OtherThan d = deeper d
behind_sign NotProved d = deeper d
behind_sign Then d = behind_then d
behind_sign Comma d = separated d
behind_sign Semicolon d = separated d
behind_sign Bar d = separated d
behind_sign RuleArrow d = d
behind_sign WordArrow d = d
behind_sign FunctionArrow d = d
behind_sign LexRuleArrow d = d
behind_sign SamePath d = d
behind_sign Identical d = d
behind_sign Neck d = d
behind_sign Equals d = d
behind_sign MacroSign d = d
behind_sign Exclamation d = d
behind_sign Slash d = d
behind_sign Greater d = d

abbrev pub behind : Lexeme → Depth → Depth
behind (Sign s) d = behind_sign s d
behind (Atom n) d = d
behind (Quoted n) d = d
behind (Variable n) d = d
behind (Number n) d = d
behind Other d = d
behind End d = d

-- the greatest count from there on
abbrev pub deepest : Depth → List Lexeme → ℕ
deepest d [] = d.count
deepest d (l ∷ ls) = max d.count (deepest (behind l d) ls)

abbrev pub nesting : List Lexeme → ℕ
nesting ls = deepest at_start ls

-- whether the count passes the limit anywhere from there on
abbrev pub passes : ℕ → Depth → List Lexeme → Bool
passes limit d [] = nat_lt limit d.count
passes limit d (l ∷ ls) = nat_lt limit d.count || passes limit (behind l d) ls
