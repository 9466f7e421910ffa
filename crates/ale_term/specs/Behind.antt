-- What stands after the bracket that closes the innermost one still open, found by counting brackets alone. It
-- doesn't matter of which of the two kinds a bracket is.
use Rattle.std.specs.Prelude.{ℕ, zero, suc, Bool, true, false, if◌then◌else◌, Option, Some, None, List, [], ◌∷◌}
use Rattle.ale_term.specs.declared.symbol.Symbol.{Symbol}
use Rattle.ale_term.specs.declared.symbol.Symbol.TheVariants.{RuleArrow, WordArrow, FunctionArrow, LexRuleArrow, OtherThan, SamePath, Identical, Neck, Then, NotProved, Equals, Colon, Comma, Semicolon, OpenRound, CloseRound, OpenSquare, CloseSquare, Bar, MacroSign, Exclamation, Slash, Greater}
use Rattle.ale_term.specs.declared.lexeme.Lexeme.{Lexeme}
use Rattle.ale_term.specs.declared.lexeme.Lexeme.TheVariants.{Atom, Quoted, Variable, Number, Sign, Other, End}

-- whether a symbol opens or closes a bracket
abbrev pub opens : Symbol → Bool
opens RuleArrow = false
opens WordArrow = false
opens FunctionArrow = false
opens LexRuleArrow = false
opens OtherThan = false
opens SamePath = false
opens Identical = false
opens Neck = false
opens Then = false
opens NotProved = false
opens Equals = false
opens Colon = false
opens Comma = false
opens Semicolon = false
opens OpenRound = true
opens CloseRound = false
opens OpenSquare = true
opens CloseSquare = false
opens Bar = false
opens MacroSign = false
opens Exclamation = false
opens Slash = false
opens Greater = false

abbrev pub closes : Symbol → Bool
closes RuleArrow = false
closes WordArrow = false
closes FunctionArrow = false
closes LexRuleArrow = false
closes OtherThan = false
closes SamePath = false
closes Identical = false
closes Neck = false
closes Then = false
closes NotProved = false
closes Equals = false
closes Colon = false
closes Comma = false
closes Semicolon = false
closes OpenRound = false
closes CloseRound = true
closes OpenSquare = false
closes CloseSquare = true
closes Bar = false
closes MacroSign = false
closes Exclamation = false
closes Slash = false
closes Greater = false

abbrev pub one_less : ℕ → Option ℕ
one_less zero = None
one_less (suc n) = Some n

-- how many brackets are open after the lexeme, where so many were before it, apart from one; None where it closes
-- that one
abbrev pub depth_behind : Lexeme → ℕ → Option ℕ
depth_behind (Sign s) n = if opens s then Some (suc n) else if closes s then one_less n else Some n
depth_behind (Atom t) n = Some n
depth_behind (Quoted t) n = Some n
depth_behind (Variable t) n = Some n
depth_behind (Number t) n = Some n
depth_behind Other n = Some n
depth_behind End n = Some n

-- the lexemes after a lexeme where it closes the last bracket, else what `later` has of those still open
abbrev pub unless_closed : Option ℕ → List Lexeme → (ℕ → List Lexeme) → List Lexeme
unless_closed None ls later = ls
unless_closed (Some n) ls later = later n

-- after the bracket that closes the last, where so many others are open
abbrev pub behind : ℕ → List Lexeme → List Lexeme
behind n [] = []
behind n (l ∷ ls) = unless_closed (depth_behind l n) ls (λ k. behind k ls)
