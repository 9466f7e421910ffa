-- What the tokens of a text stand for to the grammar: a name without its quotes, a variable, a number, a symbol,
-- an end, or something that no form has. A text is the list of its bytes, as the places of tokens count them.
use Rattle.std.specs.Prelude.{ℕ, Option, Some, None, List, map}
use Rattle.ale_token.specs.declared.token.Kind.{Kind}
use Rattle.ale_token.specs.declared.token.Kind.TheVariants as kind
use Rattle.ale_token.specs.declared.token.Token.{Token}
use Rattle.ale_token.specs.Names.{name_of}
use Rattle.ale_token.specs.Places.{spelling}
use Rattle.ale_term.specs.declared.symbol.Symbol.{Symbol}
use Rattle.ale_term.specs.declared.lexeme.Lexeme.{Lexeme}
use Rattle.ale_term.specs.declared.lexeme.Lexeme.TheVariants.{Atom, Quoted, Variable, Number, Sign, Other, End}
use Rattle.ale_term.specs.Symbols.{symbol_of}

abbrev pub sign_of : Option Symbol → Lexeme
sign_of None = Other
sign_of (Some s) = Sign s

-- the lexeme that a token of this kind with these characters stands for
abbrev pub lexeme_of : Kind → List ℕ → Lexeme
lexeme_of kind.Atom cs = Atom cs
lexeme_of kind.Quoted cs = Quoted (name_of kind.Quoted cs)
lexeme_of kind.Variable cs = Variable cs
lexeme_of kind.Number cs = Number cs
lexeme_of kind.Symbol cs = sign_of (symbol_of cs)
lexeme_of kind.Other cs = Other
lexeme_of kind.End cs = End

-- the lexeme of a token of a text
abbrev pub lexeme : List ℕ → Token → Lexeme
lexeme text t = lexeme_of t.kind (spelling text t)

-- the lexemes of tokens of a text
abbrev pub lexemes : List ℕ → List Token → List Lexeme
lexemes text ts = map (lexeme text) ts
