-- The symbols of the language, by their characters. Source: the ALE 3.2 User's Guide.
use Rattle.std.specs.Prelude.{ℕ, Option, Some, None, List, if◌then◌else◌, codes}
use Rattle.std.specs.Str.{bytes_eq}
use Rattle.ale_term.specs.declared.symbol.Symbol.{Symbol}
use Rattle.ale_term.specs.declared.symbol.Symbol.TheVariants.{RuleArrow, WordArrow, FunctionArrow, LexRuleArrow, OtherThan, SamePath, Identical, Neck, Then, NotProved, Equals, Colon, Comma, Semicolon, OpenRound, CloseRound, OpenSquare, CloseSquare, Bar, MacroSign, Exclamation, Slash, Greater}

-- the symbol of one character
abbrev pub short_symbol : List ℕ → Option Symbol
short_symbol cs =
    if bytes_eq cs (codes "=") then Some Equals
    else if bytes_eq cs (codes ":") then Some Colon
    else if bytes_eq cs (codes ",") then Some Comma
    else if bytes_eq cs (codes ";") then Some Semicolon
    else if bytes_eq cs (codes "(") then Some OpenRound
    else if bytes_eq cs (codes ")") then Some CloseRound
    else if bytes_eq cs (codes "[") then Some OpenSquare
    else if bytes_eq cs (codes "]") then Some CloseSquare
    else if bytes_eq cs (codes "|") then Some Bar
    else if bytes_eq cs (codes "@") then Some MacroSign
    else if bytes_eq cs (codes "!") then Some Exclamation
    else if bytes_eq cs (codes "/") then Some Slash
    else if bytes_eq cs (codes ">") then Some Greater
    else None

-- the symbol with these characters
abbrev pub symbol_of : List ℕ → Option Symbol
symbol_of cs =
    if bytes_eq cs (codes "===>") then Some RuleArrow
    else if bytes_eq cs (codes "--->") then Some WordArrow
    else if bytes_eq cs (codes "+++>") then Some FunctionArrow
    else if bytes_eq cs (codes "**>") then Some LexRuleArrow
    else if bytes_eq cs (codes "=\\=") then Some OtherThan
    else if bytes_eq cs (codes "==") then Some SamePath
    else if bytes_eq cs (codes "=@") then Some Identical
    else if bytes_eq cs (codes ":-") then Some Neck
    else if bytes_eq cs (codes "->") then Some Then
    else if bytes_eq cs (codes "\\+") then Some NotProved
    else short_symbol cs
