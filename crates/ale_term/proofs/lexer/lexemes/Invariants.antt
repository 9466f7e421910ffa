use Rattle.std.proofs.Common.{◌≡◌, ◌++◌, drop}
use Rattle.ale_term.specs.Lexemes.{lexemes}
use Rattle.ale_term.proofs.lexer.lexemes.Given as goal

abbrev pub invariant-loop-token : goal.invariant-loop-token
invariant-loop-token l = l.found.items ++ lexemes l.text (drop l.token-index l.tokens) ≡ lexemes l.text l.tokens
