use Rattle.std.proofs.Common.{◌≡◌, ◌-◌, length}
use Rattle.ale_term.specs.declared.symbol.Symbol.TheVariants.{Comma}
use Rattle.ale_term.specs.Reading.{more_at, variable_at}
use Rattle.ale_term.proofs.Loops.{with_front}
use Rattle.ale_declaration.proofs.clauses.more_variables.Given as goal

abbrev pub invariant-loop-read : goal.invariant-loop-read
invariant-loop-read l = with_front l.found.items (more_at (length l.lexemes - l._read) Comma variable_at l.rest) ≡ more_at (length l.lexemes) Comma variable_at l.lexemes
