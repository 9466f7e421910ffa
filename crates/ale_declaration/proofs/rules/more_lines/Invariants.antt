use Rattle.std.proofs.Common.{◌≡◌, ◌-◌, length}
use Rattle.ale_term.specs.declared.symbol.Symbol.TheVariants.{Comma}
use Rattle.ale_term.specs.Reading.{more_at}
use Rattle.ale_declaration.specs.Reading.{line_at}
use Rattle.ale_term.proofs.Loops.{with_front}
use Rattle.ale_declaration.proofs.rules.more_lines.Given as goal

abbrev pub invariant-loop-read : goal.invariant-loop-read
invariant-loop-read l = with_front l.found.items (more_at (length l.lexemes - l._read) Comma line_at l.rest) ≡ more_at (length l.lexemes) Comma line_at l.lexemes
