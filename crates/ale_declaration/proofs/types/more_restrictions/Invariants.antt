use Rattle.std.proofs.Common.{◌≡◌, ◌-◌, length}
use Rattle.ale_term.specs.declared.symbol.Symbol.TheVariants.{Comma}
use Rattle.ale_term.specs.Reading.{more_at}
use Rattle.ale_declaration.specs.Reading.{restriction_at}
use Rattle.ale_term.proofs.Loops.{with_front}
use Rattle.ale_declaration.proofs.types.more_restrictions.Given as goal

abbrev pub invariant-loop-read : goal.invariant-loop-read
invariant-loop-read l = with_front l.found.items (more_at (length l.lexemes - l._read) Comma restriction_at l.rest) ≡ more_at (length l.lexemes) Comma restriction_at l.lexemes
