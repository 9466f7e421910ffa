use Rattle.std.proofs.Common.{◌≡◌, ◌-◌, length}
use Rattle.ale_term.specs.declared.symbol.Symbol.TheVariants.{Comma}
use Rattle.ale_term.specs.Reading.{more_at}
use Rattle.ale_declaration.specs.Reading.{piece_at, flat_behind}
use Rattle.ale_declaration.proofs.lines.more_pieces.Given as goal

abbrev pub invariant-loop-read : goal.invariant-loop-read
invariant-loop-read l = flat_behind l.found.items (more_at (length l.lexemes - l._read) Comma piece_at l.rest) ≡ flat_behind l.fn.first.items (more_at (length l.lexemes) Comma piece_at l.lexemes)
