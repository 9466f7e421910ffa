use Rattle.std.proofs.Common.{◌≡◌, ◌-◌, length, map}
use Rattle.ale_term.specs.declared.symbol.Symbol.TheVariants.{Comma}
use Rattle.ale_term.specs.Reading.{more_at}
use Rattle.ale_term.proofs.Loops.{with_front}
use Rattle.ale_declaration.specs.Declarations.{element_data}
use Rattle.ale_declaration.specs.Reading.{rule_part_at}
use Rattle.ale_declaration.proofs.rules.more_rule_parts.Given as goal

abbrev pub invariant-loop-read : goal.invariant-loop-read
invariant-loop-read l = with_front (map element_data l.found.items) (more_at (length l.lexemes - l._read) Comma rule_part_at l.rest) ≡ more_at (length l.lexemes) Comma rule_part_at l.lexemes
