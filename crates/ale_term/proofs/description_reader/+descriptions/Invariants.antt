use Rattle.std.proofs.Common.{◌≡◌, ◌+◌, ◌*◌, ◌-◌, map, length}
use Rattle.ale_term.specs.declared.symbol.Symbol.TheVariants.{Comma, Semicolon}
use Rattle.ale_term.specs.Terms.{term_data}
use Rattle.ale_term.specs.Reading.{more_at, part_at, conjunction_at, simple_of}
use Rattle.ale_term.proofs.Loops.{with_front}
use Rattle.ale_term.proofs.description_reader.+descriptions.Given as goal

abbrev pub decreases-simple : goal.decreases-simple
decreases-simple l = 10 * l.levels

abbrev pub decreases-part : goal.decreases-part
decreases-part l = 10 * l.levels + 1

abbrev pub decreases-more_parts : goal.decreases-more_parts
decreases-more_parts l = 10 * l.levels + 2

abbrev pub decreases-parts : goal.decreases-parts
decreases-parts l = 10 * l.levels + 3

abbrev pub decreases-conjunction : goal.decreases-conjunction
decreases-conjunction l = 10 * l.levels + 3

abbrev pub decreases-tail : goal.decreases-tail
decreases-tail l = 10 * l.levels + 3

abbrev pub decreases-more_disjuncts : goal.decreases-more_disjuncts
decreases-more_disjuncts l = 10 * l.levels + 4

abbrev pub decreases-disjunction : goal.decreases-disjunction
decreases-disjunction l = 10 * l.levels + 5

abbrev pub decreases-arguments : goal.decreases-arguments
decreases-arguments l = 10 * l.levels + 4

abbrev pub decreases-call_in : goal.decreases-call_in
decreases-call_in l = 10 * l.levels + 5

abbrev pub decreases-group : goal.decreases-group
decreases-group l = 10 * l.levels + 6

abbrev pub decreases-items : goal.decreases-items
decreases-items l = 10 * l.levels + 6

abbrev pub decreases-signed : goal.decreases-signed
decreases-signed l = 10 * l.levels + 7

abbrev pub decreases-unnamed : goal.decreases-unnamed
decreases-unnamed l = 10 * l.levels + 8

abbrev pub decreases-named : goal.decreases-named
decreases-named l = 10 * l.levels + 7

abbrev pub invariant-more_parts-loop-read : goal.invariant-more_parts-loop-read
invariant-more_parts-loop-read l = with_front (map term_data l.found.items) (more_at (length l.lexemes - l._read) Comma (part_at (simple_of l.levels)) l.rest) ≡ more_at (length l.lexemes) Comma (part_at (simple_of l.levels)) l.lexemes

abbrev pub invariant-more_disjuncts-loop-read : goal.invariant-more_disjuncts-loop-read
invariant-more_disjuncts-loop-read l = with_front (map term_data l.found.items) (more_at (length l.lexemes - l._read) Semicolon (conjunction_at (simple_of l.levels)) l.rest) ≡ more_at (length l.lexemes) Semicolon (conjunction_at (simple_of l.levels)) l.lexemes
