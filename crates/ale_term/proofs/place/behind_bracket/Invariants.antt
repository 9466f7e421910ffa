-- No more brackets are open than lexemes were passed, and what is behind the last is the same.
use Rattle.std.proofs.Common.{◌≡◌, ◌≤◌, ◌+◌, length}
use Rattle.ale_term.specs.Behind.{behind}
use Rattle.ale_term.proofs.place.behind_bracket.Given as goal

abbrev pub invariant-loop-rest : goal.invariant-loop-rest
invariant-loop-rest l = record {
  within : l.depth + length l.rest ≤ length l.lexemes;
  later : behind l.depth l.rest ≡ behind 0 l.lexemes;
}

abbrev pub decreases-loop-rest : goal.decreases-loop-rest
decreases-loop-rest l = length l.rest
