use Rattle.std.proofs.Common.{◌≡◌, length}
use Rattle.ale_declaration.specs.Distinct.{distinct_after}
use Rattle.ale_declaration.specs.Reading.{are_distinct}
use Rattle.ale_declaration.proofs.list.are_distinct.Given as goal

abbrev pub invariant-loop-rest : goal.invariant-loop-rest
invariant-loop-rest l = distinct_after l.seen l.rest ≡ are_distinct l.names

abbrev pub decreases-loop-rest : goal.decreases-loop-rest
decreases-loop-rest l = length l.rest
