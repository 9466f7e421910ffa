use Rattle.std.proofs.Common.{◌≡◌, drop, map, ◌++◌}
use Rattle.ale_declared.specs.Names.{number}
use Rattle.ale_declared.proofs.written.push_numbers.Given as goal

abbrev pub invariant-loop-name : goal.invariant-loop-name
invariant-loop-name l = l.numbers.items ++ map (number l.types) (drop l.name-index l.names) ≡ l.initial.numbers.items ++ map (number l.types) l.names
