use Rattle.std.proofs.Common.{◌≡◌, map, take, drop, ◌++◌}
use Rattle.ale_graph.specs.Drafts.{renamed}
use Rattle.ale_graph.proofs.partition.rename.Given as goal

abbrev pub invariant-loop-number : goal.invariant-loop-number
invariant-loop-number l =
    l.number-items ≡ map (renamed l.from l.to) (take l.number-index l.initial.number-items) ++ drop l.number-index l.initial.number-items
