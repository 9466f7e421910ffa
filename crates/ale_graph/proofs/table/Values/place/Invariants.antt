use Rattle.std.proofs.Common.{◌≡◌, ℕ, take, drop, ◌++◌}
use Rattle.ale_graph.specs.Drafts.{insert_value}
use Rattle.ale_graph.proofs.table.Values.place.Given as goal

abbrev pub invariant-loop-i : goal.invariant-loop-i
invariant-loop-i l =
    (m : ℕ) → take l.i l.value-items ++ insert_value (drop l.i l.value-items) l.feature m ≡ insert_value l.value-items l.feature m
