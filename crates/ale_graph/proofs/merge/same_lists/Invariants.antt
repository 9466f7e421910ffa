use Rattle.std.proofs.Common.{◌≡◌, drop}
use Rattle.ale_graph.specs.Drafts.{class_in, same_lists}
use Rattle.ale_graph.proofs.merge.same_lists.Given as goal

abbrev pub invariant-loop-i : goal.invariant-loop-i
invariant-loop-i l = same_lists (class_in l.class) (drop l.i l.first) (drop l.i l.second) ≡ same_lists (class_in l.class) l.first l.second
