use Rattle.std.proofs.Common.{◌≡◌, length}
use Rattle.ale_graph.specs.Classes.{class_sum}
use Rattle.ale_graph.specs.Drafts.{class_in}
use Rattle.ale_graph.proofs.Classes.{IsJoining}
use Rattle.ale_graph.proofs.join.join_all.Given as goal

abbrev pub invariant-passes : goal.invariant-passes
invariant-passes l = record {
  joining : IsJoining l.facts l.next (class_in l.class.items);
  class_length : length l.class.items ≡ l.next;
}

abbrev pub decreases-passes : goal.decreases-passes
decreases-passes l = class_sum l.next (class_in l.class.items)
