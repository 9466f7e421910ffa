use Rattle.std.proofs.Common.{◌≡◌, length}
use Rattle.ale_hierarchy.specs.Order.{hierarchy}
use Rattle.ale_graph.specs.Classes.{class_sum}
use Rattle.ale_graph.specs.Collapsing.{collapse}
use Rattle.ale_graph.specs.Drafts.{class_in}
use Rattle.ale_graph.specs.Keeping.{IsFull}
use Rattle.ale_graph.specs.Working.{IsDraft, lists_of, filled_of}
use Rattle.ale_graph.proofs.merge.collapse.Given as goal

abbrev pub invariant-doubles : goal.invariant-doubles
invariant-doubles l = record {
  draft : IsDraft (hierarchy l.sig) (lists_of l.draft);
  full : IsFull (hierarchy l.sig) (filled_of (lists_of l.draft));
  same : collapse (hierarchy l.sig) (filled_of (lists_of l.draft)) ≡ collapse (hierarchy l.sig) (filled_of (lists_of l.fn.draft));
}

abbrev pub decreases-doubles : goal.decreases-doubles
decreases-doubles l = class_sum (length l.draft.class.items) (class_in l.draft.class.items)
