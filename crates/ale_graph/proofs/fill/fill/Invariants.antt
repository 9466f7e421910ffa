use Rattle.std.proofs.Common.{◌≡◌, ℕ, ◌+◌, ◌-◌, ◌<◌, ◌≤◌, None, length}
use Rattle.ale_hierarchy.specs.Order.{hierarchy}
use Rattle.ale_graph.specs.Filling.{gap, debt, fill}
use Rattle.ale_graph.specs.Working.{IsDraft, lists_of, filled_of}
use Rattle.ale_graph.proofs.fill.fill.Given as goal

abbrev pub invariant-classes : goal.invariant-classes
invariant-classes l = record {
  draft : IsDraft (hierarchy l.sig) (lists_of l.draft);
  same : fill (hierarchy l.sig) (filled_of (lists_of l.draft)) ≡ fill (hierarchy l.sig) (filled_of (lists_of l.fn.draft));
  done : (k f : ℕ) → k < l.class → f < (hierarchy l.sig).features → gap (hierarchy l.sig) (filled_of (lists_of l.draft)) k f ≡ None;
  within : l.class ≤ length l.draft.class.items;
}

abbrev pub decreases-classes : goal.decreases-classes
decreases-classes l = debt (hierarchy l.sig) (filled_of (lists_of l.draft)) + length l.draft.class.items - l.class
