use Rattle.std.proofs.Common.{◌≡◌, ℕ, ◌<◌, None, length}
use Rattle.ale_declared.specs.Lists.{upto}
use Rattle.ale_hierarchy.specs.Order.{hierarchy}
use Rattle.ale_graph.specs.Settled.{first_some}
use Rattle.ale_graph.specs.Collapsing.{double}
use Rattle.ale_graph.specs.Working.{lists_of, filled_of}
use Rattle.ale_graph.proofs.merge.first_double.Given as goal

abbrev pub invariant-loop-a : goal.invariant-loop-a
invariant-loop-a l = (k : ℕ) → k < l.a → first_some (double (hierarchy l.sig) (filled_of (lists_of l.draft)) k) (upto (length l.draft.class.items)) ≡ None
