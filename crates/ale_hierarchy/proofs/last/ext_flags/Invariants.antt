use Rattle.std.proofs.Common.{◌≡◌}
use Rattle.ale_hierarchy.specs.Order.{is_ext}
use Rattle.ale_hierarchy.specs.Stages.{tabulated}
use Rattle.ale_hierarchy.proofs.last.ext_flags.Given as goal

abbrev pub invariant-loop-t : goal.invariant-loop-t
invariant-loop-t l = l.flags.items ≡ tabulated (is_ext l.order) l.t
