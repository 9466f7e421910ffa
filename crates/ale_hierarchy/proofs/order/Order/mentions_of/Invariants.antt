use Rattle.std.proofs.Common.{◌≡◌, ◌++◌, drop}
use Rattle.ale_hierarchy.specs.Stages.{mentions_of}
use Rattle.ale_hierarchy.proofs.order.Order.mentions_of.Given as goal

abbrev pub invariant-loop-mention : goal.invariant-loop-mention
invariant-loop-mention l = l.found.items ++ mentions_of (drop l.mention-index l.mention-items) l.feature ≡ mentions_of l.mention-items l.feature
