use Rattle.std.proofs.Common.{◌↔◌, drop}
use Rattle.ale_order.specs.Groups.{HasInGroup}
use Rattle.ale_order.proofs.groups.has_in_group.Given as goal

abbrev pub invariant-loop-k : goal.invariant-loop-k
invariant-loop-k l =
    HasInGroup l.groups l.group (drop l.k-index l.row) ↔ HasInGroup l.groups l.group l.row
