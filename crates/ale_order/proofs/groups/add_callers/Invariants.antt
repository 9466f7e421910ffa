use Rattle.std.proofs.Common.{◌≡◌, drop}
use Rattle.ale_order.specs.Groups.{with_callers}
use Rattle.ale_order.proofs.groups.add_callers.Given as goal

abbrev pub invariant-loop-caller : goal.invariant-loop-caller
invariant-loop-caller l =
    with_callers l.r (drop l.caller-index l.callers) (record { groups = l.groups.items; waiting = l.waiting }) ≡ with_callers l.r l.callers (record { groups = l.initial.groups.items; waiting = l.initial.waiting })
