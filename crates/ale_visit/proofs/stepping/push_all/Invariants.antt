use Rattle.std.proofs.Common.{◌≡◌, ◌≤◌, ◌++◌, map, drop, length}
use Rattle.ale_logic.specs.Descriptions.{description, descriptions_of}
use Rattle.ale_logic.specs.DescriptionKids.{items_at}
use Rattle.ale_visit.specs.Views.{agenda_of}
use Rattle.ale_visit.proofs.stepping.push_all.Given as goal

abbrev pub invariant-loop-left : goal.invariant-loop-left
invariant-loop-left l =
    (l.left ≤ length l.descs) × (agenda_of l.agenda.items ≡ items_at l.env l.node (descriptions_of (map description (drop l.left l.descs))) ++ agenda_of l.fn.agenda.items)

abbrev pub decreases-loop-left : goal.decreases-loop-left
decreases-loop-left l = l.left
