use Rattle.std.proofs.Common.{◌≡◌, ◌≤◌, ◌++◌, length}
use Rattle.ale_visit.specs.Views.{agenda_of}
use Rattle.ale_visit.proofs.Turned.{from_place}
use Rattle.ale_visit.proofs.goals.push_each.Given as goal

abbrev pub invariant-loop-left : goal.invariant-loop-left
invariant-loop-left l =
    (l.left ≤ length l.descs) × (l.left ≤ l.count) × (agenda_of l.agenda.items ≡ from_place l.env l.descs l.first l.count l.left ++ agenda_of l.fn.agenda.items)

abbrev pub decreases-loop-left : goal.decreases-loop-left
decreases-loop-left l = l.left
