use Rattle.std.proofs.Common.{[], ◌∷◌, ◌-◌}
use Rattle.ale_hierarchy.specs.Order.{hierarchy}
use Rattle.ale_logic.specs.Descriptions.{description}
use Rattle.ale_logic.specs.Starts.{start}
use Rattle.ale_search.specs.Views.{waiting_of}
use Rattle.ale_search.proofs.Progress.{Searching}
use Rattle.ale_search.proofs.finding.find.Given as goal

abbrev pub invariant-loop-visits : goal.invariant-loop-visits
invariant-loop-visits l =
    Searching (hierarchy l.sig) l.budget (start l.slots (description l.desc) ∷ []) l.answers.items l.visits (waiting_of l.waiting.items)

abbrev pub decreases-loop-visits : goal.decreases-loop-visits
decreases-loop-visits l = l.budget - l.visits
