use Rattle.std.proofs.Common.{◌≡◌, ◌∷◌, [], ◌++◌, sym, ap, ◌∙◌, subst}
use Rattle.ale_hierarchy.specs.Order.{hierarchy}
use Rattle.ale_program.specs.Goals.{goal_data}
use Rattle.ale_logic.specs.Runs.{AreStates}
use Rattle.ale_logic.specs.Starts.{start_goal}
use Rattle.ale_run_law.proofs.First.{goal_starts}
use Rattle.ale_visit.specs.Views.{grammar}
use Rattle.ale_search.specs.Waiting.{waiting_of}
use Rattle.ale_search.proofs.Onward.{one_state}
use Rattle.ale_search.proofs.searching.Search.start_goal.Goals as goal

pub invariant_of-result : goal.invariant_of-result
invariant_of-result c none =
    let gr = grammar c.args.program.now in
    let one : waiting_of c.push.new.self.items ≡ start_goal c.args.slots (goal_data c.args.goal.now) ∷ [] =
    ap waiting_of (c.in_ok-push.ensures.items ∙ ap (λ z. z ++ c.in_ok-start_goal.field-0 ∷ []) c.new-waiting.ensures.items) ∙ ap (λ z. z ∷ []) c.in_ok-start_goal.ensures in
    subst (AreStates gr) (sym one) (one_state gr (start_goal c.args.slots (goal_data c.args.goal.now)) (goal_starts (hierarchy c.args.program.now.signature) c.args.slots (goal_data c.args.goal.now) c.requires).is.is)
