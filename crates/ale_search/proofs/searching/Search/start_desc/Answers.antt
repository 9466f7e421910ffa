use Rattle.std.proofs.Common.{◌≡◌, ◌∷◌, [], ◌++◌, sym, ap, ◌∙◌, subst}
use Rattle.ale_hierarchy.specs.Order.{hierarchy}
use Rattle.ale_logic.specs.Descriptions.{description}
use Rattle.ale_logic.specs.Runs.{AreStates}
use Rattle.ale_logic.specs.Starts.{start}
use Rattle.ale_run_law.proofs.First.{description_starts}
use Rattle.ale_visit.specs.Views.{grammar}
use Rattle.ale_search.specs.Waiting.{waiting_of}
use Rattle.ale_search.proofs.Onward.{one_state}
use Rattle.ale_search.proofs.searching.Search.start_desc.Goals as goal

pub invariant_of-result : goal.invariant_of-result
invariant_of-result c none =
    let gr = grammar c.args.program.now in
    let one : waiting_of c.push.new.self.items ≡ start c.args.slots (description c.args.desc.now) ∷ [] =
    ap waiting_of (c.in_ok-push.ensures.items ∙ ap (λ z. z ++ c.in_ok-start.field-0 ∷ []) c.new-waiting.ensures.items) ∙ ap (λ z. z ∷ []) c.in_ok-start.ensures in
    subst (AreStates gr) (sym one) (one_state gr (start c.args.slots (description c.args.desc.now)) (description_starts (hierarchy c.args.program.now.signature) c.args.slots (description c.args.desc.now) c.requires).is.is)
