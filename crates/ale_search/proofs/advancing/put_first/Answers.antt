use Rattle.std.proofs.Common.{◌++◌, sym, ap, ◌∙◌}
use Rattle.ale_visit.specs.Views.{states_of}
use Rattle.ale_search.specs.Waiting.{waiting_of}
use Rattle.ale_search.proofs.Stacked.{put_one}
use Rattle.ale_search.proofs.advancing.put_first.Goals as goal

pub loop-state-preserved : goal.loop-state-preserved
loop-state-preserved c =
    ap (λ z. states_of c.pop.new.self.items ++ waiting_of z) c.in_ok-push.ensures.items
    ∙ put_one c.pop.new.self.items c.in-Some.state c.loop-state.waiting.items
    ∙ ap (λ z. states_of z ++ waiting_of c.loop-state.waiting.items) (sym c.in-Some.ensures.items)
    ∙ c.loop-state.invariant
