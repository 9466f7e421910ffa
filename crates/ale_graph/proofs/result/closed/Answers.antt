use Rattle.std.proofs.Common.{◌≡◌, length, rules, ◌∙◌}
use Rattle.ale_hierarchy.specs.Order.{hierarchy}
use Rattle.ale_graph.specs.Working.{lists_of}
use Rattle.ale_graph.proofs.ResultSteps.{closed_is}
use Rattle.ale_graph.proofs.result.closed.Goals as goal

pub returns : goal.returns
returns c =
    let facts = c.of.ensures in
    let class = c.of-2.ensures in
    let next : c.len-next.result ≡ length c.args.draft.class.items = search rules in
    (λ i. record { facts = facts i; next = next i; class = class i; graph = c.in_ok-graph.graph })
    ∙ closed_is (hierarchy c.args.sig.now) (lists_of c.args.draft) c.in_ok-graph.graph c.in_ok-graph.ensures
