use Rattle.std.proofs.Common.{◌≤◌, ◌∙◌, sym, ap, length, arith}
use Rattle.std.specs.Option.{option_map}
use Rattle.ale_hierarchy.specs.Accepted.{restriction_edges}
use Rattle.ale_hierarchy.specs.declared.fault.Fault.TheVariants.{Loop}
use Rattle.ale_hierarchy.proofs.AcceptedLemmas.{EndsBelow-restriction_edges}
use Rattle.ale_hierarchy.proofs.StageLemmas.{ends_below-from}
use Rattle.ale_signature.proofs.StageFaults.{loop_is}
use Rattle.ale_signature.proofs.sizes.first_loop.Goals as goal

pub reachability-requires-clause-small : goal.reachability-requires-clause-small
reachability-requires-clause-small c =
    let few : length c.args.order.now.types ≤ 4096 = c.type_count.ensures.ordered.few_types in
    omega arith

pub reachability-requires-clause-within : goal.reachability-requires-clause-within
reachability-requires-clause-within c =
    rw (c.type_count.ensures.value, c.as_slice.ensures.value, c.in_ok-edges.ensures) (ends_below-from (length c.args.order.now.types) (restriction_edges c.args.order.now) (EndsBelow-restriction_edges c.args.order.now c.type_count.ensures.ordered.numbered))

pub returns-in-Some : goal.returns-in-Some
returns-in-Some c =
    let leads = rw (c.as_slice.ensures.value, c.in_ok-edges.ensures) at c.in_ok-leads.ensures.leads in
    sym (loop_is c.args.order.now c.in_ok-leads.leads c.type_count.result c.type_count.ensures.ordered.numbered c.type_count.ensures.value c.in_ok-leads.ensures.size leads
    ∙ ap (option_map Loop) (sym c.first_cycle.ensures ∙ c.in-Some.is))

pub returns : goal.returns
returns c =
    let leads = rw (c.as_slice.ensures.value, c.in_ok-edges.ensures) at c.in_ok-leads.ensures.leads in
    sym (loop_is c.args.order.now c.in_ok-leads.leads c.type_count.result c.type_count.ensures.ordered.numbered c.type_count.ensures.value c.in_ok-leads.ensures.size leads
    ∙ ap (option_map Loop) (sym c.first_cycle.ensures ∙ c.in-None.is))
