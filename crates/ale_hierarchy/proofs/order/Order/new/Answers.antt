use Rattle.std.proofs.Common.{◌≤◌, ◌∙◌, sym, ap, Some, length, arith}
use Rattle.std.specs.Option.{option_map}
use Rattle.ale_hierarchy.specs.Faults.{limit_fault, cycle_fault}
use Rattle.ale_hierarchy.specs.declared.fault.Fault.TheVariants.{SubCycle}
use Rattle.ale_hierarchy.proofs.StageLemmas.{ends_below-from, TellsLeads-from}
use Rattle.ale_hierarchy.proofs.FaultLemmas.{limit_none, cycle_none}
use Rattle.ale_hierarchy.proofs.HierarchyFaults.{cycle_is, refuses_as, refuses_after}
use Rattle.ale_hierarchy.proofs.order.Order.new.Goals as goal

pub reachability-requires-clause-small : goal.reachability-requires-clause-small
reachability-requires-clause-small c =
    let few : length c.args.outline.types ≤ 4096 = (limit_none c.args.outline (sym c.past_limit.ensures ∙ c.in_default.is)).few_types in
    omega arith

pub reachability-requires-clause-within : goal.reachability-requires-clause-within
reachability-requires-clause-within c =
    rw (c.type_count.ensures, c.edges.ensures) (ends_below-from (length c.args.outline.types) c.args.outline.edges c.requires.edges)

pub returns-in-Some-first_cycle-clause-refused : goal.returns-in-Some-first_cycle-clause-refused
returns-in-Some-first_cycle-clause-refused c =
    let d = c.args.outline in
    let tells = TellsLeads-from d c.in_ok-leads.leads c.edges.result.now c.type_count.result c.type_count.ensures c.edges.ensures c.in_ok-leads.ensures.size c.in_ok-leads.ensures.leads in
    refuses_after d (limit_fault d) (cycle_fault d) c.refusal-in-Some-first_cycle.result (sym c.past_limit.ensures ∙ c.in_default.is)
    (refuses_as d (Some (SubCycle c.in-Some-first_cycle.t)) (cycle_fault d) c.refusal-in-Some-first_cycle.result
    (sym (cycle_is d c.in_ok-leads.leads c.requires tells ∙ ap (option_map SubCycle) (sym c.first_cycle.ensures ∙ c.in-Some-first_cycle.is)))
    c.refusal-in-Some-first_cycle.ensures)

pub invariant_of-result : goal.invariant_of-result
invariant_of-result c =
    let d = c.args.outline in
    let tells = TellsLeads-from d c.in_ok-leads.leads c.edges.result.now c.type_count.result c.type_count.ensures c.edges.ensures c.in_ok-leads.ensures.size c.in_ok-leads.ensures.leads in
    let limits = limit_none d (sym c.past_limit.ensures ∙ c.in_default.is) in
    record {
      ordered = record {
        numbered = c.requires;
        few_types = limits.few_types;
        few_features = limits.few_features;
        no_cycle = cycle_none d c.requires (cycle_is d c.in_ok-leads.leads c.requires tells ∙ ap (option_map SubCycle) (sym c.first_cycle.ensures ∙ c.in_default-first_cycle.is));
      };
      tells = tells;
    }
