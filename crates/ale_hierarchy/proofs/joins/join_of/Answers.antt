use Rattle.std.proofs.Common.{◌∙◌, sym, ap, subst, ℕ, List, Some}
use Rattle.ale_relation.specs.Has.{Has}
use Rattle.ale_hierarchy.proofs.StageLemmas.{directly_below-below}
use Rattle.ale_hierarchy.proofs.JoinTableLemmas.{IsDue-from, candidates-below, empty_list, join_back, join_without, join_top, join_lacking, has_element}
use Rattle.ale_hierarchy.proofs.HierarchyFaults.{HasJoins-found}
use Rattle.ale_hierarchy.proofs.joins.join_of.Goals as goal

pub returns-then-is_above-clause-value : goal.returns-then-is_above-clause-value
returns-then-is_above-clause-value c =
    ap Some c.of.ensures ∙ sym (join_back c.args.order.now c.args.a c.args.b c.is_above.ensures.ordered c.requires.a (sym c.is_above.ensures.value ∙ c.if-is_above.true)).0

pub returns-then-is_above-clause-least : goal.returns-then-is_above-clause-least
returns-then-is_above-clause-least c =
    (join_back c.args.order.now c.args.a c.args.b c.is_above.ensures.ordered c.requires.a (sym c.is_above.ensures.value ∙ c.if-is_above.true)).1

pub find_candidates-requires-clause-others : goal.find_candidates-requires-clause-others
find_candidates-requires-clause-others c =
    rw c.requires.below (directly_below-below c.args.order.now c.args.a c.is_above.ensures.ordered)

pub returns-then-is_empty-clause-value : goal.returns-then-is_empty-clause-value
returns-then-is_empty-clause-value c =
    let due = IsDue-from c.args.order.now c.args.rows.now c.args.a c.args.b c.args.below.now c.is_above.result c.is_above.ensures.ordered c.requires.a c.requires.b c.is_above.ensures.value c.if-is_above.false c.requires.below c.requires.filled in
    let is = c.as_slice-found.ensures.value ∙ c.in_ok-find_candidates.ensures in
    sym (join_without c.args.order.now c.args.a c.args.b c.args.below.now due (sym is ∙ empty_list c.as_slice-found.result.now c.is_empty.result c.is_empty.ensures c.if-is_empty.true)).0

pub returns-then-is_empty-clause-least : goal.returns-then-is_empty-clause-least
returns-then-is_empty-clause-least c =
    let due = IsDue-from c.args.order.now c.args.rows.now c.args.a c.args.b c.args.below.now c.is_above.result c.is_above.ensures.ordered c.requires.a c.requires.b c.is_above.ensures.value c.if-is_above.false c.requires.below c.requires.filled in
    let is = c.as_slice-found.ensures.value ∙ c.in_ok-find_candidates.ensures in
    (join_without c.args.order.now c.args.a c.args.b c.args.below.now due (sym is ∙ empty_list c.as_slice-found.result.now c.is_empty.result c.is_empty.ensures c.if-is_empty.true)).1

pub most_general-requires : goal.most_general-requires
most_general-requires c =
    let due = IsDue-from c.args.order.now c.args.rows.now c.args.a c.args.b c.args.below.now c.is_above.result c.is_above.ensures.ordered c.requires.a c.requires.b c.is_above.ensures.value c.if-is_above.false c.requires.below c.requires.filled in
    let is = c.as_slice-found.ensures.value ∙ c.in_ok-find_candidates.ensures in
    rw is (candidates-below c.args.order.now c.args.a c.args.b c.args.below.now due)

pub returns-in-Some-clause-value : goal.returns-in-Some-clause-value
returns-in-Some-clause-value c =
    let due = IsDue-from c.args.order.now c.args.rows.now c.args.a c.args.b c.args.below.now c.is_above.result c.is_above.ensures.ordered c.requires.a c.requires.b c.is_above.ensures.value c.if-is_above.false c.requires.below c.requires.filled in
    let is = c.as_slice-found.ensures.value ∙ c.in_ok-find_candidates.ensures in
    let top = rw is at (sym c.most_general.ensures ∙ c.in-Some.is) in
    sym (join_top c.args.order.now c.args.a c.args.b c.args.below.now c.in-Some.j due top).0

pub returns-in-Some-clause-least : goal.returns-in-Some-clause-least
returns-in-Some-clause-least c =
    let due = IsDue-from c.args.order.now c.args.rows.now c.args.a c.args.b c.args.below.now c.is_above.result c.is_above.ensures.ordered c.requires.a c.requires.b c.is_above.ensures.value c.if-is_above.false c.requires.below c.requires.filled in
    let is = c.as_slice-found.ensures.value ∙ c.in_ok-find_candidates.ensures in
    let top = rw is at (sym c.most_general.ensures ∙ c.in-Some.is) in
    (join_top c.args.order.now c.args.a c.args.b c.args.below.now c.in-Some.j due top).1

pub returns-in-None-clause-refused : goal.returns-in-None-clause-refused
returns-in-None-clause-refused c =
    λ _ no_fault.
    let due = IsDue-from c.args.order.now c.args.rows.now c.args.a c.args.b c.args.below.now c.is_above.result c.is_above.ensures.ordered c.requires.a c.requires.b c.is_above.ensures.value c.if-is_above.false c.requires.below c.requires.filled in
    let is = c.as_slice-found.ensures.value ∙ c.in_ok-find_candidates.ensures in
    let none = rw is at (sym c.most_general.ensures ∙ c.in-None.is) in
    let some = has_element c.as_slice-found.result.now c.is_empty.result c.is_empty.ensures c.if-is_empty.false in
    join_lacking c.args.order.now c.args.a c.args.b c.args.below.now some.0 due (subst (λ (js : List ℕ). Has js some.0) is some.1) none (HasJoins-found c.args.order.now c.is_above.ensures.ordered no_fault)
