use Rattle.std.proofs.Common.{◌≡◌, true, false, Some, List, ℕ, sym, ap, ◌∙◌}
use Rattle.ale_declared.specs.Lists.{every}
use Rattle.ale_hierarchy.specs.Order.{hierarchy}
use Rattle.ale_graph.specs.declared.closed.Closed.{Closed}
use Rattle.ale_graph.specs.Closure.{is_kept_apart}
use Rattle.ale_graph.specs.Drafts.{class_in}
use Rattle.ale_graph.specs.Working.{lists_of}
use Rattle.ale_graph.proofs.ResultSteps.{close_none, close_met, close_done, draft_filled, merged_formed}
use Rattle.ale_graph.proofs.closure.close.Goals as goal

pub collapse-requires-clause-full : goal.collapse-requires-clause-full
collapse-requires-clause-full c =
    let first = rw c.in-Some.is at c.in_ok-first_step.ensures in
    (draft_filled (hierarchy c.args.sig.now) (lists_of c.in-Some.draft) (lists_of c.fill.new.draft) c.lawful.ensures first.draft c.in_ok-fill-in-Some.ensures.value).full

pub returns-in-None : goal.returns-in-None
returns-in-None c =
    let none = rw c.in-None.is at c.in_ok-first_step.ensures in
    sym (close_none (hierarchy c.args.sig.now) c.args.facts.now c.args.next none)

pub returns-then-not-are_kept_apart : goal.returns-then-not-are_kept_apart
returns-then-not-are_kept_apart c =
    let first = rw c.in-Some.is at c.in_ok-first_step.ensures in
    let met : every (is_kept_apart (class_in c.collapse.new.draft.class.items)) c.collapse.new.draft.facts.items ≡ false =
    ap (λ (z : List ℕ). every (is_kept_apart (class_in z)) c.collapse.new.draft.facts.items) (sym c.as_slice.ensures.value)
    ∙ ap (every (is_kept_apart (class_in c.as_slice.result.now))) (sym c.as_slice-in-Some.ensures.value)
    ∙ sym c.are_kept_apart.ensures ∙ c.if-not-are_kept_apart.true in
    sym (close_met (hierarchy c.args.sig.now) c.args.facts.now c.args.next (lists_of c.in-Some.draft) (lists_of c.fill.new.draft) (lists_of c.collapse.new.draft) first c.in_ok-fill-in-Some.ensures.value c.in_ok-collapse-in-Some.ensures.value met)

pub closed-requires-clause-formed : goal.closed-requires-clause-formed
closed-requires-clause-formed c =
    let first = rw c.in-Some.is at c.in_ok-first_step.ensures in
    let apart : every (is_kept_apart (class_in c.collapse.new.draft.class.items)) c.collapse.new.draft.facts.items ≡ true =
    ap (λ (z : List ℕ). every (is_kept_apart (class_in z)) c.collapse.new.draft.facts.items) (sym c.as_slice.ensures.value)
    ∙ ap (every (is_kept_apart (class_in c.as_slice.result.now))) (sym c.as_slice-in-Some.ensures.value)
    ∙ sym c.are_kept_apart.ensures ∙ c.if-not-are_kept_apart.false in
    merged_formed (hierarchy c.args.sig.now) (lists_of c.in-Some.draft) (lists_of c.fill.new.draft) (lists_of c.collapse.new.draft) c.lawful.ensures first.draft c.in_ok-fill-in-Some.ensures.value c.in_ok-collapse-in-Some.ensures.value apart

pub returns-in_ok-closed-in-Some : goal.returns-in_ok-closed-in-Some
returns-in_ok-closed-in-Some c =
    let first = rw c.in-Some.is at c.in_ok-first_step.ensures in
    let apart : every (is_kept_apart (class_in c.collapse.new.draft.class.items)) c.collapse.new.draft.facts.items ≡ true =
    ap (λ (z : List ℕ). every (is_kept_apart (class_in z)) c.collapse.new.draft.facts.items) (sym c.as_slice.ensures.value)
    ∙ ap (every (is_kept_apart (class_in c.as_slice.result.now))) (sym c.as_slice-in-Some.ensures.value)
    ∙ sym c.are_kept_apart.ensures ∙ c.if-not-are_kept_apart.false in
    ap (λ (z : Closed). Some z) c.in_ok-closed-in-Some.ensures
    ∙ sym (close_done (hierarchy c.args.sig.now) c.args.facts.now c.args.next (lists_of c.in-Some.draft) (lists_of c.fill.new.draft) (lists_of c.collapse.new.draft) first c.in_ok-fill-in-Some.ensures.value c.in_ok-collapse-in-Some.ensures.value apart)
