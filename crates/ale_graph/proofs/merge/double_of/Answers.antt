use Rattle.std.proofs.Common.{ℕ, ◌≤◌, ◌<◌, List, sym, ap, ◌∙◌, length, arith, rules}
use Rattle.ale_hierarchy.specs.Order.{hierarchy}
use Rattle.ale_graph.specs.Drafts.{class_in, type_in}
use Rattle.ale_graph.specs.Working.{lists_of}
use Rattle.ale_graph.proofs.MergeSteps.{none_more, row_some, row_none, row_other, row_plain}
use Rattle.ale_graph.proofs.merge.double_of.Goals as goal

pub returns-then-class_of-a : goal.returns-then-class_of-a
returns-then-class_of-a c =
    sym (row_other (hierarchy c.args.sig.now) (lists_of c.args.draft.now) c.requires.draft c.args.a
    (λ e. c.if-class_of-a.true (c.class_of.ensures ∙ ap (λ (z : List ℕ). class_in z c.args.a) c.as_slice.ensures.value ∙ e)))

pub returns-then-not-is_ext : goal.returns-then-not-is_ext
returns-then-not-is_ext c =
    let of = c.type_of.ensures ∙ ap (λ (z : List ℕ). type_in z c.args.a) c.as_slice-2.ensures.value in
    sym (row_plain (hierarchy c.args.sig.now) (lists_of c.args.draft.now) c.requires.draft c.args.a
    (ap (hierarchy c.args.sig.now).is_ext (sym of) ∙ sym c.is_ext.ensures ∙ c.if-not-is_ext.true))

pub returns-then-is_like : goal.returns-then-is_like
returns-then-is_like c =
    let of = c.type_of.ensures ∙ ap (λ (z : List ℕ). type_in z c.args.a) c.as_slice-2.ensures.value in
    let below : c.loop-b.b < length c.args.draft.now.class.items = search rules in
    sym (row_some (hierarchy c.args.sig.now) (lists_of c.args.draft.now) c.requires.draft c.args.a c.loop-b.b (omega arith) below
    (ap (λ (z : List ℕ). class_in z c.args.a) (sym c.as_slice.ensures.value) ∙ sym c.class_of.ensures ∙ c.if-class_of-a.false)
    (ap (hierarchy c.args.sig.now).is_ext (sym of) ∙ sym c.is_ext.ensures ∙ c.if-not-is_ext.false)
    c.loop-b.invariant (sym c.is_like.ensures ∙ c.if-is_like.true))

pub loop-b-preserved : goal.loop-b-preserved
loop-b-preserved c =
    none_more (hierarchy c.args.sig.now) (lists_of c.args.draft.now) c.requires.draft c.args.a c.loop-b.b c.loop-b.invariant (sym c.is_like.ensures ∙ c.if-is_like.false)

pub returns : goal.returns
returns c =
    let le : length c.args.draft.now.class.items ≤ c.loop-b.b = search rules in
    sym (row_none (hierarchy c.args.sig.now) (lists_of c.args.draft.now) c.requires.draft c.args.a c.loop-b.b le c.loop-b.invariant)
