use Rattle.std.proofs.Common.{◌≡◌, ◌<◌, ◌∙◌, sym, ap, ℕ, List, false, length, get_or, arith}
use Rattle.ale_declared.specs.declared.decl.Mention.{Mention}
use Rattle.ale_hierarchy.specs.Stages.{mentions_of}
use Rattle.ale_hierarchy.specs.Faults.{clashes}
use Rattle.ale_hierarchy.specs.declared.fault.Fault.TheVariants.{ValueClash}
use Rattle.ale_hierarchy.proofs.StageLemmas.{mentions_of-within}
use Rattle.ale_hierarchy.proofs.TabulatedLemmas.{length-tabulated, get_or-tabulated}
use Rattle.ale_hierarchy.proofs.JoinTableLemmas.{below_next}
use Rattle.ale_hierarchy.proofs.AnswerLemmas.{test_first, test_clear}
use Rattle.ale_signature.proofs.ClashLemmas.{clash_tested}
use Rattle.ale_signature.proofs.witnesses.clash_of.Goals as goal

pub bounds-mentions-f : goal.bounds-mentions-f
bounds-mentions-f c =
    let long : length c.args.mentions.now ≡ length c.args.order.now.features = ap length c.requires.mentions ∙ length-tabulated (mentions_of c.args.order.now.mentions) (length c.args.order.now.features) in
    omega arith

pub has_clash-requires-clause-mentions : goal.has_clash-requires-clause-mentions
has_clash-requires-clause-mentions c =
    let inside : c.loop-f.f < length c.args.order.now.features = omega arith in
    let is = c.as_slice.ensures ∙ c.index-mentions-f.is ∙ ap (λ (xs : List (List Mention)). get_or xs c.loop-f.f c.index-mentions-f.result) c.requires.mentions ∙ get_or-tabulated (mentions_of c.args.order.now.mentions) (length c.args.order.now.features) c.loop-f.f c.index-mentions-f.result inside in
    rw is (mentions_of-within c.args.order.now c.loop-f.f c.feat_count-f-end.ensures.ordered)

pub returns-then-branch : goal.returns-then-branch
returns-then-branch c =
    let inside : c.loop-f.f < length c.args.order.now.features = omega arith in
    let is = c.as_slice.ensures ∙ c.index-mentions-f.is ∙ ap (λ (xs : List (List Mention)). get_or xs c.loop-f.f c.index-mentions-f.result) c.requires.mentions ∙ get_or-tabulated (mentions_of c.args.order.now.mentions) (length c.args.order.now.features) c.loop-f.f c.index-mentions-f.result inside in
    let told = rw is at c.in_ok-has_clash.ensures in
    sym (test_first (clashes c.args.order.now c.args.t) (ValueClash c.args.t) (length c.args.order.now.features) c.loop-f.f inside
    (sym (clash_tested c.args.order.now c.args.t c.loop-f.f) ∙ sym told ∙ c.if-branch.true) c.loop-f.invariant)

pub loop-f-preserved : goal.loop-f-preserved
loop-f-preserved c =
    let inside : c.loop-f.f < length c.args.order.now.features = omega arith in
    let is = c.as_slice.ensures ∙ c.index-mentions-f.is ∙ ap (λ (xs : List (List Mention)). get_or xs c.loop-f.f c.index-mentions-f.result) c.requires.mentions ∙ get_or-tabulated (mentions_of c.args.order.now.mentions) (length c.args.order.now.features) c.loop-f.f c.index-mentions-f.result inside in
    let told = rw is at c.in_ok-has_clash.ensures in
    below_next (λ (f : ℕ). clashes c.args.order.now c.args.t f ≡ false) c.loop-f.f c.loop-f.invariant
    (sym (clash_tested c.args.order.now c.args.t c.loop-f.f) ∙ sym told ∙ c.if-branch.false)

pub returns : goal.returns
returns c =
    sym (test_clear (clashes c.args.order.now c.args.t) (ValueClash c.args.t) (length c.args.order.now.features) (λ f h. c.loop-f.invariant f (omega arith)))
