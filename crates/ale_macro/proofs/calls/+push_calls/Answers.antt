use Rattle.std.proofs.Common.{◌≡◌, [], ◌∷◌, ◌++◌, map, sym, ap, ◌∙◌}
use Rattle.ale_macro.specs.Templates.{template_data, templates_of, call}
use Rattle.ale_macro.specs.Calls.{calls_in, pairs}
use Rattle.ale_macro.specs.Codes.{data_call}
use Rattle.ale_macro.proofs.Loops.{calls_left, pushed, pushed_next, pushed_before}
use Rattle.ale_macro.proofs.calls.+push_calls.Goals as goal

pub loop-conjunct-preserved : goal.loop-conjunct-preserved
loop-conjunct-preserved t c =
    pushed_next c.as_slice-conjunct-items.result.now c.loop-conjunct.conjunct-index c.conjunct-item.result c.args.m _ _ _ c.loop-conjunct-test.true c.conjunct-item.is
    c.in_ok-push_calls-in-All.ensures c.loop-conjunct.invariant

pub loop-disjunct-preserved : goal.loop-disjunct-preserved
loop-disjunct-preserved t c =
    pushed_next c.as_slice-disjunct-items.result.now c.loop-disjunct.disjunct-index c.disjunct-item.result c.args.m _ _ _ c.loop-disjunct-test.true c.disjunct-item.is
    c.in_ok-push_calls-in-Any.ensures c.loop-disjunct.invariant

pub loop-arg-init : goal.loop-arg-init
loop-arg-init t c =
    let of_call : template_data c.args.template.now ≡ call c.in-Call.field-0 c.in-Call.called (templates_of (map template_data c.as_slice-arg-items.result.now)) =
    ap template_data c.in-Call.is
    ∙ (data_call c.in-Call.field-0 c.in-Call.called c.in-Call.args
    ∙ ap (λ ts. call c.in-Call.field-0 c.in-Call.called (templates_of (map template_data ts))) (sym c.as_slice-arg-items.ensures)) in
    pushed c.args.m (c.in-Call.called ∷ []) (calls_left c.as_slice-arg-items.result.now) c.args.calls.now.items c.push.new.self.items
    (c.args.calls.now.items ++ pairs c.args.m (calls_in (template_data c.args.template.now))) c.in_ok-push-in-Call.ensures.items
    (ap (λ d. c.args.calls.now.items ++ pairs c.args.m (calls_in d)) (sym of_call))

pub loop-arg-preserved : goal.loop-arg-preserved
loop-arg-preserved t c =
    pushed_next c.as_slice-arg-items.result.now c.loop-arg.arg-index c.arg-item.result c.args.m _ _ _ c.loop-arg-test.true c.arg-item.is
    c.in_ok-push_calls-in-Call.ensures c.loop-arg.invariant

pub loop-member-preserved : goal.loop-member-preserved
loop-member-preserved t c =
    pushed_before c.as_slice-member-items.result.now c.loop-member.member-index c.member-item.result c.args.m _ _ _ _ c.loop-member-test.true c.member-item.is
    c.in_ok-push_calls-in-Cells.ensures c.loop-member.invariant
