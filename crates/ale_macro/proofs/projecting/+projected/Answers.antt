use Rattle.std.proofs.Common.{◌≡◌, length, map, sym, ap, ◌∙◌}
use Rattle.std.proofs.lemmas.Bool.{ltb-true}
use Rattle.ale_macro.specs.Templates.{template_data, templates_of, call}
use Rattle.ale_macro.specs.Projections.{projected, entry_at}
use Rattle.ale_macro.specs.Codes.{data_call}
use Rattle.ale_macro.proofs.Arguments.{no_place, no_argument, an_argument}
use Rattle.ale_macro.proofs.projecting.+projected.Goals as goal

pub returns-in_err-place-in-Call : goal.returns-in_err-place-in-Call
returns-in_err-place-in-Call t c =
    let of_call : template_data c.args.template.now ≡ call c.in-Call.field-0 c.in-Call.m (templates_of (map template_data c.in-Call.args)) =
    ap template_data c.in-Call.is ∙ data_call c.in-Call.field-0 c.in-Call.m c.in-Call.args in
    c.from_residual.ensures
    ∙ (no_place (entry_at c.args.known.now) c.args.parameters c.in-Call.field-0 c.in-Call.m c.in-Call.args c.in_err-place-in-Call.ensures
    ∙ ap (projected (entry_at c.args.known.now) c.args.parameters) (sym of_call))

pub returns-in_err-arg-in-Call : goal.returns-in_err-arg-in-Call
returns-in_err-arg-in-Call t c =
    let of_call : template_data c.args.template.now ≡ call c.in-Call.field-0 c.in-Call.m (templates_of (map template_data c.as_slice.result.now)) =
    ap template_data c.in-Call.is
    ∙ (data_call c.in-Call.field-0 c.in-Call.m c.in-Call.args
    ∙ ap (λ ts. call c.in-Call.field-0 c.in-Call.m (templates_of (map template_data ts))) (sym c.as_slice.ensures)) in
    c.from_residual-in_err-arg-in-Call.ensures
    ∙ (no_argument (entry_at c.args.known.now) c.args.parameters c.in-Call.field-0 c.in-Call.m c.in_ok-place-in-Call.place c.as_slice.result.now
    c.in_ok-place-in-Call.ensures c.in_err-arg-in-Call.ensures.lookup.3
    ∙ ap (projected (entry_at c.args.known.now) c.args.parameters) (sym of_call))

pub returns-in_ok-arg-in-Call : goal.returns-in_ok-arg-in-Call
returns-in_ok-arg-in-Call t c =
    let of_call : template_data c.args.template.now ≡ call c.in-Call.field-0 c.in-Call.m (templates_of (map template_data c.as_slice.result.now)) =
    ap template_data c.in-Call.is
    ∙ (data_call c.in-Call.field-0 c.in-Call.m c.in-Call.args
    ∙ ap (λ ts. call c.in-Call.field-0 c.in-Call.m (templates_of (map template_data ts))) (sym c.as_slice.ensures)) in
    c.projected.ensures
    ∙ (an_argument (entry_at c.args.known.now) c.args.parameters c.in-Call.field-0 c.in-Call.m c.in_ok-place-in-Call.place c.as_slice.result.now c.in_ok-arg-in-Call.arg.now
    c.in_ok-place-in-Call.ensures (ltb-true c.in_ok-place-in-Call.place (length c.as_slice.result.now) (sym c.in_ok-arg-in-Call.ensures.lookup.0)) c.in_ok-arg-in-Call.ensures.lookup.1
    ∙ ap (projected (entry_at c.args.known.now) c.args.parameters) (sym of_call))
