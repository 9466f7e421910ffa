use Rattle.std.proofs.Common.{◌≡◌, Some, None, length, get_or, sym, ap, ◌∙◌}
use Rattle.ale_macro.specs.Templates.{template_data, at, all, any, differs, path_equation, call, cells}
use Rattle.ale_macro.specs.Codes.{data_at, data_all, data_any, data_differs, data_meet, data_call, data_cells}
use Rattle.ale_macro.specs.Sizes.{parts_by, tallied_by}
use Rattle.ale_macro.proofs.Counted.{templates, count_within, count_paths, count_begins, count_goes_on, use_begins, use_goes_on, use_ends, list_goes_on}
use Rattle.ale_macro.proofs.counting.+count.Goals as goal

pub loop-conjunct-init : goal.loop-conjunct-init
loop-conjunct-init t c =
    let of_several : template_data c.args.template.now ≡ all (templates c.as_slice-conjunct-items.result.now) =
    ap template_data c.in-All.is ∙ (data_all c.in-All.templates ∙ ap (λ ts. all (templates ts)) (sym c.as_slice-conjunct-items.ensures)) in
    record {
      uses = ap (λ u. length u.items) c.add-in-All.ensures.uses;
      left = count_begins c.args.known.now c.as_slice-conjunct-items.result.now (template_data c.args.template.now) c.args.times c.args.tally.now c.add-in-All.new.self
          (λ xs. ap (parts_by (tallied_by c.args.known.now) xs) of_several) (c.add-in-All.ensures.own, c.add-in-All.ensures.uses);
    }

pub loop-conjunct-preserved : goal.loop-conjunct-preserved
loop-conjunct-preserved t c = record {
  uses = c.count-in-loop-conjunct.ensures.uses ∙ c.loop-conjunct.invariant.uses;
  left = count_goes_on c.args.known.now c.as_slice-conjunct-items.result.now c.loop-conjunct.conjunct-index c.conjunct-item.result (template_data c.args.template.now) c.args.times
      c.args.tally.now c.loop-conjunct.tally c.count-in-loop-conjunct.new.tally c.loop-conjunct-test.true c.conjunct-item.is c.loop-conjunct.invariant.uses c.count-in-loop-conjunct.ensures.parts c.loop-conjunct.invariant.left;
}

pub loop-disjunct-init : goal.loop-disjunct-init
loop-disjunct-init t c =
    let of_several : template_data c.args.template.now ≡ any (templates c.as_slice-disjunct-items.result.now) =
    ap template_data c.in-Any.is ∙ (data_any c.in-Any.templates ∙ ap (λ ts. any (templates ts)) (sym c.as_slice-disjunct-items.ensures)) in
    record {
      uses = ap (λ u. length u.items) c.add-in-Any.ensures.uses;
      left = count_begins c.args.known.now c.as_slice-disjunct-items.result.now (template_data c.args.template.now) c.args.times c.args.tally.now c.add-in-Any.new.self
          (λ xs. ap (parts_by (tallied_by c.args.known.now) xs) of_several) (c.add-in-Any.ensures.own, c.add-in-Any.ensures.uses);
    }

pub loop-disjunct-preserved : goal.loop-disjunct-preserved
loop-disjunct-preserved t c = record {
  uses = c.count-in-loop-disjunct.ensures.uses ∙ c.loop-disjunct.invariant.uses;
  left = count_goes_on c.args.known.now c.as_slice-disjunct-items.result.now c.loop-disjunct.disjunct-index c.disjunct-item.result (template_data c.args.template.now) c.args.times
      c.args.tally.now c.loop-disjunct.tally c.count-in-loop-disjunct.new.tally c.loop-disjunct-test.true c.disjunct-item.is c.loop-disjunct.invariant.uses c.count-in-loop-disjunct.ensures.parts c.loop-disjunct.invariant.left;
}

pub loop-place-init : goal.loop-place-init
loop-place-init t c =
    let of_call : template_data c.args.template.now ≡ call c.in-Call.field-0 c.in-Call.m (templates c.as_slice-arg-items.result.now) =
    ap template_data c.in-Call.is ∙ (data_call c.in-Call.field-0 c.in-Call.m c.in-Call.args ∙ ap (λ ts. call c.in-Call.field-0 c.in-Call.m (templates ts)) (sym c.as_slice-arg-items.ensures)) in
    let found : get_or c.args.known.now c.in-Call.m None ≡ Some c.in-Some-Some.called = sym (c.in-Some-Some.ensures.lookup.3.1 None) ∙ c.in-Some-Some.field-0-is in
    record {
      uses = ap (λ u. length u.items) c.add-in-Call.ensures.uses;
      left = use_begins c.args.known.now c.in-Some-Some.called c.in-Call.field-0 c.in-Call.m c.as_slice-arg-items.result.now (template_data c.args.template.now) c.args.times c.product-in-Call.result
          c.args.tally.now c.add-in-Call.new.self of_call found c.product-in-Call.ensures (c.add-in-Call.ensures.own, c.add-in-Call.ensures.uses);
    }

pub loop-place-preserved : goal.loop-place-preserved
loop-place-preserved t c = record {
  uses = c.count-in-loop-place.ensures.uses ∙ c.loop-place.invariant.uses;
  left = use_goes_on c.args.known.now c.in-Some-Some.called.uses.items c.as_slice-arg-items.result.now c.loop-place.place c.arg-item.result (template_data c.args.template.now) c.args.times
      c.uses_at.result c.product-in-loop-place.result c.args.tally.now c.loop-place.tally c.count-in-loop-place.new.tally c.loop-place-test.true c.arg-item.is
      (c.uses_at.ensures ∙ ap (λ ys. get_or ys c.loop-place.place 0) c.deref.ensures.value) c.product-in-loop-place.ensures c.loop-place.invariant.uses c.count-in-loop-place.ensures.parts c.loop-place.invariant.left;
}

pub returns-after-loop-place-clause-parts : goal.returns-after-loop-place-clause-parts
returns-after-loop-place-clause-parts t c =
    use_ends c.args.known.now c.in-Some-Some.called.uses.items c.as_slice-arg-items.result.now c.loop-place.place (template_data c.args.template.now) c.args.times c.args.tally.now c.loop-place.tally
    c.loop-place-test.false c.loop-place.invariant.left

pub loop-member-preserved : goal.loop-member-preserved
loop-member-preserved t c = record {
  uses = c.count-in-loop-member.ensures.uses ∙ (ap (λ u. length u.items) c.add-in-loop-member.ensures.uses ∙ c.loop-member.invariant.uses);
  left = list_goes_on c.args.known.now c.as_slice-member-items.result.now c.loop-member.member-index c.member-item.result (template_data c.in-Cells.end) (template_data c.args.template.now) c.args.times
      c.product-in-loop-member.result c.args.tally.now c.loop-member.tally c.add-in-loop-member.new.self c.count-in-loop-member.new.tally c.loop-member-test.true c.member-item.is
      c.product-in-loop-member.ensures (c.add-in-loop-member.ensures.own, c.add-in-loop-member.ensures.uses) c.loop-member.invariant.uses c.count-in-loop-member.ensures.parts c.loop-member.invariant.left;
}

pub returns-in-At-clause-parts : goal.returns-in-At-clause-parts
returns-in-At-clause-parts t c =
    let of_one : template_data c.args.template.now ≡ at c.in-At.field-0 (template_data c.get.result.now) =
    ap template_data c.in-At.is ∙ (data_at c.in-At.field-0 c.in-At.inner ∙ ap (λ d. at c.in-At.field-0 (template_data d)) (sym c.get.ensures)) in
    count_within c.args.known.now (template_data c.args.template.now) (template_data c.get.result.now) c.args.times c.args.tally.now c.add-in-At.new.self c.count.new.tally
    (λ xs. ap (parts_by (tallied_by c.args.known.now) xs) of_one) (c.add-in-At.ensures.own, c.add-in-At.ensures.uses) c.count.ensures.parts

pub returns-in-Differs-clause-parts : goal.returns-in-Differs-clause-parts
returns-in-Differs-clause-parts t c =
    let of_one : template_data c.args.template.now ≡ differs (template_data c.get-in-Differs.result.now) =
    ap template_data c.in-Differs.is ∙ (data_differs c.in-Differs.inner ∙ ap (λ d. differs (template_data d)) (sym c.get-in-Differs.ensures)) in
    count_within c.args.known.now (template_data c.args.template.now) (template_data c.get-in-Differs.result.now) c.args.times c.args.tally.now c.add-in-Differs.new.self c.count-in-Differs.new.tally
    (λ xs. ap (parts_by (tallied_by c.args.known.now) xs) of_one) (c.add-in-Differs.ensures.own, c.add-in-Differs.ensures.uses) c.count-in-Differs.ensures.parts

pub returns-in-Meet-clause-parts : goal.returns-in-Meet-clause-parts
returns-in-Meet-clause-parts t c =
    let of_paths : template_data c.args.template.now ≡ path_equation c.as_slice.result.now c.as_slice-in-Meet.result.now =
    ap template_data c.in-Meet.is ∙ (data_meet c.in-Meet.first c.in-Meet.second
    ∙ (ap (λ p. path_equation p c.in-Meet.second) (sym c.as_slice.ensures) ∙ ap (path_equation c.as_slice.result.now) (sym c.as_slice-in-Meet.ensures))) in
    count_paths c.args.known.now (template_data c.args.template.now) c.as_slice.result.now c.as_slice-in-Meet.result.now c.args.times c.product.result c.product-in-Meet.result
    c.args.tally.now c.add-in-Meet.new.self c.add-in-Meet-2.new.self c.add-in-Meet-3.new.self (λ xs. ap (parts_by (tallied_by c.args.known.now) xs) of_paths) c.product.ensures c.product-in-Meet.ensures
    (c.add-in-Meet.ensures.own, c.add-in-Meet.ensures.uses) (c.add-in-Meet-2.ensures.own, c.add-in-Meet-2.ensures.uses) (c.add-in-Meet-3.ensures.own, c.add-in-Meet-3.ensures.uses)
