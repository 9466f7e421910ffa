use Rattle.std.proofs.Common.{◌≡◌, ◌+◌, max, min, Some, None, length, get_or, refl, sym, ap, ◌∙◌, subst}
use Rattle.ale_macro.specs.Templates.{template_data, of_type, variable, at, all, any, differs, path_equation, call, cells}
use Rattle.ale_macro.specs.Codes.{data_type, data_variable, data_at, data_all, data_any, data_differs, data_meet, data_call, data_cells}
use Rattle.ale_macro.specs.Sizes.{nesting_by, reached, reached_by, NearPlace, Reaches}
use Rattle.ale_macro.proofs.Counted.{templates}
use Rattle.ale_macro.proofs.Reached.{reach_leaf, reach_within, reach_begins, reach_goes_on, reach_ends, place_begins, place_goes_on, place_ends, nest_begins, nest_goes_on, nest_ends}
use Rattle.ale_macro.proofs.reaching.+reach.Goals as goal

pub loop-conjunct-init : goal.loop-conjunct-init
loop-conjunct-init t c =
    let of_several : template_data c.args.template.now ≡ all (templates c.as_slice-conjunct-items.result.now) =
    ap template_data c.in-All.is ∙ (data_all c.in-All.templates ∙ ap (λ ts. all (templates ts)) (sym c.as_slice-conjunct-items.ensures)) in
    record {
      places = ap (λ u. length u.items) c.add-in-All.ensures.places;
      left = reach_begins c.args.known.now c.as_slice-conjunct-items.result.now (template_data c.args.template.now) c.in-Some.above c.below-inside.result c.args.depth.now c.add-in-All.new.self
          (λ xs. ap (nesting_by (reached_by c.args.known.now) xs) of_several) c.below-inside.ensures (c.add-in-All.ensures.own, c.add-in-All.ensures.places);
    }

pub loop-conjunct-preserved : goal.loop-conjunct-preserved
loop-conjunct-preserved t c = record {
  places = c.reach-in-loop-conjunct.ensures.places ∙ c.loop-conjunct.invariant.places;
  left = reach_goes_on c.args.known.now c.as_slice-conjunct-items.result.now c.loop-conjunct.conjunct-index c.conjunct-item.result (template_data c.args.template.now) c.in-Some.above c.below-inside.result
      c.args.depth.now c.loop-conjunct.depth c.reach-in-loop-conjunct.new.depth c.loop-conjunct-test.true c.conjunct-item.is c.loop-conjunct.invariant.places c.reach-in-loop-conjunct.ensures.nesting c.loop-conjunct.invariant.left;
}

pub returns-after-loop-conjunct-clause-nesting : goal.returns-after-loop-conjunct-clause-nesting
returns-after-loop-conjunct-clause-nesting t c =
    subst (λ p. Reaches c.args.known.now (template_data c.args.template.now) p c.args.depth.now c.loop-conjunct.depth) (sym c.in-Some.is)
    (reach_ends c.args.known.now c.as_slice-conjunct-items.result.now c.loop-conjunct.conjunct-index (template_data c.args.template.now) c.in-Some.above c.below-inside.result c.args.depth.now c.loop-conjunct.depth c.loop-conjunct-test.false c.loop-conjunct.invariant.left)

pub loop-disjunct-init : goal.loop-disjunct-init
loop-disjunct-init t c =
    let of_several : template_data c.args.template.now ≡ any (templates c.as_slice-disjunct-items.result.now) =
    ap template_data c.in-Any.is ∙ (data_any c.in-Any.templates ∙ ap (λ ts. any (templates ts)) (sym c.as_slice-disjunct-items.ensures)) in
    record {
      places = ap (λ u. length u.items) c.add-in-Any.ensures.places;
      left = reach_begins c.args.known.now c.as_slice-disjunct-items.result.now (template_data c.args.template.now) c.in-Some.above c.below-inside-in-Any.result c.args.depth.now c.add-in-Any.new.self
          (λ xs. ap (nesting_by (reached_by c.args.known.now) xs) of_several) c.below-inside-in-Any.ensures (c.add-in-Any.ensures.own, c.add-in-Any.ensures.places);
    }

pub loop-disjunct-preserved : goal.loop-disjunct-preserved
loop-disjunct-preserved t c = record {
  places = c.reach-in-loop-disjunct.ensures.places ∙ c.loop-disjunct.invariant.places;
  left = reach_goes_on c.args.known.now c.as_slice-disjunct-items.result.now c.loop-disjunct.disjunct-index c.disjunct-item.result (template_data c.args.template.now) c.in-Some.above c.below-inside-in-Any.result
      c.args.depth.now c.loop-disjunct.depth c.reach-in-loop-disjunct.new.depth c.loop-disjunct-test.true c.disjunct-item.is c.loop-disjunct.invariant.places c.reach-in-loop-disjunct.ensures.nesting c.loop-disjunct.invariant.left;
}

pub returns-after-loop-disjunct-clause-nesting : goal.returns-after-loop-disjunct-clause-nesting
returns-after-loop-disjunct-clause-nesting t c =
    subst (λ p. Reaches c.args.known.now (template_data c.args.template.now) p c.args.depth.now c.loop-disjunct.depth) (sym c.in-Some.is)
    (reach_ends c.args.known.now c.as_slice-disjunct-items.result.now c.loop-disjunct.disjunct-index (template_data c.args.template.now) c.in-Some.above c.below-inside-in-Any.result c.args.depth.now c.loop-disjunct.depth c.loop-disjunct-test.false c.loop-disjunct.invariant.left)

pub returns-in-At-clause-nesting : goal.returns-in-At-clause-nesting
returns-in-At-clause-nesting t c =
    let of_one : template_data c.args.template.now ≡ at c.in-At.field-0 (template_data c.get.result.now) =
    ap template_data c.in-At.is ∙ (data_at c.in-At.field-0 c.in-At.inner ∙ ap (λ d. at c.in-At.field-0 (template_data d)) (sym c.get.ensures)) in
    subst (λ p. Reaches c.args.known.now (template_data c.args.template.now) p c.args.depth.now c.reach.new.depth) (sym c.in-Some.is)
    (reach_within c.args.known.now (template_data c.args.template.now) (template_data c.get.result.now) c.in-Some.above c.below.result c.args.depth.now c.reach.new.depth (λ xs. ap (nesting_by (reached_by c.args.known.now) xs) of_one) c.below.ensures c.reach.ensures.nesting)

pub returns-in-Differs-clause-nesting : goal.returns-in-Differs-clause-nesting
returns-in-Differs-clause-nesting t c =
    let of_one : template_data c.args.template.now ≡ differs (template_data c.get-in-Differs.result.now) =
    ap template_data c.in-Differs.is ∙ (data_differs c.in-Differs.inner ∙ ap (λ d. differs (template_data d)) (sym c.get-in-Differs.ensures)) in
    subst (λ p. Reaches c.args.known.now (template_data c.args.template.now) p c.args.depth.now c.reach-in-Differs.new.depth) (sym c.in-Some.is)
    (reach_within c.args.known.now (template_data c.args.template.now) (template_data c.get-in-Differs.result.now) c.in-Some.above c.below-in-Differs.result c.args.depth.now c.reach-in-Differs.new.depth (λ xs. ap (nesting_by (reached_by c.args.known.now) xs) of_one) c.below-in-Differs.ensures c.reach-in-Differs.ensures.nesting)

pub returns-in-OfType-clause-nesting : goal.returns-in-OfType-clause-nesting
returns-in-OfType-clause-nesting t c =
    subst (λ p. Reaches c.args.known.now (template_data c.args.template.now) p c.args.depth.now c.add.new.self) (sym c.in-Some.is)
    (reach_leaf c.args.known.now (template_data c.args.template.now) c.in-Some.above c.args.depth.now c.add.new.self (λ xs. ap (nesting_by (reached_by c.args.known.now) xs) (ap template_data c.in-OfType.is ∙ data_type c.in-OfType.field-0)) (c.add.ensures.own, c.add.ensures.places))

pub returns-in-Meet-clause-nesting : goal.returns-in-Meet-clause-nesting
returns-in-Meet-clause-nesting t c =
    subst (λ p. Reaches c.args.known.now (template_data c.args.template.now) p c.args.depth.now c.add-in-Meet.new.self) (sym c.in-Some.is)
    (reach_leaf c.args.known.now (template_data c.args.template.now) c.in-Some.above c.args.depth.now c.add-in-Meet.new.self (λ xs. ap (nesting_by (reached_by c.args.known.now) xs) (ap template_data c.in-Meet.is ∙ data_meet c.in-Meet.field-0 c.in-Meet.field-1)) (c.add-in-Meet.ensures.own, c.add-in-Meet.ensures.places))

pub returns-in-Variable-clause-nesting : goal.returns-in-Variable-clause-nesting
returns-in-Variable-clause-nesting t c =
    subst (λ p. Reaches c.args.known.now (template_data c.args.template.now) p c.args.depth.now c.put.new.self) (sym c.in-Some.is)
    (λ xs long. ap (λ n. min n 4001) (c.put.ensures.nesting xs long ∙ ap (λ d. max (reached c.args.depth.now xs) (c.in-Some.above + nesting_by (reached_by c.args.known.now) xs d)) (sym (ap template_data c.in-Variable.is ∙ data_variable c.in-Variable.number))))

pub loop-at-init : goal.loop-at-init
loop-at-init t c =
    let of_call : template_data c.args.template.now ≡ call c.in-Call.field-0 c.in-Call.m (templates c.as_slice-arg-items.result.now) =
    ap template_data c.in-Call.is ∙ (data_call c.in-Call.field-0 c.in-Call.m c.in-Call.args ∙ ap (λ ts. call c.in-Call.field-0 c.in-Call.m (templates ts)) (sym c.as_slice-arg-items.ensures)) in
    let found : get_or c.args.known.now c.in-Call.m None ≡ Some c.in-Some-Some.called = sym (c.in-Some-Some.ensures.lookup.3.1 None) ∙ c.in-Some-Some.field-0-is in
    record {
      places = ap (λ u. length u.items) c.add-in-Call.ensures.places;
      left = place_begins c.args.known.now c.in-Some-Some.called c.in-Call.field-0 c.in-Call.m c.as_slice-arg-items.result.now (template_data c.args.template.now) c.in-Some.above c.below-in-Call.result
          c.args.depth.now c.add-in-Call.new.self of_call found c.below-in-Call.ensures (c.add-in-Call.ensures.own, c.add-in-Call.ensures.places);
    }

pub loop-at-preserved : goal.loop-at-preserved
loop-at-preserved t c = record {
  places = c.reach-in-loop-at.ensures.places ∙ c.loop-at.invariant.places;
  left = place_goes_on c.args.known.now c.in-Some-Some.called.places.items c.as_slice-arg-items.result.now c.loop-at.at c.arg-item.result (template_data c.args.template.now) c.in-Some.above
      c.place_below-under.result c.args.depth.now c.loop-at.depth c.reach-in-loop-at.new.depth c.loop-at-test.true c.arg-item.is
      (subst (NearPlace c.place_below-under.result c.in-Some.above) (c.place_at.ensures ∙ ap (λ ys. get_or ys c.loop-at.at None) c.deref.ensures.value) c.place_below-under.ensures)
      c.loop-at.invariant.places c.reach-in-loop-at.ensures.nesting c.loop-at.invariant.left;
}

pub returns-after-loop-at-clause-nesting : goal.returns-after-loop-at-clause-nesting
returns-after-loop-at-clause-nesting t c =
    subst (λ p. Reaches c.args.known.now (template_data c.args.template.now) p c.args.depth.now c.loop-at.depth) (sym c.in-Some.is)
    (place_ends c.args.known.now c.in-Some-Some.called.places.items c.as_slice-arg-items.result.now c.loop-at.at (template_data c.args.template.now) c.in-Some.above c.args.depth.now c.loop-at.depth c.loop-at-test.false c.loop-at.invariant.left)

pub loop-member-init : goal.loop-member-init
loop-member-init t c =
    let of_cells : template_data c.args.template.now ≡ cells (templates c.as_slice-member-items.result.now) (template_data c.in-Cells.end) =
    ap template_data c.in-Cells.is ∙ (data_cells c.in-Cells.members c.in-Cells.end ∙ ap (λ ts. cells (templates ts) (template_data c.in-Cells.end)) (sym c.as_slice-member-items.ensures)) in
    record { places = refl; left = nest_begins c.args.known.now c.as_slice-member-items.result.now (template_data c.in-Cells.end) (template_data c.args.template.now) c.in-Some.above c.args.depth.now of_cells }

pub loop-member-preserved : goal.loop-member-preserved
loop-member-preserved t c = record {
  places = c.reach-in-loop-member.ensures.places ∙ c.loop-member.invariant.places;
  left = nest_goes_on c.args.known.now c.as_slice-member-items.result.now c.loop-member.member-index c.member-item.result (template_data c.in-Cells.end) (template_data c.args.template.now) c.in-Some.above c.loop-member.inside c.below-inside-in-loop-member.result
      c.args.depth.now c.loop-member.depth c.reach-in-loop-member.new.depth c.loop-member-test.true c.member-item.is c.below-inside-in-loop-member.ensures c.loop-member.invariant.places c.reach-in-loop-member.ensures.nesting c.loop-member.invariant.left;
}

pub returns-after-loop-member-clause-nesting : goal.returns-after-loop-member-clause-nesting
returns-after-loop-member-clause-nesting t c =
    subst (λ p. Reaches c.args.known.now (template_data c.args.template.now) p c.args.depth.now c.reach-in-Cells.new.depth) (sym c.in-Some.is)
    (nest_ends c.args.known.now c.as_slice-member-items.result.now c.loop-member.member-index (template_data c.in-Cells.end) (template_data c.args.template.now) c.in-Some.above c.loop-member.inside c.args.depth.now c.loop-member.depth c.reach-in-Cells.new.depth c.loop-member-test.false c.loop-member.invariant.places (subst (λ d. Reaches c.args.known.now (template_data d) (Some c.loop-member.inside) c.loop-member.depth c.reach-in-Cells.new.depth) c.get-in-Cells.ensures c.reach-in-Cells.ensures.nesting) c.loop-member.invariant.left)
