use Rattle.std.proofs.Common.{sym, ap, ◌∙◌, [], ◌∷◌, ◌++◌}
use Rattle.ale_describe.specs.Variables.{slot_of, with_variable}
use Rattle.ale_describe.proofs.Numbering.{slot_there, slot_missing}
use Rattle.ale_describe.proofs.slots.Slots.slot.Goals as goal

pub returns-in-Some-clause-slot : goal.returns-in-Some-clause-slot
returns-in-Some-clause-slot c =
    let r = slot_there c.self.inside.names.items c.self.inside.numbers.entries c.as_str.result.now c.args.name.now c.in-Some.number.now c.as_str.utf8 c.as_str.ensures.value c.self.invariant (sym c.is_anonymous.ensures ∙ c.if-is_anonymous.false) c.in-Some.ensures.value in
    sym r.0 ∙ ap (λ vs. slot_of vs c.args.name.now) c.self.view_is

pub returns-in-Some-clause-added : goal.returns-in-Some-clause-added
returns-in-Some-clause-added c =
    let r = slot_there c.self.inside.names.items c.self.inside.numbers.entries c.as_str.result.now c.args.name.now c.in-Some.number.now c.as_str.utf8 c.as_str.ensures.value c.self.invariant (sym c.is_anonymous.ensures ∙ c.if-is_anonymous.false) c.in-Some.ensures.value in
    sym c.self.view_is ∙ sym r.1 ∙ ap (λ vs. with_variable vs c.args.name.now) c.self.view_is

pub returns-clause-slot : goal.returns-clause-slot
returns-clause-slot c =
    let r = slot_missing c.self.inside.names.items c.self.inside.numbers.entries c.as_str.result.now c.args.name.now c.as_str.utf8 c.as_str.ensures.value c.self.invariant (sym c.is_anonymous.ensures ∙ c.if-is_anonymous.false) c.in_default.ensures.value in
    c.in_ok-next.ensures ∙ c.len.ensures ∙ c.self.inside.names.ok.0 ∙ sym r.0 ∙ ap (λ vs. slot_of vs c.args.name.now) c.self.view_is

pub returns-clause-added : goal.returns-clause-added
returns-clause-added c =
    let r = slot_missing c.self.inside.names.items c.self.inside.numbers.entries c.as_str.result.now c.args.name.now c.as_str.utf8 c.as_str.ensures.value c.self.invariant (sym c.is_anonymous.ensures ∙ c.if-is_anonymous.false) c.in_default.ensures.value in
    c.in_ok-add-2.ensures ∙ ap (λ vs. vs ++ c.args.name.now ∷ []) (sym c.self.view_is) ∙ sym r.1 ∙ ap (λ vs. with_variable vs c.args.name.now) c.self.view_is
