use Rattle.std.proofs.Common.{sym, ap, ◌∙◌, [], ◌∷◌, ◌++◌}
use Rattle.ale_describe.proofs.Numbering.{numbered_own, numbered_there, numbered_more}
use Rattle.ale_describe.proofs.slots.Slots.add.Goals as goal

pub invariant_of-self-then-is_anonymous : goal.invariant_of-self-then-is_anonymous
invariant_of-self-then-is_anonymous c =
    numbered_own c.self.inside.names.items c.push.new.self.items c.self.inside.numbers.entries c.args.name.now
    (sym c.is_anonymous.ensures ∙ c.if-is_anonymous.true) c.self.invariant
    (c.in_ok-push.ensures.items ∙ ap (λ y. c.self.inside.names.items ++ y ∷ []) c.in_ok-own.ensures)

pub invariant_of-self-in-Some : goal.invariant_of-self-in-Some
invariant_of-self-in-Some c =
    numbered_there c.self.inside.names.items c.push-in-Some.new.self.items c.self.inside.numbers.entries c.as_str.result.now c.args.name.now c.in-Some._first.now
    c.as_str.utf8 c.as_str.ensures.value c.self.invariant (sym c.is_anonymous.ensures ∙ c.if-is_anonymous.false) c.in-Some.ensures.value
    (c.in_ok-push-2.ensures.items ∙ ap (λ y. c.self.inside.names.items ++ y ∷ []) c.in_ok-own.ensures)

pub invariant_of-self-2 : goal.invariant_of-self-2
invariant_of-self-2 c =
    numbered_more c.self.inside.names.items c.push-2.new.self.items c.self.inside.numbers.entries c.insert.new.self.entries c.in_ok-key.key c.in_ok-next.next c.as_str.result.now c.args.name.now
    c.as_str.utf8 c.as_str.ensures.value c.self.invariant (sym c.is_anonymous.ensures ∙ c.if-is_anonymous.false) c.in_default.ensures.value
    (c.in_ok-key.ensures.ok ∙ c.as_str-2.ensures.bytes ∙ sym c.as_str.ensures.bytes)
    (c.in_ok-next.ensures ∙ c.len.ensures ∙ c.self.inside.names.ok.0)
    c.in_ok-insert.ensures.entries
    (c.in-Ok.ensures.items ∙ ap (λ vs. vs ++ c.in_ok-own.own ∷ []) c.in_ok-reserve.ensures.items ∙ ap (λ y. c.self.inside.names.items ++ y ∷ []) c.in_ok-own.ensures)
