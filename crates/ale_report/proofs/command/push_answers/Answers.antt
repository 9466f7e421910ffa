use Rattle.std.proofs.Common.{◌≡◌, ◌⊎◌, ◌<◌, ◌^◌, ◌≤◌, ◌-◌, ◌++◌, inl, inr, length, string_bytes, refl, sym, ap, ◌∙◌, subst, arith}
use Rattle.std.proofs.lemmas.List.{length-reverse}
use Rattle.ale_declared.specs.Lists.{Has}
use Rattle.ale_graph.specs.Structures.{count}
use Rattle.ale_logic.specs.declared.answer.Answer.{Answer}
use Rattle.ale_report.specs.Parts.{answer_text}
use Rattle.ale_report.proofs.Backwards.{has_reverse, reverse_has, left_or_last, has_front, has_last, all_left, top_printed, left_within}
use Rattle.ale_report.proofs.command.push_answers.Goals as goal

pub loop-answer-init : goal.loop-answer-init
loop-answer-init c =
    let n : c.len-count.result ≡ length c.args.answers.items = search in
    record {
      within = let e : length c.reverse.new.self.items ≡ c.len-count.result = rw (c.reverse.ensures.items, length-reverse c.args.answers.items) (sym n) in rw e (omega arith);
      printed = λ x has. c.requires x (has_reverse c.args.answers.items x (subst (λ zs. Has zs x) c.reverse.ensures.items has));
      so_far = ap (λ t. string_bytes c.args.out.now ++ t) (all_left c.args.sig.now c.args.answers.items c.reverse.new.self.items c.len-count.result c.reverse.ensures.items n);
      countable = λ x has. inl (subst (λ zs. Has zs x) (sym c.reverse.ensures.items) (reverse_has c.args.answers.items x has));
    }

pub push_answer-requires : goal.push_answer-requires
push_answer-requires c =
    c.loop-answer.invariant.printed c.in-Some.answer (subst (λ zs. Has zs c.in-Some.answer) (sym c.in-Some.ensures.items) (has_last c.pop.new.self.items c.in-Some.answer))

pub loop-answer-preserved : goal.loop-answer-preserved
loop-answer-preserved c =
    let m : c.len.result ≡ length c.pop.new.self.items = search in
    let n : length c.loop-answer.rest.items ≤ c.len-count.result = c.loop-answer.invariant.within in
    let wrote : string_bytes c.push_answer.new.out ≡ string_bytes c.loop-answer.out ++ answer_text c.args.sig.now (c.len-count.result - length c.pop.new.self.items) c.in-Some.answer =
    rw (← m) c.in_ok-push_answer.ensures.text in
    record {
      within = left_within c.loop-answer.rest.items c.pop.new.self.items c.in-Some.answer c.len-count.result c.in-Some.ensures.items n;
      printed = λ x has. c.loop-answer.invariant.printed x (subst (λ zs. Has zs x) (sym c.in-Some.ensures.items) (has_front c.pop.new.self.items _ x has));
      so_far = rw wrote (top_printed c.args.sig.now c.loop-answer.rest.items c.pop.new.self.items c.in-Some.answer c.len-count.result (string_bytes c.loop-answer.out) c.in-Some.ensures.items n) ∙ c.loop-answer.invariant.so_far;
      countable = λ x has. elim (c.loop-answer.invariant.countable x has) [
        | inl there ↦ elim (left_or_last c.pop.new.self.items c.in-Some.answer x (subst (λ zs. Has zs x) c.in-Some.ensures.items there)) [
          | inl left ↦ inl left
          | inr same ↦ inr (subst (λ (z : Answer). count z.closed.graph < 2 ^ 64) (sym same) c.in_ok-push_answer.ensures.countable)
        ]
        | inr small ↦ inr small
      ];
    }
