use Rattle.std.proofs.Common.{◌≡◌, ◌∙◌, ap, sym, ℕ, Some, false, length, arith}
use Rattle.ale_hierarchy.specs.Faults.{lacks_join, no_join}
use Rattle.ale_hierarchy.proofs.JoinTableLemmas.{below_next}
use Rattle.ale_hierarchy.proofs.AnswerLemmas.{test_first, test_clear}
use Rattle.ale_hierarchy.proofs.witnesses.no_join_of.Goals as goal

pub returns-then-lacks_join : goal.returns-then-lacks_join
returns-then-lacks_join c =
    let d = c.args.order.now in
    ap Some c.in_ok-no_join_at.ensures
    ∙ sym (test_first (lacks_join d c.args.a) (no_join d c.args.a) (length d.types) c.loop-b.b (omega arith) (sym c.lacks_join.ensures ∙ c.if-lacks_join.true) c.loop-b.invariant)

pub loop-b-preserved : goal.loop-b-preserved
loop-b-preserved c =
    below_next (λ (b : ℕ). lacks_join c.args.order.now c.args.a b ≡ false) c.loop-b.b c.loop-b.invariant
    (sym c.lacks_join.ensures ∙ c.if-lacks_join.false)

pub returns : goal.returns
returns c =
    let d = c.args.order.now in
    sym (test_clear (lacks_join d c.args.a) (no_join d c.args.a) (length d.types) (λ b h. c.loop-b.invariant b (omega arith)))
