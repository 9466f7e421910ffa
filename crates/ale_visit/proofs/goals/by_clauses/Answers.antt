use Rattle.std.proofs.Common.{◌≡◌, length, take, map, arith, sym, ap, ◌∙◌}
use Rattle.std.proofs.Math.Seq.{take-length}
use Rattle.std.proofs.lemmas.List.{length-take-le}
use Rattle.ale_logic.specs.States.{chosen, numbered}
use Rattle.ale_logic.specs.GoalKids.{numbers}
use Rattle.ale_visit.specs.Views.{state_of, states_of}
use Rattle.ale_visit.proofs.Numbered.{with_clause, those_clauses, one_more, up_to}
use Rattle.ale_visit.proofs.goals.by_clauses.Goals as goal

pub loop-number-preserved : goal.loop-number-preserved
loop-number-preserved c =
    let st = state_of c.args.state in
    let ns = numbers c.args.first c.args.count in
    let f = with_clause st c.args.waiting ns in
    let k = c.loop-number.number in
    let others = c.in-Some.others.now in
    let d = c.index-others-number.result in
    let size : length (take k others) ≡ k = length-take-le k others (omega arith) in
    let is : state_of c.in_ok-choose.field-0 ≡ chosen (length (take k others)) (f d) =
    c.in_ok-choose.ensures ∙ ap (chosen k) (c.in_ok-kid.ensures ∙ ap (λ z. with_clause z c.args.waiting ns d) c.in_ok-copy.ensures) ∙ ap (λ i. chosen i (f d)) (sym size) in
    ap states_of c.in_ok-push.ensures.items
    ∙ one_more f (take k others) d c.loop-number.kids.items c.in_ok-choose.field-0 c.loop-number.invariant is
    ∙ ap (λ z. numbered 0 (map f z)) (up_to others k d (omega arith) c.index-others-number.is)

pub returns : goal.returns
returns c =
    let st = state_of c.args.state in
    let ns = numbers c.args.first c.args.count in
    let f = with_clause st c.args.waiting ns in
    let others = c.in-Some.others.now in
    let d = c.in-Some.last.now in
    let end : c.loop-number.number ≡ length others = omega (arith, c.loop-number.auto.number-end, c.loop-number-test.false) in
    let all : take c.loop-number.number others ≡ others = ap (λ k. take k others) end ∙ take-length others in
    let so : states_of c.loop-number.kids.items ≡ numbered 0 (map f others) = c.loop-number.invariant ∙ ap (λ z. numbered 0 (map f z)) all in
    ap states_of c.in_ok-push-2.ensures.items
    ∙ one_more f others d c.loop-number.kids.items c.in_ok-choose-2.field-0 so (c.in_ok-choose-2.ensures ∙ ap (chosen (length others)) c.in_ok-kid-2.ensures)
    ∙ ap (λ z. numbered 0 (map f z)) (sym c.in-Some.ensures.cases.0)
    ∙ ap (numbered 0) (those_clauses st c.args.waiting ns c.args.clauses.now)
