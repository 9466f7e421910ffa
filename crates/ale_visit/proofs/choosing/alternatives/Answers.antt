use Rattle.std.proofs.Common.{◌≡◌, length, take, map, arith, sym, ap, ◌∙◌}
use Rattle.std.proofs.Math.Seq.{take-length}
use Rattle.std.proofs.lemmas.List.{length-take-le}
use Rattle.ale_logic.specs.States.{chosen, numbered, doing}
use Rattle.ale_visit.specs.Views.{state_of, states_of, item_of}
use Rattle.ale_visit.proofs.Numbered.{by_desc, those, one_more, up_to}
use Rattle.ale_visit.proofs.choosing.alternatives.Goals as goal

pub loop-number-preserved : goal.loop-number-preserved
loop-number-preserved c =
    let st = state_of c.args.state in
    let f = by_desc st c.args.env c.args.node in
    let k = c.loop-number.number in
    let others = c.in-Some.others.now in
    let d = c.index-others-number.result in
    let size : length (take k others) ≡ k = length-take-le k others (omega arith) in
    let is : state_of c.in_ok-kid.kid ≡ chosen (length (take k others)) (f d) =
    c.in_ok-kid.ensures ∙ ap (λ z. chosen k (by_desc z c.args.env c.args.node d)) c.in_ok-copy.ensures ∙ ap (λ i. chosen i (f d)) (sym size) in
    ap states_of c.in_ok-push.ensures.items
    ∙ one_more f (take k others) d c.loop-number.kids.items c.in_ok-kid.kid c.loop-number.invariant is
    ∙ ap (λ z. numbered 0 (map f z)) (up_to others k d (omega arith) c.index-others-number.is)

pub returns : goal.returns
returns c =
    let st = state_of c.args.state in
    let f = by_desc st c.args.env c.args.node in
    let others = c.in-Some.others.now in
    let d = c.in-Some.last.now in
    let end : c.loop-number.number ≡ length others = omega (arith, c.loop-number.auto.number-end, c.loop-number-test.false) in
    let all : take c.loop-number.number others ≡ others = ap (λ k. take k others) end ∙ take-length others in
    let so : states_of c.loop-number.kids.items ≡ numbered 0 (map f others) = c.loop-number.invariant ∙ ap (λ z. numbered 0 (map f z)) all in
    ap states_of c.in_ok-push-2.ensures.items
    ∙ one_more f others d c.loop-number.kids.items c.in_ok-kid-2.kid so c.in_ok-kid-2.ensures
    ∙ ap (λ z. numbered 0 (map f z)) (sym c.in-Some.ensures.cases.0)
    ∙ ap (numbered 0) (those st c.args.env c.args.node c.args.descs.now)
