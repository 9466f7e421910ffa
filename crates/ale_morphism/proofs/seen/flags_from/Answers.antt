use Rattle.std.proofs.Common.{◌≡◌, ◌≤◌, List, Bool, sym, ap, ◌∙◌, rules, add-one}
use Rattle.ale_graph.specs.Structures.{count}
use Rattle.ale_morphism.specs.Visible.{is_reached}
use Rattle.ale_morphism.specs.Reaching.{starting, spread, flags_of}
use Rattle.ale_morphism.proofs.ReachSteps.{spread_alike, bits_same, round_is, same_is_all}
use Rattle.ale_morphism.proofs.seen.flags_from.Goals as goal

pub returns-then-eq : goal.returns-then-eq
returns-then-eq c = λ differ roots begins.
    (let made : c.in_ok-next.next.items ≡ spread (starting c.args.g.now differ roots) c.loop-round.flags.items (count c.args.g.now) =
    c.in_ok-next.ensures ∙ ap (λ (z : List Bool). spread c.args.g.now z (count c.args.g.now)) c.as_slice.ensures.value ∙ spread_alike c.args.g.now differ roots c.loop-round.flags.items (count c.args.g.now) in
    let same = bits_same c.as_slice-in-loop-round.result.now c.as_slice-in-loop-round-2.result.now (sym c.if-eq.ensures) in
    let within : c.loop-round._round ≤ count c.args.g.now = search rules in
    same_is_all (starting c.args.g.now differ roots) c.loop-round._round c.loop-round.flags.items c.in_ok-next.next.items within (c.loop-round.invariant differ roots begins) made
    (sym c.as_slice-in-loop-round.ensures.value ∙ same ∙ c.as_slice-in-loop-round-2.ensures.value))

pub loop-round-preserved : goal.loop-round-preserved
loop-round-preserved c = λ differ roots begins.
    (let made : c.in_ok-next.next.items ≡ spread (starting c.args.g.now differ roots) c.loop-round.flags.items (count c.args.g.now) =
    c.in_ok-next.ensures ∙ ap (λ (z : List Bool). spread c.args.g.now z (count c.args.g.now)) c.as_slice.ensures.value ∙ spread_alike c.args.g.now differ roots c.loop-round.flags.items (count c.args.g.now) in
    round_is (starting c.args.g.now differ roots) c.loop-round._round c.loop-round.flags.items c.in_ok-next.next.items (c.loop-round.invariant differ roots begins) made
    ∙ ap (λ k. flags_of c.args.g.now (is_reached (starting c.args.g.now differ roots) k)) (sym (add-one c.loop-round._round)))
