use Rattle.std.proofs.Common.{◌≡◌, ℕ, ◌+◌, ◌<◌, ◌∷◌, List, drop, get_or, ◌∙◌}
use Rattle.std.proofs.lemmas.List.{drop_more}
use Rattle.ale_order.proofs.Tables.{push_wide, called_step, callers_step, ends_of}
use Rattle.ale_order.proofs.graph.CallGraph.new.Goals as goal

pub loop-caller-preserved : goal.loop-caller-preserved
loop-caller-preserved c =
    let calls : List (ℕ × ℕ) = c.args.calls.now in
    let i : ℕ = c.loop-caller.caller-index in
    let call : ℕ × ℕ = get_or calls i (0, 0) in
    let more : drop i calls ≡ call ∷ drop (i + 1) calls = drop_more calls i (0, 0) c.loop-caller-test.true in
    let ends : (call.0 < c.args.size) × (call.1 < c.args.size) = ends_of c.args.size i calls (drop (i + 1) calls) call c.requires more in
    record {
      called_wide = push_wide (λ r. r.items) c.loop-caller.called.items c.push_at.new.rows.items call.0 call.1 c.in_ok-push_at.ensures ∙ c.loop-caller.invariant.called_wide;
      callers_wide = push_wide (λ r. r.items) c.loop-caller.callers.items c.push_at-in-loop-caller.new.rows.items call.1 call.0 c.in_ok-push_at-2.ensures ∙ c.loop-caller.invariant.callers_wide;
      called = called_step (λ r. r.items) c.loop-caller.called.items c.push_at.new.rows.items calls (drop i calls) (drop (i + 1) calls) call c.args.size c.loop-caller.invariant.called_wide ends.0 more c.in_ok-push_at.ensures c.loop-caller.invariant.called;
      callers = callers_step (λ r. r.items) c.loop-caller.callers.items c.push_at-in-loop-caller.new.rows.items calls (drop i calls) (drop (i + 1) calls) call c.args.size c.loop-caller.invariant.callers_wide ends.1 more c.in_ok-push_at-2.ensures c.loop-caller.invariant.callers;
    }
