use Rattle.std.proofs.Common.{◌∙◌, sym, ap, ℕ}
use Rattle.std.specs.Option.{option_map}
use Rattle.ale_hierarchy.specs.Order.{approp}
use Rattle.ale_signature.proofs.EdgeLemmas.{filter_map_more, filter_map_no_more}
use Rattle.ale_signature.proofs.sizes.push_edges_of.Goals as goal
use Rattle.ale_signature.proofs.sizes.push_edges_of.Goals.{in-Some+in_ok-push, in_default}

pub loop-f-preserved : goal.loop-f-preserved
loop-f-preserved c =
    let d = c.args.order.now in
    let t = c.args.t in
    elim c.match-restriction_at.branch [
      | in-Some+in_ok-push w ↦
          let items = rw w.index.ensures at w.in_ok-push.ensures.items in
          rw w.edges-is (filter_map_more (λ f. option_map (λ (r : ℕ). (t, r)) (approp d f t)) c.loop-f.f (t, w.in-Some.r) c.args.edges.now.items c.loop-f.edges.items w.push.new.self.items
          (ap (option_map (λ (r : ℕ). (t, r))) (sym c.restriction_at.ensures.value ∙ w.in-Some.is)) c.loop-f.invariant items)
      | in_default w ↦
          rw w.edges-is (filter_map_no_more (λ f. option_map (λ (r : ℕ). (t, r)) (approp d f t)) c.loop-f.f c.args.edges.now.items c.loop-f.edges.items
          (ap (option_map (λ (r : ℕ). (t, r))) (sym c.restriction_at.ensures.value ∙ w.in_default.is)) c.loop-f.invariant)
    ]
