use Rattle.std.proofs.Common.{◌≡◌, ◌<◌, Some, length, refl, ◌∙◌, subst}
use Rattle.std.specs.Vec.{with_item}
use Rattle.ale_macro.specs.declared.depth.Depth.{Depth}
use Rattle.ale_macro.proofs.Reached.{put_inside}
use Rattle.ale_macro.proofs.depth.Depth.put.Goals as goal

pub returns-clause-nesting : goal.returns-clause-nesting
returns-clause-nesting c =
    let low : c.args.variable < length c.args.self.now.places.items = subst (λ n. c.args.variable < n) (c.len.ensures ∙ c.args.self.now.places.ok.0) c.if-place-len.false in
    let new : Depth = record { own = c.args.self.now.own; places = with_item c.args.self.now.places c.args.variable (Some c.lowered.result) } in
    put_inside c.args.self.now new c.args.variable c.args.depth c.lowered.result c.index.result.now low refl refl c.index.ensures c.lowered.ensures
