use Rattle.std.proofs.Common.{◌≡◌, ◌<◌, ◌+◌, length, get_or, refl, sym, ap, ◌∙◌, subst, arith}
use Rattle.std.specs.Vec.{with_item}
use Rattle.std.proofs.lemmas.List.{get_or_default}
use Rattle.ale_macro.specs.declared.tally.Tally.{Tally}
use Rattle.ale_macro.specs.Sizes.{Near}
use Rattle.ale_macro.proofs.Counted.{put_in, put_near}
use Rattle.ale_macro.proofs.tally.Tally.put.Goals as goal

pub returns-clause-parts : goal.returns-clause-parts
returns-clause-parts c =
    let low : c.args.variable < length c.args.self.now.uses.items = subst (λ n. c.args.variable < n) (c.len.ensures ∙ c.args.self.now.uses.ok.0) c.if-place-len.false in
    let new : Tally = record { own = c.args.self.now.own; uses = with_item c.args.self.now.uses c.args.variable c.sum.result } in
    put_in c.args.self.now new c.args.variable c.args.times c.sum.result low refl refl
    (put_near c.args.self.now.uses.items c.args.variable c.index.result.now c.args.times c.sum.result low c.index.ensures c.sum.ensures)
