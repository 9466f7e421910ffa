use Rattle.std.proofs.Common.{sym, arith, ◌∙◌}
use Rattle.ale_relation.proofs.Bits.{holds_is_bit, tested, place_within}
use Rattle.ale_relation.proofs.rows.Relation.holds.Goals as goal

pub returns : goal.returns
returns c =
    let p = rw (← c.self.view_is) at c.requires.a_in in
    let q = rw (← c.self.view_is) at c.requires.b_in in
    rw (← c.self.view_is) (tested c.self.inside.words.items c.self.inside.width c.args.a c.args.b c.index.result.now (omega (arith, place_within c.self.inside.size c.self.inside.width c.args.a c.args.b c.self.invariant.wide p q)) c.index.ensures ∙ sym (holds_is_bit _ c.self.inside.width c.args.a c.args.b c.self.invariant.wide))
