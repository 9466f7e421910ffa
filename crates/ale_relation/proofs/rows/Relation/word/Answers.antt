use Rattle.std.proofs.Common.{◌∙◌, arith}
use Rattle.ale_relation.proofs.Bits.{holds_is_bit, word_bits, word_place}
use Rattle.ale_relation.proofs.rows.Relation.word.Goals as goal

pub returns : goal.returns
returns c =
    let p = rw (← c.self.view_is) at c.requires.a_in in
    let q = rw (← c.self.view_is) at c.requires.place_in in
    rw (← c.self.view_is) (λ k e. holds_is_bit _ c.self.inside.width c.args.a k c.self.invariant.wide
    ∙ word_bits c.self.inside.words.items c.self.inside.width c.args.a c.args.place c.index.result.now (omega (arith, word_place c.self.inside.size c.self.inside.width c.args.a c.args.place c.self.invariant.wide p q)) c.index.ensures k e)
