use Rattle.ale_relation.proofs.Bits.{set_holds}
use Rattle.ale_relation.proofs.rows.Relation.add.Goals as goal

pub returns-clause-adds : goal.returns-clause-adds
returns-clause-adds c =
    let p = rw (← c.self.view_is) at c.requires.a_in in
    let q = rw (← c.self.view_is) at c.requires.b_in in
    rw (← c.self.view_is) (λ x y _ r. set_holds c.self.inside.size c.self.inside.width c.self.inside.words.items c.args.a c.args.b x y c.index_mut.result.now c.self.invariant.wide c.self.invariant.whole p q r c.index_mut.ensures.value)
