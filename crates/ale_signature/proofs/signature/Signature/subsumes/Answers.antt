use Rattle.ale_hierarchy.proofs.OrderLemmas.{is_above_to, is_above_from}
use Rattle.ale_signature.proofs.signature.Signature.subsumes.Goals as goal

pub returns-clause-paths : goal.returns-clause-paths
returns-clause-paths c =
    let tabled = rw c.self.view_is at c.self.invariant in
    let value = rw (c.self.view_is, c.index.ensures, c.index-2.ensures) at c.is_above.ensures.value in
    rw value (is_above_to c.args.self.now c.args.a c.args.b, is_above_from c.args.self.now c.args.a c.args.b tabled.numbered)
