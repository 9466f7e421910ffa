use Rattle.ale_signature.proofs.SignatureLemmas.{least_found, none_found}
use Rattle.ale_signature.proofs.signature.Signature.join.Goals as goal

pub returns-clause-least : goal.returns-clause-least
returns-clause-least c =
    let tabled = rw c.self.view_is at c.self.invariant in
    let value = rw (c.self.view_is, c.index.ensures, c.index-2.ensures) at c.join_at.ensures.value in
    least_found c.args.self.now c.args.a c.args.b c.join_at.result tabled.numbered value

pub returns-clause-none : goal.returns-clause-none
returns-clause-none c =
    let tabled = rw c.self.view_is at c.self.invariant in
    let value = rw (c.self.view_is, c.index.ensures, c.index-2.ensures) at c.join_at.ensures.value in
    none_found c.args.self.now c.args.a c.args.b c.join_at.result tabled.numbered tabled.accepted c.requires.a value
