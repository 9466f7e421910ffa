use Rattle.ale_signature.proofs.SignatureLemmas.{restriction_found, no_restriction}
use Rattle.ale_signature.proofs.signature.Signature.approp.Goals as goal

pub returns-clause-least : goal.returns-clause-least
returns-clause-least c =
    let tabled = rw c.self.view_is at c.self.invariant in
    let value = rw (c.self.view_is, c.index.ensures, c.index-2.ensures) at c.restriction_at.ensures.value in
    restriction_found c.args.self.now c.args.f c.args.t c.restriction_at.result tabled.numbered value

pub returns-clause-none : goal.returns-clause-none
returns-clause-none c =
    let tabled = rw c.self.view_is at c.self.invariant in
    let value = rw (c.self.view_is, c.index.ensures, c.index-2.ensures) at c.restriction_at.ensures.value in
    no_restriction c.args.self.now c.args.f c.args.t c.restriction_at.result tabled.numbered tabled.accepted c.requires.t value
