use Rattle.ale_signature.proofs.LawLemmas.{lawful}
use Rattle.ale_signature.proofs.signature.Signature.built_law.Goals as goal

pub returns-clause-lawful : goal.returns-clause-lawful
returns-clause-lawful c =
    let tabled = rw c.self.view_is at c.self.invariant in
    lawful c.args.self.now tabled.numbered tabled.accepted
