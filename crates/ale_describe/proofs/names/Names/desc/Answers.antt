use Rattle.ale_term.specs.Terms.{term_data}
use Rattle.ale_describe.specs.Meanings.{IsMeant, desc_after, desc_meaning}
use Rattle.ale_describe.proofs.Meant.{meant_as, meant_found}
use Rattle.ale_describe.proofs.names.Names.desc.Goals as goal

pub returns-clause-found : goal.returns-clause-found
returns-clause-found c =
    let d = c.args.sig.now in
    let names = c.args.self.now in
    let t = term_data c.args.term.now in
    meant_found desc_meaning (IsMeant d names c.args.so_far t) (desc_after d names c.args.so_far t) (c.meaning_law.ensures.desc d names c.args.so_far t) c.desc_meant.result c.desc_meant.ensures

pub returns-clause-only : goal.returns-clause-only
returns-clause-only c =
    let d = c.args.sig.now in
    let names = c.args.self.now in
    let t = term_data c.args.term.now in
    λ answer is. meant_as desc_meaning (IsMeant d names c.args.so_far t) (desc_after d names c.args.so_far t) (c.meaning_law.ensures.desc d names c.args.so_far t) c.desc_meant.result c.desc_meant.ensures answer is
