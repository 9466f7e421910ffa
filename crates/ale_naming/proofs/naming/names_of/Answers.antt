use Rattle.std.proofs.Common.{map}
use Rattle.ale_declaration.specs.Declarations.{declaration_data}
use Rattle.ale_naming.proofs.Answering.{names_found, names_as, names_fitting}
use Rattle.ale_naming.proofs.naming.names_of.Goals as goal

pub returns-clause-found : goal.returns-clause-found
returns-clause-found c = names_found c.naming_law.ensures.named c.args.sig.now (map declaration_data c.args.decls.now) c.by_rounds.result c.by_rounds.ensures

pub returns-clause-only : goal.returns-clause-only
returns-clause-only c = names_as c.naming_law.ensures.named c.args.sig.now (map declaration_data c.args.decls.now) c.by_rounds.result c.by_rounds.ensures

pub returns-clause-fits : goal.returns-clause-fits
returns-clause-fits c =
    names_fitting c.naming_law.ensures.named c.naming_law.ensures.fit c.args.sig.now (map declaration_data c.args.decls.now) c.built_law.ensures.lawful
    c.by_rounds.result c.by_rounds.ensures
