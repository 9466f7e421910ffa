use Rattle.std.proofs.Common.{map}
use Rattle.ale_declaration.specs.Declarations.{declaration_data}
use Rattle.ale_grammar.proofs.Answering.{found, only}
use Rattle.ale_grammar.proofs.grammar.resolve.Goals as goal

pub returns-clause-found : goal.returns-clause-found
returns-clause-found c = found c.resolve_law.ensures c.args.signature (map declaration_data c.args.decls.now) c.by_names.result c.by_names.ensures.exact

pub returns-clause-only : goal.returns-clause-only
returns-clause-only c = only c.resolve_law.ensures c.args.signature (map declaration_data c.args.decls.now) c.by_names.result c.by_names.ensures.exact
