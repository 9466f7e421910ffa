use Rattle.std.proofs.Common.{map}
use Rattle.ale_declaration.specs.Declarations.{declaration_data}
use Rattle.ale_grammar.specs.Building.{made}
use Rattle.ale_grammar.proofs.Assembled.{assembled_is}
use Rattle.ale_grammar.proofs.grammar.assembled.Goals as goal

pub returns : goal.returns
returns c =
    assembled_is c.args.signature (map declaration_data c.args.decls.now) c.args.names.now (made c.in_ok-building.building) c.parts_of.result c.requires.own c.in_ok-building.ensures c.parts_of.ensures
