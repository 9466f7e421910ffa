use Rattle.std.proofs.Common.{map}
use Rattle.ale_declaration.specs.Declarations.{declaration_data}
use Rattle.ale_naming.proofs.Answering.{finds_some}
use Rattle.ale_naming.proofs.naming.cyclic_fault.Goals as goal

pub unreachable-requires : goal.unreachable-requires
unreachable-requires c =
    finds_some c.args.vocabulary.now c.args.first (map declaration_data c.args.decls.now) c.requires.own c.requires.below c.in-Ok.ensures
