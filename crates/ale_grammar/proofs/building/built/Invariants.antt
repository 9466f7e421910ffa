use Rattle.std.proofs.Common.{◌≡◌, map, drop}
use Rattle.ale_declaration.specs.Declarations.{declaration_data}
use Rattle.ale_describe.specs.Declaring.{AreKnownDeclarations}
use Rattle.ale_grammar.specs.Building.{made, nothing_made, with_declarations}
use Rattle.ale_grammar.proofs.building.built.Given as goal

abbrev pub invariant-loop-declaration : goal.invariant-loop-declaration
invariant-loop-declaration l = record {
  so_far : with_declarations l.sig l.names (made l.building) (map declaration_data (drop l.declaration-index l.declarations)) ≡ with_declarations l.sig l.names nothing_made (map declaration_data l.declarations);
  known : AreKnownDeclarations l.sig l.names.vocabulary (map declaration_data (drop l.declaration-index l.declarations));
}
