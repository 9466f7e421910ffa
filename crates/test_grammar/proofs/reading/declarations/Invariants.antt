use Rattle.std.proofs.Common.{map}
use Rattle.ale_declaration.specs.Declarations.{declaration_data}
use Rattle.ale_grammar.specs.Assembling.{HaveBoundLines}
use Rattle.test_grammar.proofs.reading.declarations.Given as goal

abbrev pub invariant-loop-part : goal.invariant-loop-part
invariant-loop-part l = record {
  bound : HaveBoundLines (map declaration_data l.read.items);
}
