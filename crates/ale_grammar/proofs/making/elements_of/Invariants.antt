use Rattle.std.proofs.Common.{◌≡◌, map, drop}
use Rattle.ale_vocabulary.specs.First.{AllRight}
use Rattle.ale_vocabulary.specs.Knowing.{IsUnknown}
use Rattle.ale_vocabulary.specs.Mentions.{mentions_of_elements}
use Rattle.ale_declaration.specs.Declarations as declaration
use Rattle.ale_program.specs.Views.{element_data}
use Rattle.ale_grammar.specs.Programs.{elements_described}
use Rattle.ale_grammar.proofs.Going.{before, elements_left}
use Rattle.ale_grammar.proofs.making.elements_of.Given as goal

abbrev pub invariant-loop-part : goal.invariant-loop-part
invariant-loop-part l = record {
  so_far : before (map element_data l.found.items) (elements_left l.sig l.names l.scope l.parts l.part-index) ≡ elements_described l.sig l.names l.fn.scope (map declaration.element_data l.parts);
  known : AllRight (IsUnknown l.sig l.names.vocabulary) (mentions_of_elements (map declaration.element_data (drop l.part-index l.parts)));
}
