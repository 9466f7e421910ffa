use Rattle.std.proofs.Common.{◌≡◌, drop, map}
use Rattle.ale_declaration.specs.Declarations.{element_data}
use Rattle.ale_stage.specs.Stages.{elements_are_built}
use Rattle.ale_stage.proofs.declaration.elements_are_built.Given as goal

abbrev pub invariant-loop-element : goal.invariant-loop-element
invariant-loop-element l = elements_are_built (map element_data (drop l.element-index l.elements)) ≡ elements_are_built (map element_data l.fn.elements)
