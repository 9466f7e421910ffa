use Rattle.std.proofs.Common.{◌≡◌, map, drop}
use Rattle.ale_declaration.specs.Declarations.{element_data}
use Rattle.ale_naming.specs.Faults.{has_daughter}
use Rattle.ale_naming.proofs.round_two.has_daughter.Given as goal

abbrev pub invariant-loop-element : goal.invariant-loop-element
invariant-loop-element l = has_daughter (map element_data (drop l.element-index l.elements)) ≡ has_daughter (map element_data l.elements)
