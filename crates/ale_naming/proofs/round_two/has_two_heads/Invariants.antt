use Rattle.std.proofs.Common.{◌≡◌, map, drop}
use Rattle.ale_declaration.specs.Declarations.{element_data}
use Rattle.ale_naming.specs.Faults.{heads}
use Rattle.ale_naming.proofs.Adding.{one_more}
use Rattle.ale_naming.proofs.round_two.has_two_heads.Given as goal

abbrev pub invariant-loop-element : goal.invariant-loop-element
invariant-loop-element l = one_more l.found (heads (map element_data (drop l.element-index l.elements))) ≡ heads (map element_data l.elements)
