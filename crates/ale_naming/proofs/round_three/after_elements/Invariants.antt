use Rattle.std.proofs.Common.{◌≡◌, Some, map, drop}
use Rattle.ale_declaration.specs.Declarations.{element_data}
use Rattle.ale_describe.specs.Limits.{sum_after}
use Rattle.ale_naming.specs.Faults.{descriptions_in_elements}
use Rattle.ale_naming.specs.Known.{AreKnownElements}
use Rattle.ale_naming.proofs.round_three.after_elements.Given as goal

abbrev pub invariant-loop-element : goal.invariant-loop-element
invariant-loop-element l = record {
  known : AreKnownElements l.sig l.names.vocabulary (map element_data (drop l.element-index l.elements));
  so_far : sum_after l.sig l.names (Some l.sum) (descriptions_in_elements (map element_data (drop l.element-index l.elements))) ≡ sum_after l.sig l.names (Some l.so_far) (descriptions_in_elements (map element_data l.elements));
}
