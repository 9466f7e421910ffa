use Rattle.std.proofs.Common.{◌↔◌, drop}
use Rattle.ale_program.specs.Fragment.{Each, IsPlainPart}
use Rattle.ale_program.proofs.fragment.elements_in_fragment.Given as goal

abbrev pub invariant-loop-element : goal.invariant-loop-element
invariant-loop-element l = Each IsPlainPart (drop l.element-index l.elements) ↔ Each IsPlainPart l.elements
