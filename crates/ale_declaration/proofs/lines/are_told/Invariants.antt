use Rattle.std.proofs.Common.{◌≡◌, drop}
use Rattle.ale_declaration.specs.Distinct.{is_bound_by}
use Rattle.ale_declaration.proofs.lines.are_told.Given as goal

abbrev pub invariant-loop-part : goal.invariant-loop-part
invariant-loop-part l = is_bound_by l.slots (drop l.part-index l.parts) ≡ is_bound_by l.slots l.parts
