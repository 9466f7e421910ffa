use Rattle.std.proofs.Common.{◌≡◌, [], drop}
use Rattle.ale_declared.specs.Names.{numbered}
use Rattle.ale_declaration.specs.Distinct.{slots_in}
use Rattle.ale_declaration.proofs.lines.slots_in.Given as goal

abbrev pub invariant-loop-part : goal.invariant-loop-part
invariant-loop-part l = numbered l.slots (slots_in (drop l.part-index l.parts)) ≡ numbered [] (slots_in l.parts)
