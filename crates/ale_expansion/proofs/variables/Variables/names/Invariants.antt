use Rattle.std.proofs.Common.{◌≡◌, ◌++◌, map, drop}
use Rattle.ale_expansion.specs.Met.{mark_name}
use Rattle.ale_expansion.proofs.variables.Variables.names.Given as goal

abbrev pub invariant-loop-mark : goal.invariant-loop-mark
invariant-loop-mark l = l.names.items ++ map (mark_name l.scope) (drop l.mark-index l.marks) ≡ map (mark_name l.scope) l.marks
