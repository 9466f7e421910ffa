use Rattle.std.proofs.Common.{◌≡◌, ◌++◌, drop}
use Rattle.ale_declaration.specs.Forms.{pieces}
use Rattle.ale_declaration.proofs.lines.letters.Given as goal

abbrev pub invariant-loop-name : goal.invariant-loop-name
invariant-loop-name l = l.found.items ++ pieces (drop l.name-index l.names) ≡ pieces l.names
