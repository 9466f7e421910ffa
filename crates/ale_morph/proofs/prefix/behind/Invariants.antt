use Rattle.std.proofs.Common.{◌≡◌, drop}
use Rattle.ale_morph.specs.Search.{behind}
use Rattle.ale_morph.proofs.prefix.behind.Given as goal

abbrev pub invariant-loop-letter : goal.invariant-loop-letter
invariant-loop-letter l = behind (drop l.letter-index l.prefix) l.left ≡ behind l.prefix l.rest
