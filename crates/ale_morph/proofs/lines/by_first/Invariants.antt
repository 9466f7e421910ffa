use Rattle.std.proofs.Common.{◌≡◌, drop}
use Rattle.ale_morph.specs.Search.{becomes}
use Rattle.ale_morph.proofs.lines.by_first.Given as goal

abbrev pub invariant-loop-line : goal.invariant-loop-line
invariant-loop-line l = becomes (drop l.line-index l.lines) l.word ≡ becomes l.lines l.word
