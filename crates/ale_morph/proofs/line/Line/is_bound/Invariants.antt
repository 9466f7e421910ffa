use Rattle.std.proofs.Common.{◌≡◌, drop}
use Rattle.ale_morph.specs.Bound.{stand_in}
use Rattle.ale_morph.proofs.line.Line.is_bound.Given as goal

abbrev pub invariant-loop-piece : goal.invariant-loop-piece
invariant-loop-piece l = stand_in (drop l.piece-index l.right) l.left ≡ stand_in l.right l.left
