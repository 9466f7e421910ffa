use Rattle.std.proofs.Common.{◌≡◌, drop}
use Rattle.ale_morph.specs.Bound.{stands}
use Rattle.ale_morph.proofs.bound.stands.Given as goal

abbrev pub invariant-loop-piece : goal.invariant-loop-piece
invariant-loop-piece l = stands l.slot (drop l.piece-index l.pieces) ≡ stands l.slot l.pieces
