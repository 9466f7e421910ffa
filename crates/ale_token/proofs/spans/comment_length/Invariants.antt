-- What was passed, and the rest up to its end, are the whole.
use Rattle.std.proofs.Common.{◌≡◌, ◌+◌, length}
use Rattle.std.specs.Option.{option_map}
use Rattle.ale_token.specs.Pieces.{comment}
use Rattle.ale_token.proofs.spans.comment_length.Given as goal

abbrev pub invariant-loop-rest : goal.invariant-loop-rest
invariant-loop-rest l = record {
  value : option_map (λ n. l.count + n) (comment l.rest) ≡ comment l.chars;
  within : l.count + length l.rest ≡ length l.chars;
}

abbrev pub decreases-loop-rest : goal.decreases-loop-rest
decreases-loop-rest l = length l.rest
