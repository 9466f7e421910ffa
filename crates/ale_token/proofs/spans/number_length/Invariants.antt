-- What was passed, and the span of the rest, are the whole span.
use Rattle.std.proofs.Common.{◌≡◌, ◌+◌, drop}
use Rattle.ale_token.specs.Pieces.{span, is_digit}
use Rattle.ale_token.proofs.spans.number_length.Given as goal

abbrev pub invariant-loop-i : goal.invariant-loop-i
invariant-loop-i l = l.i + span is_digit (drop l.i l.chars) ≡ span is_digit l.chars
