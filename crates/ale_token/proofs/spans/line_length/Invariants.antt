-- What was passed, and the span of the rest, are the whole span.
use Rattle.std.proofs.Common.{◌≡◌, ◌+◌, drop}
use Rattle.ale_token.specs.Pieces.{span, is_in_line}
use Rattle.ale_token.proofs.spans.line_length.Given as goal

abbrev pub invariant-loop-i : goal.invariant-loop-i
invariant-loop-i l = l.i + span is_in_line (drop l.i l.chars) ≡ span is_in_line l.chars
