-- What was passed, and the rest up to the next quote, are the whole.
use Rattle.std.proofs.Common.{◌≡◌, ◌+◌, drop}
use Rattle.std.specs.Option.{option_map}
use Rattle.ale_token.specs.Pieces.{up_to}
use Rattle.ale_token.proofs.spans.double_quoted_length.Given as goal

abbrev pub invariant-loop-i : goal.invariant-loop-i
invariant-loop-i l = option_map (λ n. l.i + n) (up_to 34 (drop l.i l.chars)) ≡ up_to 34 l.chars
