-- The bytes so far, and those of the rest, are all.
use Rattle.std.proofs.Common.{◌≡◌, ◌+◌, drop}
use Rattle.ale_token.specs.Tokens.{byte_length}
use Rattle.ale_token.proofs.scan.byte_length.Given as goal

abbrev pub invariant-loop-c : goal.invariant-loop-c
invariant-loop-c l = l.bytes + byte_length (drop l.c-index l.chars) ≡ byte_length l.chars
