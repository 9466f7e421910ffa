-- What was read, before what the rest reads as, is what the whole reads as.
use Rattle.std.proofs.Common.{◌≡◌, ◌+◌, length}
use Rattle.ale_token.specs.Tokens.{byte_length, with_front, tokens_from, tokens_of}
use Rattle.ale_token.proofs.scan.scan.Given as goal

abbrev pub invariant-loop-rest : goal.invariant-loop-rest
invariant-loop-rest l = record {
  value : with_front l.read.items (tokens_from l.place 0 l.rest) ≡ tokens_of l.chars;
  places : l.place + byte_length l.rest ≡ byte_length l.chars;
}

abbrev pub decreases-loop-rest : goal.decreases-loop-rest
decreases-loop-rest l = length l.rest
