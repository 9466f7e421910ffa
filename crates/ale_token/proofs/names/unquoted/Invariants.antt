-- The bytes of the name so far, before those of what the rest stands for, are those of what the whole stands for.
use Rattle.std.proofs.Common.{◌≡◌, ◌++◌, length, string_bytes}
use Rattle.std.proofs.Math.Utf8.{encodes}
use Rattle.ale_token.specs.Names.{unquoted}
use Rattle.ale_token.proofs.names.unquoted.Given as goal

abbrev pub invariant-loop-rest : goal.invariant-loop-rest
invariant-loop-rest l = string_bytes l.name ++ encodes (unquoted l.rest) ≡ encodes (unquoted l.inside)

abbrev pub decreases-loop-rest : goal.decreases-loop-rest
decreases-loop-rest l = length l.rest
