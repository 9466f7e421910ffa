use Rattle.std.proofs.Common.{◌≡◌, ◌++◌, drop, string_bytes}
use Rattle.std.specs.Prelude.{encode_utf8_all}
use Rattle.ale_token.specs.Names.{doubled}
use Rattle.ale_print.proofs.name.push_doubled.Given as goal

abbrev pub invariant-loop-c : goal.invariant-loop-c
invariant-loop-c l =
    string_bytes l.out ++ encode_utf8_all (doubled (drop l.c-index l.name)) ≡ string_bytes l.fn.out ++ encode_utf8_all (doubled l.name)
