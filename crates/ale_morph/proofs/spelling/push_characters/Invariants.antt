use Rattle.std.proofs.Common.{◌≡◌, ◌++◌, drop, string_bytes}
use Rattle.std.specs.Prelude.{encode_utf8_all}
use Rattle.ale_morph.proofs.spelling.push_characters.Given as goal

abbrev pub invariant-loop-c : goal.invariant-loop-c
invariant-loop-c l =
    string_bytes l.out ++ encode_utf8_all (drop l.c-index l.text) ≡ string_bytes l.fn.out ++ encode_utf8_all l.text
