use Rattle.std.proofs.Common.{◌≡◌, ◌++◌, drop, string_bytes}
use Rattle.std.specs.Prelude.{encode_utf8_all}
use Rattle.std.specs.List.{flat_map}
use Rattle.ale_print.specs.Texts.{pair_text}
use Rattle.ale_print.proofs.text.push_pairs.Given as goal

abbrev pub invariant-loop-pair : goal.invariant-loop-pair
invariant-loop-pair l =
    string_bytes l.out ++ encode_utf8_all (flat_map pair_text (drop l.pair-index l.pairs))
    ≡ string_bytes l.fn.out ++ encode_utf8_all (flat_map pair_text l.pairs)
