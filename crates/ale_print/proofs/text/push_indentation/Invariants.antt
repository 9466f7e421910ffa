use Rattle.std.proofs.Common.{◌≡◌, ◌++◌, string_bytes}
use Rattle.std.specs.Prelude.{encode_utf8_all}
use Rattle.ale_print.specs.Texts.{indentation}
use Rattle.ale_print.proofs.text.push_indentation.Given as goal

abbrev pub invariant-loop-left : goal.invariant-loop-left
invariant-loop-left l =
    string_bytes l.out ++ encode_utf8_all (indentation l.left) ≡ string_bytes l.fn.out ++ encode_utf8_all (indentation l.level)

abbrev pub decreases-loop-left : goal.decreases-loop-left
decreases-loop-left l = l.left
