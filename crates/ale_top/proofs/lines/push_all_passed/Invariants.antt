use Rattle.std.proofs.Common.{◌≡◌, ◌++◌, map, drop, string_bytes}
use Rattle.ale_load.specs.Views.{passed_data}
use Rattle.ale_top.specs.Lines.{passed_text}
use Rattle.ale_top.proofs.lines.push_all_passed.Given as goal

abbrev pub invariant-loop-directive : goal.invariant-loop-directive
invariant-loop-directive l =
    string_bytes l.out ++ passed_text (map passed_data (drop l.directive-index l.passed)) ≡ string_bytes l.fn.out ++ passed_text (map passed_data l.passed)
