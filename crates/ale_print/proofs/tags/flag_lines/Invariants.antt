use Rattle.std.proofs.Common.{◌≡◌, drop}
use Rattle.ale_print.specs.Steps.{flag_lines}
use Rattle.ale_print.proofs.tags.flag_lines.Given as goal

abbrev pub invariant-loop-line : goal.invariant-loop-line
invariant-loop-line l = flag_lines (drop l.line-index l.lines) l.flags.items ≡ flag_lines l.lines l.fn.flags.items
