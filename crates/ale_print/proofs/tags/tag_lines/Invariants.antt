use Rattle.std.proofs.Common.{◌≡◌, ◌≤◌, drop}
use Rattle.ale_print.specs.Steps.{tag_lines}
use Rattle.ale_print.proofs.tags.tag_lines.Given as goal

abbrev pub invariant-loop-line : goal.invariant-loop-line
invariant-loop-line l =
    (l.used ≤ l.line-index)
    × (tag_lines l.flags (drop l.line-index l.lines) (record { given = l.tags.items; used = l.used })
    ≡ tag_lines l.flags l.lines (record { given = l.fn.tags.items; used = 0 }))
