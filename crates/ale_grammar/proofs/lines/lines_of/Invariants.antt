use Rattle.std.proofs.Common.{◌≡◌, ◌++◌, map, drop}
use Rattle.ale_grammar.specs.Lines.{line_of}
use Rattle.ale_grammar.proofs.lines.lines_of.Given as goal

abbrev pub invariant-loop-line : goal.invariant-loop-line
invariant-loop-line l = record {
  so_far : l.made.items ++ map line_of (drop l.line-index l.lines) ≡ map line_of l.lines;
}
