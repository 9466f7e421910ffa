use Rattle.std.proofs.Common.{◌≡◌, drop}
use Rattle.ale_grammar.specs.Lines.{side_after}
use Rattle.ale_grammar.proofs.Going.{before}
use Rattle.ale_grammar.proofs.lines.side_of.Given as goal

abbrev pub invariant-loop-part : goal.invariant-loop-part
invariant-loop-part l = record {
  so_far : before l.pieces.items (side_after l.slots (drop l.part-index l.parts)) ≡ side_after l.fn.slots l.parts;
}
