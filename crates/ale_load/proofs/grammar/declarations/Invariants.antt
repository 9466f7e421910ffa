-- What was read, before what the parts that are left give.
use Rattle.std.proofs.Common.{◌≡◌, suc, map, drop, length}
use Rattle.ale_declaration.specs.Declarations.{declaration_data}
use Rattle.ale_load.specs.Grammars.{declaration_in}
use Rattle.ale_load.specs.Files.{parts}
use Rattle.ale_load.specs.Reading.{each_read}
use Rattle.ale_load.specs.Views.{parts_in}
use Rattle.ale_load.proofs.Parts.{front}
use Rattle.ale_load.proofs.grammar.declarations.Given as goal

abbrev pub invariant-loop-range : goal.invariant-loop-range
invariant-loop-range l = record {
  count : length l.read.items ≡ l.range-index;
  so_far : front (map declaration_data l.read.items)
      (each_read declaration_in (suc l.range-index) (parts l.parts.text.now l.parts.tokens.items (drop l.range-index l.ranges)))
      ≡ each_read declaration_in 1 (parts_in l.parts);
}
