-- What was read, before what the parts that are left give.
use Rattle.std.proofs.Common.{◌≡◌, suc, map, drop, length}
use Rattle.ale_command.specs.Commands.{command_data}
use Rattle.ale_load.specs.Commands.{command_in}
use Rattle.ale_load.specs.Files.{parts}
use Rattle.ale_load.specs.Reading.{each_read}
use Rattle.ale_load.specs.Views.{parts_in}
use Rattle.ale_load.proofs.Parts.{front}
use Rattle.ale_load.proofs.commands.commands.Given as goal

abbrev pub invariant-loop-range : goal.invariant-loop-range
invariant-loop-range l = record {
  count : length l.read.items ≡ l.range-index;
  so_far : front (map command_data l.read.items)
      (each_read command_in (suc l.range-index) (parts l.parts.text.now l.parts.tokens.items (drop l.range-index l.ranges)))
      ≡ each_read command_in 1 (parts_in l.parts);
}
