use Rattle.std.proofs.Common.{◌≡◌, suc, map, drop}
use Rattle.ale_command.specs.Commands.{command_data}
use Rattle.ale_load.specs.Reading.{first_without}
use Rattle.ale_stage.specs.Stages.{command_is_built}
use Rattle.ale_load.proofs.commands.first_unbuilt.Given as goal

abbrev pub invariant-loop-index : goal.invariant-loop-index
invariant-loop-index l =
    first_without command_is_built (suc l.index) (map command_data (drop l.index l.commands)) ≡ first_without command_is_built 1 (map command_data l.commands)
