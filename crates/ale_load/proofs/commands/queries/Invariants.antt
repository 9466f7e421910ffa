-- What was found, before what the commands that are left ask for.
use Rattle.std.proofs.Common.{◌≡◌, suc, map, drop}
use Rattle.ale_command.specs.Commands.{command_data}
use Rattle.ale_load.specs.Commands.{queries_after}
use Rattle.ale_load.specs.Views.{loaded_data, query_data}
use Rattle.ale_load.proofs.Queries.{before}
use Rattle.ale_load.proofs.commands.queries.Given as goal

abbrev pub invariant-loop-index : goal.invariant-loop-index
invariant-loop-index l =
    before (map query_data l.found.items) (queries_after (loaded_data l.loaded) (suc l.index) l.so_far (map command_data (drop l.index l.commands)))
    ≡ queries_after (loaded_data l.loaded) 1 0 (map command_data l.commands)
