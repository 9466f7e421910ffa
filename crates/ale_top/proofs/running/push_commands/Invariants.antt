-- What was written and whether all ended so far, before what the commands that are left give.
use Rattle.std.proofs.Common.{◌≡◌, ◌⊎◌, ◌++◌, ◌&&◌, suc, map, drop, string_bytes}
use Rattle.ale_relation.specs.Has.{Has}
use Rattle.ale_hierarchy.specs.Order.{hierarchy}
use Rattle.ale_report.specs.Written.{AreCountable}
use Rattle.ale_load.specs.Commands.{QueryData, AllFit}
use Rattle.ale_load.specs.Views.{query_data}
use Rattle.ale_top.specs.Output.{search_for, commands_text, all_finished}
use Rattle.ale_top.proofs.running.push_commands.Given as goal

abbrev pub invariant-loop-index : goal.invariant-loop-index
invariant-loop-index l = record {
  fit : AllFit (hierarchy l.sig) (map query_data (drop l.index l.queries));
  so_far : string_bytes l.out ++ commands_text l.sig l.budget (suc l.index) (map query_data (drop l.index l.queries))
      ≡ string_bytes l.fn.out ++ commands_text l.sig l.budget 1 (map query_data l.queries);
  ended : (l.finished && all_finished l.sig l.budget (map query_data (drop l.index l.queries))) ≡ all_finished l.sig l.budget (map query_data l.queries);
  counted : (p : QueryData) → Has (map query_data l.queries) p → Has (map query_data (drop l.index l.queries)) p ⊎ AreCountable (search_for l.sig l.budget p).answers;
}
