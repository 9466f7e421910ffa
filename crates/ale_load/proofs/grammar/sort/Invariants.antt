-- What was kept, before what the declarations that are left give.
use Rattle.std.proofs.Common.{◌≡◌, ◌++◌, suc, map, drop}
use Rattle.ale_declaration.specs.Declarations.{declaration_data}
use Rattle.ale_load.specs.Grammars.{types_of, passed_from}
use Rattle.ale_load.specs.Views.{passed_data}
use Rattle.ale_load.proofs.grammar.sort.Given as goal

abbrev pub invariant-loop-index : goal.invariant-loop-index
invariant-loop-index l = record {
  types : l.types.items ++ types_of (map declaration_data (drop l.index l.declarations)) ≡ types_of (map declaration_data l.declarations);
  passed : map passed_data l.passed.items ++ passed_from (suc l.index) (map declaration_data (drop l.index l.declarations))
      ≡ passed_from 1 (map declaration_data l.declarations);
}
