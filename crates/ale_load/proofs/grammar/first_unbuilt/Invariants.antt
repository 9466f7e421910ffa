use Rattle.std.proofs.Common.{◌≡◌, suc, map, drop}
use Rattle.ale_declaration.specs.Declarations.{declaration_data}
use Rattle.ale_load.specs.Reading.{first_without}
use Rattle.ale_stage.specs.Stages.{declaration_is_built}
use Rattle.ale_load.proofs.grammar.first_unbuilt.Given as goal

abbrev pub invariant-loop-index : goal.invariant-loop-index
invariant-loop-index l =
    first_without declaration_is_built (suc l.index) (map declaration_data (drop l.index l.declarations)) ≡ first_without declaration_is_built 1 (map declaration_data l.declarations)
