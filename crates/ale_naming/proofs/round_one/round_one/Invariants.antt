use Rattle.std.proofs.Common.{◌≡◌, suc, map, drop}
use Rattle.ale_declaration.specs.Declarations.{declaration_data}
use Rattle.ale_naming.specs.Rounds.{round_one}
use Rattle.ale_naming.proofs.round_one.round_one.Given as goal

abbrev pub invariant-loop-index : goal.invariant-loop-index
invariant-loop-index l =
    round_one l.sig l.vocabulary (suc l.index) (map declaration_data (drop l.index l.decls)) ≡ round_one l.sig l.vocabulary 1 (map declaration_data l.decls)
