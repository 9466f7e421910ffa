use Rattle.std.proofs.Common.{◌≡◌, suc, map, drop}
use Rattle.ale_declaration.specs.Declarations.{declaration_data}
use Rattle.ale_naming.specs.Rounds.{round_two, nothing_earlier}
use Rattle.ale_naming.proofs.round_two.round_two.Given as goal

abbrev pub invariant-loop-index : goal.invariant-loop-index
invariant-loop-index l =
    round_two l.vocabulary l.cyclic (suc l.index) l.earlier (map declaration_data (drop l.index l.decls)) ≡ round_two l.vocabulary l.cyclic 1 nothing_earlier (map declaration_data l.decls)
