use Rattle.std.proofs.Common.{◌≡◌, suc, map, drop}
use Rattle.ale_declaration.specs.Declarations.{declaration_data}
use Rattle.ale_naming.specs.Known.{HaveKnownParts}
use Rattle.ale_naming.specs.Rounds.{round_three}
use Rattle.ale_naming.proofs.round_three.round_three.Given as goal

abbrev pub invariant-loop-index : goal.invariant-loop-index
invariant-loop-index l = record {
  known : HaveKnownParts l.sig l.names.vocabulary (map declaration_data (drop l.index l.decls));
  so_far : round_three l.sig l.names (suc l.index) l.so_far (map declaration_data (drop l.index l.decls)) ≡ round_three l.sig l.names 1 0 (map declaration_data l.decls);
}
