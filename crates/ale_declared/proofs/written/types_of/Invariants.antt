use Rattle.std.proofs.Common.{◌≡◌, drop}
use Rattle.std.specs.List.{flat_map}
use Rattle.ale_declared.specs.Names.{numbered}
use Rattle.ale_declared.specs.Declarations.{type_names, types_of}
use Rattle.ale_declared.proofs.written.types_of.Given as goal

abbrev pub invariant-loop-decl : goal.invariant-loop-decl
invariant-loop-decl l = numbered l.types (flat_map type_names (drop l.decl-index l.decls)) ≡ types_of l.decls
