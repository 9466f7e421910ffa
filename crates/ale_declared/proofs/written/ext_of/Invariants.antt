use Rattle.std.proofs.Common.{◌≡◌, drop, ◌++◌}
use Rattle.std.specs.List.{flat_map}
use Rattle.ale_declared.specs.Declarations.{written_ext}
use Rattle.ale_declared.proofs.written.ext_of.Given as goal

abbrev pub invariant-loop-decl : goal.invariant-loop-decl
invariant-loop-decl l = l.ext.items ++ flat_map (written_ext l.types) (drop l.decl-index l.decls) ≡ flat_map (written_ext l.types) l.decls
