use Rattle.std.proofs.Common.{◌≡◌, drop, ◌++◌}
use Rattle.std.specs.List.{flat_map}
use Rattle.ale_declared.specs.Declarations.{written_mentions}
use Rattle.ale_declared.proofs.written.mentions_of.Given as goal

abbrev pub invariant-loop-decl : goal.invariant-loop-decl
invariant-loop-decl l = l.mentions.items ++ flat_map (written_mentions l.types l.features) (drop l.decl-index l.decls) ≡ flat_map (written_mentions l.types l.features) l.decls
