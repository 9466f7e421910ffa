use Rattle.std.proofs.Common.{◌≡◌, drop}
use Rattle.std.specs.List.{flat_map}
use Rattle.ale_declared.specs.Names.{numbered}
use Rattle.ale_declared.specs.Declarations.{feature_names, features_of}
use Rattle.ale_declared.proofs.written.features_of.Given as goal

abbrev pub invariant-loop-decl : goal.invariant-loop-decl
invariant-loop-decl l = numbered l.features (flat_map feature_names (drop l.decl-index l.decls)) ≡ features_of l.decls
