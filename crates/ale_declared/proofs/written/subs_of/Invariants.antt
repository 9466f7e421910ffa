use Rattle.std.proofs.Common.{◌≡◌, drop, []}
use Rattle.std.specs.List.{flat_map}
use Rattle.ale_declared.specs.Names.{numbered}
use Rattle.ale_declared.specs.Declarations.{sub_names}
use Rattle.ale_declared.proofs.written.subs_of.Given as goal

abbrev pub invariant-loop-decl : goal.invariant-loop-decl
invariant-loop-decl l = numbered l.subs (flat_map sub_names (drop l.decl-index l.decls)) ≡ numbered [] (flat_map sub_names l.decls)
