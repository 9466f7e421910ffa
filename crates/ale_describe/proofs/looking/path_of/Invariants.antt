use Rattle.std.proofs.Common.{◌≡◌, ◌++◌, map, drop}
use Rattle.ale_declared.specs.Names.{number}
use Rattle.ale_describe.specs.Known.{HaveAll}
use Rattle.ale_describe.specs.Templating.{path_of}
use Rattle.ale_describe.proofs.looking.path_of.Given as goal

abbrev pub invariant-loop-name : goal.invariant-loop-name
invariant-loop-name l = record {
  so_far : l.path.items ++ map (number l.sig.features) (drop l.name-index l.names) ≡ path_of l.sig l.names;
  known : HaveAll l.sig.features (drop l.name-index l.names);
}
