use Rattle.std.proofs.Common.{◌≡◌, drop}
use Rattle.ale_declared.specs.Lists.{every}
use Rattle.ale_graph.specs.Structures.{is_root}
use Rattle.test_logic.proofs.printing.are_roots.Given as goal

abbrev pub invariant-loop-root : goal.invariant-loop-root
invariant-loop-root l = every (is_root l.nodes) (drop l.root-index l.roots) ≡ every (is_root l.nodes) l.roots
