use Rattle.std.proofs.Common.{◌≡◌, drop, map, ◌++◌}
use Rattle.ale_declared.specs.Names.{number}
use Rattle.ale_declared.proofs.written.push_below.Given as goal

abbrev pub invariant-loop-sub : goal.invariant-loop-sub
invariant-loop-sub l = l.edges.items ++ map (λ s. (l.above, number l.types s)) (drop l.sub-index l.subs) ≡ l.initial.edges.items ++ map (λ s. (l.above, number l.types s)) l.subs
