use Rattle.std.proofs.Common.{◌≡◌, ℕ, drop, map, ◌++◌}
use Rattle.std.specs.List.{filter}
use Rattle.ale_declared.specs.Names.{number}
use Rattle.ale_declared.specs.Declarations.{is_top, top_edges}
use Rattle.ale_declared.proofs.written.push_unmentioned.Given as goal

abbrev pub invariant-loop-t : goal.invariant-loop-t
invariant-loop-t l =
    l.edges.items ++ map {B = ℕ × ℕ} (λ x. (0, number l.types x)) (filter (is_top l.subs) (drop l.t l.types))
    ≡ l.initial.edges.items ++ top_edges l.types l.subs
