use Rattle.std.proofs.Common.{◌≡◌, ◌++◌, eqb, get_or}
use Rattle.std.specs.List.{filter}
use Rattle.ale_declared.specs.Lists.{upto}
use Rattle.ale_hierarchy.proofs.lacking.push_of_rank.Given as goal

abbrev pub invariant-loop-t : goal.invariant-loop-t
invariant-loop-t l = l.types.items ≡ l.fn.types.items ++ filter (λ t. eqb (get_or l.ranks t 0) l.rank) (upto l.t)
