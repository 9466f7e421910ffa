use Rattle.std.proofs.Common.{◌≡◌, ◌+◌, ◌≤◌, suc, drop}
use Rattle.ale_declared.specs.Lists.{sum_over}
use Rattle.ale_hierarchy.specs.Order.{approp, size, if_there}
use Rattle.ale_hierarchy.specs.Limits.{most_nodes}
use Rattle.ale_signature.proofs.sizes.size_of.Given as goal

abbrev pub invariant-loop-f : goal.invariant-loop-f
invariant-loop-f l = record {
  sum : l.total + sum_over (λ f. if_there (size l.order) (approp l.order f l.t)) (drop l.f-index l.listed) ≡ suc (sum_over (λ f. if_there (size l.order) (approp l.order f l.t)) l.listed);
  some : 1 ≤ l.total;
  small : l.total ≤ most_nodes;
}
