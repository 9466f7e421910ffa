use Rattle.std.proofs.Common.{◌≡◌, ℕ, ◌<◌}
use Rattle.ale_hierarchy.specs.Order.{approp}
use Rattle.ale_hierarchy.specs.Stages.{tabulated, HasRestriction}
use Rattle.ale_signature.proofs.restrictions.restriction_row.Given as goal

abbrev pub invariant-loop-t : goal.invariant-loop-t
invariant-loop-t l = record {
  row : l.row.items ≡ tabulated (approp l.order l.f) l.t;
  there : (u : ℕ) → u < l.t → HasRestriction l.order l.f u;
}
