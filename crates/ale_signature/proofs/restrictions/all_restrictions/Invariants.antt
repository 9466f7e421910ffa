use Rattle.std.proofs.Common.{◌≡◌, ℕ, ◌<◌, length}
use Rattle.ale_hierarchy.specs.Stages.{tabulated, restriction_row, HasRestriction}
use Rattle.ale_signature.proofs.restrictions.all_restrictions.Given as goal

abbrev pub invariant-loop-f : goal.invariant-loop-f
invariant-loop-f l = record {
  rows : l.rows.items ≡ tabulated (restriction_row l.order) l.f;
  there : (g t : ℕ) → g < l.f → t < length l.order.types → HasRestriction l.order g t;
}
