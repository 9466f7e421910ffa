use Rattle.std.proofs.Common.{◌≡◌, ℕ, ◌<◌}
use Rattle.ale_hierarchy.specs.Order.{Introduces, intro}
use Rattle.ale_hierarchy.specs.Stages.{tabulated}
use Rattle.ale_signature.proofs.restrictions.intros.Given as goal

abbrev pub invariant-loop-f : goal.invariant-loop-f
invariant-loop-f l = record {
  value : l.intros.items ≡ tabulated (intro l.order) l.f;
  introduces : (g : ℕ) → g < l.f → Introduces l.order g (intro l.order g);
}
