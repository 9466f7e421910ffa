use Rattle.std.proofs.Common.{◌≡◌, drop}
use Rattle.ale_declared.specs.Lists.{every}
use Rattle.ale_morphism.proofs.rooted.are_set.Given as goal

abbrev pub invariant-loop-flag : goal.invariant-loop-flag
invariant-loop-flag l = every (λ b. b) (drop l.flag-index l.flags) ≡ every (λ b. b) l.flags
