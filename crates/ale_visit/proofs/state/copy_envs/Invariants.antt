use Rattle.std.proofs.Common.{◌≡◌, take}
use Rattle.ale_visit.proofs.state.copy_envs.Given as goal

abbrev pub invariant-loop-env : goal.invariant-loop-env
invariant-loop-env l = l.copies.items ≡ take l.env-index l.envs
