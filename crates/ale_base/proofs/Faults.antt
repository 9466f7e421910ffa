-- What follows from how a call counted its faults.
use Rattle.std.proofs.Common.{ℕ, ◌<◌, ◌≤◌, ◌≡◌, arith}
use Rattle.ale_base.specs.Faults.{ExactlyWhereRose}

-- a call that does not answer with the fault leaves the count as it was
pub stays : (before now : ℕ) (fault : Type 0) → ExactlyWhereRose before now fault → (fault → ⊥) → now ≡ before
stays before now fault one never =
    let later : before ≤ now = one.later in
    let greater : (before < now) → ⊥ = λ h. never (one.greater h) in
    grind (arith, later, greater)
