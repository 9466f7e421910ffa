use Rattle.std.proofs.Common.{◌≡◌, ℕ, List, Option}
use Rattle.ale_morphism.specs.Visible.{is_start, is_reached}
use Rattle.ale_morphism.specs.Reaching.{starting, flags_of}
use Rattle.ale_morphism.proofs.seen.flags_from.Given as goal

abbrev pub invariant-loop-round : goal.invariant-loop-round
invariant-loop-round l = (differ : List (ℕ × ℕ)) (roots : List (Option ℕ)) →
    l.fn.flags.items ≡ flags_of l.g (is_start (starting l.g differ roots)) → l.flags.items ≡ flags_of l.g (is_reached (starting l.g differ roots) l._round)
