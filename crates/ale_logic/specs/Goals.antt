-- Goals: what is to be derived from a program's clauses. Source: definite clauses over descriptions, Carpenter
-- 1992, chapter 14; cut, negation and if-then as in Prolog.
use Rattle.std.specs.Prelude.{ℕ}
use Rattle.ale_hierarchy.specs.Hierarchy.{Hierarchy}
use Rattle.ale_logic.specs.Descriptions.{Description, Descriptions, FitsDescription, FitDescriptions}

mutual
  pub data Goal : Type 0 where
    yes : Goal
    cut : Goal
    -- each of these, one of these
    each : Goals → Goal
    either : Goals → Goal
    -- both descriptions hold at one node
    equal : Description → Description → Goal
    -- the predicate with this number, of nodes at which the descriptions hold
    call : ℕ → Descriptions → Goal
    -- not; if, then, else; if, then
    unless : Goal → Goal
    if_else : Goal → Goal → Goal → Goal
    once : Goal → Goal → Goal

  pub data Goals : Type 0 where
    no_goal : Goals
    and_goal : Goal → Goals → Goals

-- its types and features are ones of the signature, and its variables have slots among so many
abbrev mutual
  pub FitsGoal : Hierarchy → ℕ → Goal → Type 0
  FitsGoal h slots yes = Unit {0}
  FitsGoal h slots cut = Unit {0}
  FitsGoal h slots (each gs) = FitGoals h slots gs
  FitsGoal h slots (either gs) = FitGoals h slots gs
  FitsGoal h slots (equal d e) = FitsDescription h slots d × FitsDescription h slots e
  FitsGoal h slots (call p ds) = FitDescriptions h slots ds
  FitsGoal h slots (unless g) = FitsGoal h slots g
  FitsGoal h slots (if_else c t e) = FitsGoal h slots c × FitsGoal h slots t × FitsGoal h slots e
  FitsGoal h slots (once c t) = FitsGoal h slots c × FitsGoal h slots t

  pub FitGoals : Hierarchy → ℕ → Goals → Type 0
  FitGoals h slots no_goal = Unit {0}
  FitGoals h slots (and_goal g gs) = FitsGoal h slots g × FitGoals h slots gs

-- no cut, negation or if-then stands in it
abbrev mutual
  pub IsPlain : Goal → Type 0
  IsPlain yes = Unit {0}
  IsPlain cut = ⊥
  IsPlain (each gs) = ArePlain gs
  IsPlain (either gs) = ArePlain gs
  IsPlain (equal d e) = Unit {0}
  IsPlain (call p ds) = Unit {0}
  IsPlain (unless g) = ⊥
  IsPlain (if_else c t e) = ⊥
  IsPlain (once c t) = ⊥

  pub ArePlain : Goals → Type 0
  ArePlain no_goal = Unit {0}
  ArePlain (and_goal g gs) = IsPlain g × ArePlain gs
