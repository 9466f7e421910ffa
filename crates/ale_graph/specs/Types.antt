-- The least types of classes that obey the facts, or nothing where a join is missing: what nodes are told
-- to be, what features introduce, and what they restrict. Source: type inference, Carpenter 1992, chapter 6.
use Rattle.std.specs.Prelude.{ℕ, suc, eqb, Option, Some, None, List, if◌then◌else◌}
use Rattle.ale_declared.specs.Lists.{upto, sum_over}
use Rattle.ale_hierarchy.specs.Hierarchy.{Hierarchy}
use Rattle.ale_graph.specs.declared.fact.Fact.{Fact}
use Rattle.ale_graph.specs.declared.fact.Fact.TheVariants.{OfType, Value, Same, Differ}
use Rattle.ale_graph.specs.Settled.{or_else, first_some, settle}

-- the function with another value at one place
abbrev pub set_at : ℕ → ℕ → (ℕ → ℕ) → ℕ → ℕ
set_at c v f k = if eqb k c then v else f k

-- a class and a type that it must be at least, where its type is not yet
abbrev pub too_low : Hierarchy → (ℕ → ℕ) → ℕ → ℕ → Option (ℕ × ℕ)
too_low h types c t = if h.is_above t (types c) then None else Some (c, t)

-- the same for the restriction by a feature, where it is appropriate
abbrev pub too_low_by : Hierarchy → (ℕ → ℕ) → ℕ → Option ℕ → Option (ℕ × ℕ)
too_low_by h types c None = None
too_low_by h types c (Some r) = too_low h types c r

-- what a fact asks of the types
abbrev pub asked : Hierarchy → (ℕ → ℕ) → (ℕ → ℕ) → Fact → Option (ℕ × ℕ)
asked h class types (OfType n t) = too_low h types (class n) t
asked h class types (Value n f m) = or_else (too_low h types (class n) (h.intro f)) (too_low_by h types (class m) (h.approp f (types (class n))))
asked h class types (Same a b) = None
asked h class types (Differ a b) = None

-- after a missing join nothing is asked
abbrev pub open_types : Hierarchy → List Fact → (ℕ → ℕ) → Option (ℕ → ℕ) → Option (ℕ × ℕ)
open_types h facts class None = None
open_types h facts class (Some types) = first_some (asked h class types) facts

abbrev pub raised_by : ℕ → (ℕ → ℕ) → Option ℕ → Option (ℕ → ℕ)
raised_by c types None = None
raised_by c types (Some v) = Some (set_at c v types)

-- the class's type becomes its join with what is asked
abbrev pub raised : Hierarchy → ℕ × ℕ → Option (ℕ → ℕ) → Option (ℕ → ℕ)
raised h p None = None
raised h p (Some types) = raised_by p.0 types (h.join (types p.0) p.1)

-- each raise lowers it
abbrev pub types_left : Hierarchy → ℕ → Option (ℕ → ℕ) → ℕ
types_left h next None = 0
types_left h next (Some types) = suc (sum_over (λ c. h.rank (types c)) (upto next))

-- from the most general type everywhere
unfoldable pub least_types : Hierarchy → List Fact → ℕ → (ℕ → ℕ) → Option (ℕ → ℕ)
least_types h facts next class =
    settle (open_types h facts class) (raised h) (types_left h next (Some (λ c. 0))) (Some (λ c. 0))
