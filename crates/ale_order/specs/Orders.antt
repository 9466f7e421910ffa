-- In which order numbers can be taken so that each comes after those that it calls, and which of them lead back to
-- themselves. Source: topological orders (Kahn 1962), folklore; the words are this project's own.
use Rattle.std.specs.Prelude.{ℕ, ◌<◌, ◌↔◌, List, [], ◌∷◌}
use Rattle.ale_relation.specs.Has.{Has}
use Rattle.ale_relation.specs.Paths.{Leads}

-- `m` leads back to itself by one or more calls; `calls` has pairs of one that calls and one that it calls
abbrev pub IsCyclic : List (ℕ × ℕ) → ℕ → Type 0
IsCyclic calls m = Leads calls m m

-- `m` leads back to itself, and none before it does
pub record IsFirstCyclic (calls : List (ℕ × ℕ)) (m : ℕ) : Type 0 where
  pub cyclic : IsCyclic calls m
  pub before : (k : ℕ) → k < m → IsCyclic calls k → ⊥

-- no number stands twice in the list
abbrev pub Distinct : List ℕ → Type 0
Distinct [] = Unit {0}
Distinct (m ∷ rest) = (Has rest m → ⊥) × Distinct rest

-- each of the list calls only those that stand before it in the list or are known already
abbrev pub CallsKnown : List (ℕ × ℕ) → List ℕ → List ℕ → Type 0
CallsKnown calls known [] = Unit {0}
CallsKnown calls known (m ∷ rest) =
    ((k : ℕ) → Has calls (m, k) → Has known k) × CallsKnown calls (m ∷ known) rest

-- the list has each number below `size` once and no other, each after those that it calls
pub record IsOrder (calls : List (ℕ × ℕ)) (size : ℕ) (order : List ℕ) : Type 0 where
  pub once : Distinct order
  pub each : (m : ℕ) → Has order m ↔ (m < size)
  pub after : CallsKnown calls [] order
