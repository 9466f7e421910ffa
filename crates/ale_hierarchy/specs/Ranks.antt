-- The types by falling rank. A rank is higher than those of all types below, so that where two types have a least
-- common subtype it is the first of their common subtypes in that order. Source: this project's own way to find it.
use Rattle.std.specs.Prelude.{◌≡◌, ℕ, ◌<◌, ◌≤◌, true, List, length, slice_index}
use Rattle.ale_relation.specs.Has.{Has}
use Rattle.ale_relation.specs.Rows.{Rows, holds}
use Rattle.ale_declared.specs.Declarations.{Declared}
use Rattle.ale_hierarchy.specs.Order.{is_above, rank}
use Rattle.ale_hierarchy.specs.Stages.{are_below}

-- all types, the higher ranks first
pub record IsByRank (d : Declared) (types : List ℕ) : Type 0 where
  pub count : length types ≡ length d.types
  pub within : are_below (length d.types) types ≡ true
  pub all : (t : ℕ) → t < length d.types → Has types t
  pub falling : (i j : ℕ) → i < j → j < length types → rank d (slice_index types j) ≤ rank d (slice_index types i)

-- each type stands to the places of its subtypes in the list
pub record TellsPlaces (d : Declared) (types : List ℕ) (places : Rows) : Type 0 where
  pub size : places.size ≡ length d.types
  pub below : (a k : ℕ) → a < length d.types → k < length d.types → holds places a k ≡ is_above d a (slice_index types k)

pub record IsRanked (d : Declared) (types : List ℕ) (places : Rows) : Type 0 where
  pub order : IsByRank d types
  pub told : TellsPlaces d types places
