-- Which declared signatures are accepted: the limits are kept, the order has no cycle, two types with a
-- common subtype have a least one, each feature has one most general type that mentions it, restrictions
-- that apply together have a join, no type leads back to itself by restrictions, no other type is below an
-- extensional one, and what fills a type's features in has few nodes.
-- Source: Carpenter 1992, chapters 2 and 6; the limits are this project's own.
use Rattle.std.specs.Prelude.{◌≡◌, ℕ, ◌<◌, ◌≤◌, List, length}
use Rattle.std.specs.List.{flat_map, filter_map}
use Rattle.std.specs.Option.{option_map}
use Rattle.ale_relation.specs.Paths.{Leads}
use Rattle.ale_declared.specs.Declarations.{Declared}
use Rattle.ale_declared.specs.Lists.{Has}
use Rattle.ale_hierarchy.specs.Order.{IsAbove, IsJoin, Applies, IsRestriction, Introduces, all_types, all_features, approp, size}
use Rattle.ale_hierarchy.specs.Limits.{most_types, most_features, most_nodes}
use Rattle.ale_declared.specs.declared.decl.Mention.{Mention}

-- from each type to the restriction on each of its features
abbrev pub restriction_edges : Declared → List (ℕ × ℕ)
restriction_edges d =
    flat_map (λ t. filter_map (λ f. option_map (λ r. (t, r)) (approp d f t)) (all_features d)) (all_types d)

pub record IsAccepted (d : Declared) : Type 0 where
  pub few_types : length d.types ≤ most_types
  pub few_features : length d.features ≤ most_features
  pub no_cycle : (t : ℕ) → Leads d.edges t t → ⊥
  pub joins : (a b c : ℕ) → c < length d.types → IsAbove d a c → IsAbove d b c → (j : ℕ) × IsJoin d a b j
  pub one_intro : (f : ℕ) → f < length d.features → (t : ℕ) × Introduces d f t
  pub restrictions_join : (f t : ℕ) (m : Mention) → t < length d.types → Applies d f t m → (r : ℕ) × IsRestriction d f t r
  pub no_loop : (t : ℕ) → Leads (restriction_edges d) t t → ⊥
  pub ext_last : (t u : ℕ) → Has d.ext t → IsAbove d t u → t ≡ u
  pub small : (t : ℕ) → t < length d.types → size d t ≤ most_nodes
