-- What the logic asks of a signature: which types are above which, joins, appropriateness, and the laws
-- that these obey. Types are the numbers below `types`, 0 the most general one; features are the numbers
-- below `features`. Source: type hierarchies and appropriateness, Carpenter 1992, chapters 2 and 6.
use Rattle.std.specs.Prelude.{◌≡◌, ◌≢◌, ℕ, suc, ◌<◌, ◌≤◌, Bool, true, Option, Some, None}
use Rattle.ale_declared.specs.Lists.{upto, sum_over}
use Rattle.ale_hierarchy.specs.Limits.{most_nodes}

pub record Hierarchy : Type 0 where
  pub types : ℕ
  pub features : ℕ
  -- is_above a b: a is b, or more general
  pub is_above : ℕ → ℕ → Bool
  -- the least common subtype of two types
  pub join : ℕ → ℕ → Option ℕ
  -- approp f t: the restriction on the value by feature f at type t, where f is appropriate to t
  pub approp : ℕ → ℕ → Option ℕ
  -- the most general type to which a feature is appropriate
  pub intro : ℕ → ℕ
  pub is_ext : ℕ → Bool
  -- how many types a type is above, itself among them
  pub rank : ℕ → ℕ
  -- how many nodes a node of this type has with all that is filled in below it
  pub size : ℕ → ℕ

abbrev pub Above : Hierarchy → ℕ → ℕ → Type 0
Above h a b = h.is_above a b ≡ true

-- the size of what a feature's value is filled with
abbrev pub size_at : Hierarchy → Option ℕ → ℕ
size_at h None = 0
size_at h (Some r) = h.size r

-- The laws of an accepted signature. `is_above` is the order, `join` and `approp` are least, sizes add up.
pub record IsLawful (h : Hierarchy) : Type 0 where
  pub along_self : (a : ℕ) → Above h a a
  pub along : (a b c : ℕ) → Above h a b → Above h b c → Above h a c
  pub inside : (a b : ℕ) → Above h a b → a < h.types → b < h.types
  pub bottom : (a : ℕ) → a < h.types → Above h 0 a
  pub some_type : 0 < h.types
  pub join_inside : (a b c : ℕ) → h.join a b ≡ Some c → c < h.types
  pub join_left : (a b c : ℕ) → h.join a b ≡ Some c → Above h a c
  pub join_right : (a b c : ℕ) → h.join a b ≡ Some c → Above h b c
  pub join_least : (a b c d : ℕ) → h.join a b ≡ Some c → d < h.types → Above h a d → Above h b d → Above h c d
  pub join_there : (a b d : ℕ) → d < h.types → Above h a d → Above h b d → (c : ℕ) × (h.join a b ≡ Some c)
  pub approp_inside : (f t r : ℕ) → h.approp f t ≡ Some r → (f < h.features) × (r < h.types)
  pub approp_along : (f t u r : ℕ) → u < h.types → Above h t u → h.approp f t ≡ Some r → (q : ℕ) × (h.approp f u ≡ Some q) × Above h r q
  pub approp_intro : (f t r : ℕ) → h.approp f t ≡ Some r → Above h (h.intro f) t
  pub intro_inside : (f : ℕ) → f < h.features → h.intro f < h.types
  pub intro_there : (f t : ℕ) → f < h.features → t < h.types → Above h (h.intro f) t → (r : ℕ) × (h.approp f t ≡ Some r)
  pub rank_less : (a b : ℕ) → Above h a b → a ≢ b → h.rank b < h.rank a
  pub size_is : (t : ℕ) → t < h.types → h.size t ≡ suc (sum_over (λ f. size_at h (h.approp f t)) (upto h.features))
  pub size_small : (t : ℕ) → t < h.types → h.size t ≤ most_nodes
  pub ext_last : (a b : ℕ) → h.is_ext a ≡ true → Above h a b → a ≡ b
