-- What the stages of building a signature establish of what is declared, one after another, and the tables
-- that they fill. Source: this project's own way to compute what Carpenter 1992, chapters 2 and 6, define.
use Rattle.std.specs.Prelude.{◌≡◌, ℕ, ◌<◌, ◌≤◌, ◌↔◌, ◌==◌, ◌&&◌, nat_lt, Bool, true, IsTrue, Option, Some, None, List, [], length, map, filter, slice_index_or}
use Rattle.std.specs.List.{list_all}
use Rattle.ale_relation.specs.Has.{Has}
use Rattle.ale_relation.specs.Paths.{Leads}
use Rattle.ale_relation.specs.Rows.{Rows, holds}
use Rattle.ale_declared.specs.Lists.{upto, every}
use Rattle.ale_declared.specs.Declarations.{Declared}
use Rattle.ale_hierarchy.specs.Order.{IsAbove, Applies, is_above, join_of, join, approp, intro, features, is_ext, size}
use Rattle.ale_hierarchy.specs.Limits.{most_types, most_features, most_nodes}
use Rattle.ale_hierarchy.specs.Accepted.{IsAccepted}
use Rattle.ale_declared.specs.Numbering.{IsWellNumbered}
use Rattle.ale_declared.specs.declared.decl.Mention.{Mention}

-- a function's values at the numbers below n, in order
abbrev pub tabulated : {A : Type 0} → (ℕ → A) → ℕ → List A
tabulated f n = map f (upto n)

-- the numbers are below n
abbrev pub are_below : ℕ → List ℕ → Bool
are_below n xs = list_all (λ x. nat_lt x n) xs

-- a table by rows: the entry in a row and a column, None where there is none
abbrev pub entry : List (List (Option ℕ)) → ℕ → ℕ → Option ℕ
entry rows a b = slice_index_or (slice_index_or rows a []) b None

-- ---- the order

-- The limits are kept, and no type leads back to itself.
pub record IsOrdered (d : Declared) : Type 0 where
  pub numbered : IsWellNumbered d
  pub few_types : length d.types ≤ most_types
  pub few_features : length d.features ≤ most_features
  pub no_cycle : (t : ℕ) → Leads d.edges t t → ⊥

-- the rows say what the edges lead to
pub record TellsLeads (d : Declared) (rows : Rows) : Type 0 where
  pub size : rows.size ≡ length d.types
  pub leads : (a b : ℕ) → a < length d.types → b < length d.types → IsTrue (holds rows a b) ↔ Leads d.edges a b

-- the types that are declared directly below a type
abbrev pub directly_below : List (ℕ × ℕ) → ℕ → List ℕ
directly_below edges a = map (λ e. e.1) (filter (λ e. e.0 == a) edges)

-- the type is among the types, and above all of them
pub record IsTop (d : Declared) (types : List ℕ) (t : ℕ) : Type 0 where
  pub among : Has types t
  pub above : every (λ u. is_above d t u) types ≡ true

-- ---- joins

-- where the two types have a common subtype, they have a least one
abbrev pub HasLeast : Declared → ℕ → ℕ → Type 0
HasLeast d a b = (c : ℕ) → c < length d.types → IsAbove d a c → IsAbove d b c → (j : ℕ) × (join d a b ≡ Some j)

-- the joins of a type with each type
abbrev pub join_row : Declared → ℕ → List (Option ℕ)
join_row d a = tabulated (join d a) (length d.types)

abbrev pub join_rows : Declared → List (List (Option ℕ))
join_rows d = tabulated (join_row d) (length d.types)

-- the type's row is filled, and the type has a least common subtype with each with which it has one
pub record IsFilled (d : Declared) (rows : List (List (Option ℕ))) (t : ℕ) : Type 0 where
  pub row : slice_index_or rows t [] ≡ join_row d t
  pub least : (b : ℕ) → b < length d.types → HasLeast d t b

-- ---- restrictions

-- the mentions of a feature
abbrev pub mentions_of : List Mention → ℕ → List Mention
mentions_of mentions f = filter (λ m. m.feature == f) mentions

-- the types that the mentions name are below n
abbrev pub are_within : ℕ → List Mention → Bool
are_within n ms = list_all (λ m. nat_lt m.at n && nat_lt m.restriction n) ms

-- the restrictions of those of the mentions that apply at the type
abbrev pub restricted : Declared → ℕ → List Mention → List ℕ
restricted d t ms = map (λ m. m.restriction) (filter (λ m. is_above d m.at t) ms)

-- the join of what was found and one restriction more
abbrev pub narrowed : Declared → Option ℕ → ℕ → Option ℕ
narrowed d None r = Some r
narrowed d (Some j) r = join d j r

-- there are some types, and they have no join
pub record HaveNoJoin (d : Declared) (types : List ℕ) : Type 0 where
  pub some : (t : ℕ) × Has types t
  pub none : join_of d types ≡ None

-- where a mention of the feature applies at the type, the feature is appropriate to it
abbrev pub HasRestriction : Declared → ℕ → ℕ → Type 0
HasRestriction d f t = (m : Mention) → Applies d f t m → (r : ℕ) × (approp d f t ≡ Some r)

-- the restrictions on a feature at each type
abbrev pub restriction_row : Declared → ℕ → List (Option ℕ)
restriction_row d f = tabulated (approp d f) (length d.types)

abbrev pub restriction_rows : Declared → List (List (Option ℕ))
restriction_rows d = tabulated (restriction_row d) (length d.features)

abbrev pub feature_lists : Declared → List (List ℕ)
feature_lists d = tabulated (features d) (length d.types)

-- ---- sizes

-- the sizes that are known, which are not 0, are those of the types, and within the limit
abbrev pub TellsSizes : Declared → List ℕ → Type 0
TellsSizes d sizes = (t : ℕ) → t < length d.types → 0 < slice_index_or sizes t 0 → (size d t ≡ slice_index_or sizes t 0) × (slice_index_or sizes t 0 ≤ most_nodes)

-- the sizes up to k, within the limit, are known
abbrev pub KnowsTo : Declared → ℕ → List ℕ → Type 0
KnowsTo d k sizes = (t : ℕ) → t < length d.types → size d t ≤ k → size d t ≤ most_nodes → 0 < slice_index_or sizes t 0

-- the feature has a restriction at the type whose size isn't known
pub record IsUnknown (d : Declared) (t : ℕ) (sizes : List ℕ) (f : ℕ) : Type 0 where
  pub restriction : ℕ
  pub there : approp d f t ≡ Some restriction
  pub unknown : slice_index_or sizes restriction 0 ≡ 0

-- ---- extensional types

-- no other type is below the type
abbrev pub IsLast : Declared → ℕ → Type 0
IsLast d t = (u : ℕ) → u < length d.types → is_above d t u ≡ true → t ≡ u

-- ---- all of it

-- the tables tell what the definitions say of an accepted signature
pub record IsTabled (d : Declared) (joins restrictions : List (List (Option ℕ))) (lists : List (List ℕ)) (intros : List ℕ) (ext : List Bool) : Type 0 where
  pub numbered : IsWellNumbered d
  pub accepted : IsAccepted d
  pub joins_are : joins ≡ join_rows d
  pub restrictions_are : restrictions ≡ restriction_rows d
  pub lists_are : lists ≡ feature_lists d
  pub intros_are : intros ≡ tabulated (intro d) (length d.features)
  pub ext_are : ext ≡ tabulated (is_ext d) (length d.types)
