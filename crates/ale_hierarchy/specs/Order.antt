-- Subtyping and appropriateness of a declared signature: a is above b where edges lead from a to b, joins
-- are least common subtypes, and a type's restriction on a feature is the join of all that apply.
-- Source: Carpenter 1992, chapter 2 (type hierarchies) and chapter 6 (appropriateness).
use Rattle.std.specs.Prelude.{◌≡◌, ℕ, zero, suc, ◌==◌, Bool, false, ◌&&◌, ◌||◌, not, Option, Some, None, is_some, unwrap_or, List, [], ◌∷◌, length, map, filter}
use Rattle.ale_relation.specs.Paths.{Reaches}
use Rattle.ale_declared.specs.Declarations.{Declared}
use Rattle.ale_declared.specs.Lists.{Has, upto, first, every, sum_over, is_among}
use Rattle.ale_hierarchy.specs.Limits.{most_nodes}
use Rattle.ale_hierarchy.specs.Hierarchy.{Hierarchy}
use Rattle.ale_declared.specs.declared.decl.Mention.{Mention}

-- a is b, or more general: edges lead from a to b
abbrev pub IsAbove : Declared → ℕ → ℕ → Type 0
IsAbove d a b = Reaches d.edges a b

-- j is the least common subtype of a and b
pub record IsJoin (d : Declared) (a b j : ℕ) : Type 0 where
  pub left : IsAbove d a j
  pub right : IsAbove d b j
  pub least : (c : ℕ) → IsAbove d a c → IsAbove d b c → IsAbove d j c

-- the mention is of the feature, at the type or above it, so that its restriction applies at the type
pub record Applies (d : Declared) (f t : ℕ) (m : Mention) : Type 0 where
  pub mentioned : Has d.mentions m
  pub feature : m.feature ≡ f
  pub above : IsAbove d m.at t

-- some restriction on the feature applies at the type, and r is the join of all that do
pub record IsRestriction (d : Declared) (f t r : ℕ) : Type 0 where
  pub mention : Mention
  pub applies : Applies d f t mention
  pub all : (m : Mention) → Applies d f t m → IsAbove d m.restriction r
  pub least : (c : ℕ) → ((m : Mention) → Applies d f t m → IsAbove d m.restriction c) → IsAbove d r c

-- t mentions the feature, and every type that mentions it is below t
pub record Introduces (d : Declared) (f t : ℕ) : Type 0 where
  pub mention : Mention
  pub mentions : Has d.mentions mention
  pub feature : mention.feature ≡ f
  pub at : mention.at ≡ t
  pub most_general : (m : Mention) → Has d.mentions m → m.feature ≡ f → IsAbove d t m.at

-- The same as functions, by trying the types in order of their numbers.

-- an edge leads from a to b
abbrev pub is_edge : List (ℕ × ℕ) → ℕ → ℕ → Bool
is_edge [] a b = false
is_edge (e ∷ es) a b = (e.0 == a && e.1 == b) || is_edge es a b

-- edges lead from a to b, and between the two only through types below m
unfoldable pub leads_through : List (ℕ × ℕ) → ℕ → ℕ → ℕ → Bool
leads_through edges zero a b = is_edge edges a b
leads_through edges (suc m) a b = leads_through edges m a b || (leads_through edges m a m && leads_through edges m m b)

unfoldable pub is_above : Declared → ℕ → ℕ → Bool
is_above d a b = a == b || leads_through d.edges (length d.types) a b

abbrev pub all_types : Declared → List ℕ
all_types d = upto (length d.types)

abbrev pub all_features : Declared → List ℕ
all_features d = upto (length d.features)

-- c is a subtype of each of the types
abbrev pub is_common : Declared → List ℕ → ℕ → Bool
is_common d ts c = every (λ t. is_above d t c) ts

-- the least common subtype of the types, where there is one
unfoldable pub join_of : Declared → List ℕ → Option ℕ
join_of d ts = first (λ j. is_common d ts j && every (λ c. not (is_common d ts c) || is_above d j c) (all_types d)) (all_types d)

abbrev pub join : Declared → ℕ → ℕ → Option ℕ
join d a b = join_of d (a ∷ b ∷ [])

-- the restrictions on the feature that apply at the type
abbrev pub restrictions : Declared → ℕ → ℕ → List ℕ
restrictions d f t = map (λ m. m.restriction) (filter (λ m. m.feature == f && is_above d m.at t) d.mentions)

abbrev pub join_of_some : Declared → List ℕ → Option ℕ
join_of_some d [] = None
join_of_some d (r ∷ rs) = join_of d (r ∷ rs)

-- the restriction on the feature's value at the type; none where the feature isn't appropriate to it
unfoldable pub approp : Declared → ℕ → ℕ → Option ℕ
approp d f t = join_of_some d (restrictions d f t)

-- the types that mention the feature
abbrev pub mentioning : Declared → ℕ → List ℕ
mentioning d f = map (λ m. m.at) (filter (λ m. m.feature == f) d.mentions)

-- the most general type that mentions the feature
unfoldable pub intro : Declared → ℕ → ℕ
intro d f = unwrap_or (first (λ t. every (λ u. is_above d t u) (mentioning d f)) (mentioning d f)) 0

abbrev pub features : Declared → ℕ → List ℕ
features d t = filter (λ f. is_some (approp d f t)) (all_features d)

abbrev pub is_ext : Declared → ℕ → Bool
is_ext d t = is_among t d.ext

-- how many types the type is above, itself among them
unfoldable pub rank : Declared → ℕ → ℕ
rank d t = length (filter (λ u. is_above d t u) (all_types d))

-- a measure of what is there, 0 where nothing is
abbrev pub if_there : (ℕ → ℕ) → Option ℕ → ℕ
if_there f None = 0
if_there f (Some r) = f r

-- how many nodes a node of the type has with what is filled in below it, counted down to a depth
abbrev pub size_to : Declared → ℕ → ℕ → ℕ
size_to d zero t = 0
size_to d (suc n) t = suc (sum_over (λ f. if_there (size_to d n) (approp d f t)) (all_features d))

-- A fill of at most so many nodes is no deeper than that.
unfoldable pub size : Declared → ℕ → ℕ
size d t = size_to d (suc most_nodes) t

-- what the logic asks of the signature
unfoldable pub hierarchy : Declared → Hierarchy
hierarchy d = record {
  types = length d.types;
  features = length d.features;
  is_above = is_above d;
  join = join d;
  approp = approp d;
  intro = intro d;
  is_ext = is_ext d;
  rank = rank d;
  size = size d;
}
