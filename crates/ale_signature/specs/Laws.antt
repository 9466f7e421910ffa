-- The laws of signatures: what is declared is well numbered, what is accepted obeys what the logic asks of a
-- hierarchy, the functions tell the relations that define them, and some declarations with a feature are accepted.
-- Source: Carpenter 1992, chapters 2 and 6.
use Rattle.std.specs.Prelude.{◌≡◌, ◌↔◌, ℕ, suc, ◌<◌, ◌≤◌, true, false, Some, None, List, length}
use Rattle.ale_relation.specs.Paths.{Leads}
use Rattle.ale_declared.specs.Lists.{Has, sum_over}
use Rattle.ale_declared.specs.Declarations.{Declared, declared}
use Rattle.ale_declared.specs.declared.decl.Mention.{Mention}
use Rattle.ale_declared.specs.declared.decl.SigDecl.{SigDecl}
use Rattle.ale_hierarchy.specs.Limits.{most_types}
use Rattle.ale_hierarchy.specs.Order.{IsAbove, IsJoin, Applies, IsRestriction, Introduces, leads_through, is_above, join, approp, intro, is_ext, size, if_there, all_features, hierarchy}
use Rattle.ale_hierarchy.specs.Accepted.{IsAccepted, restriction_edges}
use Rattle.ale_declared.specs.Numbering.{IsWellNumbered}
use Rattle.ale_hierarchy.specs.Hierarchy.{IsLawful}

-- each accepted signature obeys the laws of a hierarchy
abbrev pub SignatureLaw : Type 0
SignatureLaw = (d : Declared) → IsWellNumbered d → IsAccepted d → IsLawful (hierarchy d)

-- some declarations with a feature are accepted, where no feature is appropriate to `bot`, which isn't extensional
abbrev pub SomeIsAccepted : Type 0
SomeIsAccepted =
    (decls : List SigDecl) × IsWellNumbered (declared decls) × IsAccepted (declared decls) × (0 < length (declared decls).features)
    × ((f : ℕ) → approp (declared decls) f 0 ≡ None) × (is_ext (declared decls) 0 ≡ false)

-- edges never lead back to where they started
abbrev pub NeverLeadsBack : List (ℕ × ℕ) → Type 0
NeverLeadsBack edges = (t : ℕ) → Leads edges t t → ⊥

-- two types with a common subtype have a least one
abbrev pub HasLeastCommon : Declared → Type 0
HasLeastCommon d = (a b c : ℕ) → c < length d.types → IsAbove d a c → IsAbove d b c → (j : ℕ) × IsJoin d a b j

-- restrictions that apply together have a join
abbrev pub RestrictionsJoin : Declared → Type 0
RestrictionsJoin d = (f t : ℕ) (m : Mention) → t < length d.types → Applies d f t m → (r : ℕ) × IsRestriction d f t r

-- The functions tell what the relations say, accepted or not: which edges lead where, which type is above which,
-- the least common subtype of two types, the restriction on a feature, the type that introduces a feature, and
-- sizes. A premise stands only where a law needs it.
pub record TellsRelations (d : Declared) : Type 0 where
  -- of whatever is declared
  pub leads : (a b : ℕ) → (leads_through d.edges (length d.types) a b ≡ true) ↔ Leads d.edges a b
  pub above : (a b : ℕ) → (is_above d a b ≡ true) ↔ IsAbove d a b
  pub joined : (a b j : ℕ) → join d a b ≡ Some j → IsJoin d a b j
  pub not_joined : (a b : ℕ) → a < length d.types → (join d a b ≡ None) ↔ ((j : ℕ) → IsJoin d a b j → ⊥)
  pub restricted : (f t r : ℕ) → approp d f t ≡ Some r → IsRestriction d f t r
  pub not_restricted : (f t : ℕ) → (approp d f t ≡ None) ↔ ((r : ℕ) → IsRestriction d f t r → ⊥)
  pub restrictions_lead : (a b : ℕ) → (leads_through (restriction_edges d) (length d.types) a b ≡ true) ↔ Leads (restriction_edges d) a b
  -- where no type is below itself, there is no second answer
  pub join_found : NeverLeadsBack d.edges → (a b j : ℕ) → a < length d.types → IsJoin d a b j → join d a b ≡ Some j
  pub restriction_found : NeverLeadsBack d.edges → (f t r : ℕ) → IsRestriction d f t r → approp d f t ≡ Some r
  pub restriction_edge : NeverLeadsBack d.edges → (t r : ℕ) → Has (restriction_edges d) (t, r) ↔ ((f : ℕ) × IsRestriction d f t r)
  pub introduced : NeverLeadsBack d.edges → (f t u : ℕ) → Introduces d f u → (intro d f ≡ t) ↔ Introduces d f t
  -- where there are joins, only types that have nothing in common have none
  pub no_common : HasLeastCommon d → (a b : ℕ) → a < length d.types → (join d a b ≡ None) ↔ ((c : ℕ) → IsAbove d a c → IsAbove d b c → ⊥)
  pub not_appropriate : RestrictionsJoin d → (f t : ℕ) → t < length d.types → (approp d f t ≡ None) ↔ ((m : Mention) → Applies d f t m → ⊥)
  -- where restrictions never lead back, a size is one more than the sizes of the values' types
  pub sized : NeverLeadsBack (restriction_edges d) → length d.types ≤ most_types → (t : ℕ) → t < length d.types
      → size d t ≡ suc (sum_over (λ f. if_there (size d) (approp d f t)) (all_features d))

-- they do so for whatever is declared
abbrev pub RelationLaw : Type 0
RelationLaw = (d : Declared) → IsWellNumbered d → TellsRelations d
