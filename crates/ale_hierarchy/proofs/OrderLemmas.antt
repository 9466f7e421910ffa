-- The order of a declared signature: the function `is_above` finds the relation `IsAbove`, and where no edges
-- lead back, `bot` is above all types, two types above each other are one, and ranks fall along the order.
use Rattle.std.proofs.Common.{◌≡◌, Bool, sym, subst, ℕ, zero, suc, ◌<◌, ◌≤◌, true, false, eqb, length, inl, inr, arith}
use Rattle.std.specs.List.{filter}
use Rattle.std.proofs.lemmas.Bool.{or_cases, or_left, or_right, eqb-true, eq-eqb, cases_eq, false_from_ne_true}
use Rattle.ale_relation.specs.Has.{Has}
use Rattle.ale_relation.specs.Rows.{count_below}
use Rattle.std.specs.Bool.{Decides}
use Rattle.std.proofs.lemmas.Bool.Decides.{same_from_decides}
use Rattle.ale_relation.specs.Paths.{here}
use Rattle.ale_declared.specs.Declarations.{Declared}
use Rattle.ale_hierarchy.specs.Order.{IsAbove, is_above, leads_through, rank, all_types}
use Rattle.ale_declared.specs.Numbering.{IsWellNumbered}
use Rattle.ale_declared.proofs.ListLemmas.{upto_has, length-filter-lt, length-filter-le, length-filter-upto-le, length-filter-upto}
use Rattle.ale_relation.proofs.Paths.{reaches_trans, reaches_from_leads, reaches_split}
use Rattle.ale_hierarchy.proofs.PathLemmas.{HasNoCycle, Reaches-edge, Reaches-antisym, Reaches_inside, Reaches_from_inside, Leads_apart, Leads_through, Through_leads, leads_through_to, leads_through_from}

-- each type is above itself
pub IsAbove-self : (d : Declared) (a : ℕ) → IsAbove d a a
IsAbove-self d a = here a

-- what is above a type that is above another
pub IsAbove-trans : (d : Declared) (a b c : ℕ) → IsAbove d a b → IsAbove d b c → IsAbove d a c
IsAbove-trans d a b c r s = reaches_trans d.edges a b c r s

-- without cycles, two types above each other are one
pub IsAbove-antisym : (d : Declared) (a b : ℕ) → HasNoCycle d.edges → IsAbove d a b → IsAbove d b a → a ≡ b
IsAbove-antisym d a b free r s = Reaches-antisym d.edges a b free r s

-- what a type is above is a type
pub IsAbove_inside : (d : Declared) (a b : ℕ) → IsWellNumbered d → IsAbove d a b → a < length d.types → b < length d.types
IsAbove_inside d a b w r h = Reaches_inside d.edges (length d.types) a b w.edges r h

-- what is above a type is a type
pub IsAbove_from_inside : (d : Declared) (a b : ℕ) → IsWellNumbered d → IsAbove d a b → b < length d.types → a < length d.types
IsAbove_from_inside d a b w r h = Reaches_from_inside d.edges (length d.types) a b w.edges r h

-- where the function says that a is above b, it is
pub is_above_to : (d : Declared) (a b : ℕ) → is_above d a b ≡ true → IsAbove d a b
unfolding is_above
is_above_to d a b h =
    elim (or_cases (eqb a b) (leads_through d.edges (length d.types) a b) h) [
      | inl e ↦ subst (λ z. IsAbove d a z) (eqb-true a b e) (here a)
      | inr e ↦ reaches_from_leads d.edges a b (Leads_through d.edges (length d.types) a b (leads_through_to d.edges (length d.types) a b e))
    ]

-- where a is above b, the function says so
pub is_above_from : (d : Declared) (a b : ℕ) → IsWellNumbered d → IsAbove d a b → is_above d a b ≡ true
unfolding is_above
is_above_from d a b w r =
    elim (reaches_split d.edges a b r) [
      | inl e ↦ or_left (eqb a b) (leads_through d.edges (length d.types) a b) (eq-eqb a b e)
      | inr l ↦
          or_right (eqb a b) (leads_through d.edges (length d.types) a b)
          (leads_through_from d.edges (length d.types) a b (Through_leads d.edges (length d.types) a b w.edges l))
    ]

-- the function decides the relation
pub is_above-Decides : (d : Declared) (a b : ℕ) → IsWellNumbered d → Decides (is_above d a b) (IsAbove d a b)
is_above-Decides d a b w = (is_above_to d a b, is_above_from d a b w)

-- any other test that does gives the same answer
pub is_above_is : (d : Declared) (a b : ℕ) (r : Bool) → IsWellNumbered d → Decides r (IsAbove d a b) → r ≡ is_above d a b
is_above_is d a b r w h = same_from_decides r (is_above d a b) h (is_above-Decides d a b w)

-- the first type of two different ones, one above the other, is not below the second
pub is_above_back : (d : Declared) (a b : ℕ) → HasNoCycle d.edges → IsAbove d a b → (a ≡ b → ⊥) → is_above d b a ≡ false
is_above_back d a b free r apart =
    false_from_ne_true (is_above d b a) (λ h. apart (IsAbove-antisym d a b free r (is_above_to d b a h)))

-- ranks fall along the order
pub rank-less : (d : Declared) (a b : ℕ) → IsWellNumbered d → HasNoCycle d.edges → IsAbove d a b → (a ≡ b → ⊥) → rank d b < rank d a
unfolding rank
rank-less d a b w free r apart =
    let path = Leads_apart d.edges a b r apart in
    let begins : a < length d.types = (w.edges a path.0 path.1).0 in
    length-filter-lt (λ u. is_above d b u) (λ u. is_above d a u) (all_types d) a
    (λ u h. is_above_from d a u w (IsAbove-trans d a b u r (is_above_to d b u h)))
    (upto_has (length d.types) a begins)
    (is_above_back d a b free r apart)
    (is_above_from d a a w (here a))

-- ranks do not grow along the order
pub rank-le : (d : Declared) (a b : ℕ) → IsWellNumbered d → IsAbove d a b → rank d b ≤ rank d a
unfolding rank
rank-le d a b w r =
    length-filter-le (λ u. is_above d b u) (λ u. is_above d a u) (all_types d)
    (λ u h. is_above_from d a u w (IsAbove-trans d a b u r (is_above_to d b u h)))

-- a rank is at most the number of types
pub rank-le-types : (d : Declared) (t : ℕ) → rank d t ≤ length d.types
unfolding rank
rank-le-types d t = length-filter-upto-le (λ u. is_above d t u) (length d.types)

-- a rank as a count
pub rank_is : (d : Declared) (t : ℕ) → rank d t ≡ count_below (λ u. is_above d t u) (length d.types)
unfolding rank
rank_is d t = length-filter-upto (λ u. is_above d t u) (length d.types)

-- how many types are above a type
abbrev height : Declared → ℕ → ℕ
height d t = length (filter (λ u. is_above d u t) (all_types d))

-- fewer types are above what is directly above
height-less : (d : Declared) (p t : ℕ) → IsWellNumbered d → HasNoCycle d.edges → Has d.edges (p, t) → height d p < height d t
height-less d p t w free e =
    let ends = w.edges p t e in
    length-filter-lt (λ u. is_above d u p) (λ u. is_above d u t) (all_types d) t
    (λ u h. is_above_from d u t w (IsAbove-trans d u p t (is_above_to d u p h) (Reaches-edge d.edges p t e)))
    (upto_has (length d.types) t ends.1)
    (false_from_ne_true (is_above d t p) (λ h. free p (t, e, is_above_to d t p h)))
    (is_above_from d t t w (here t))

-- `bot` is above each type with at most that many types above it
above_all_to : (d : Declared) (n t : ℕ) → IsWellNumbered d → HasNoCycle d.edges → t < length d.types → height d t < n → IsAbove d 0 t
above_all_to d zero t w free h less = absurd (omega arith)
above_all_to d (suc n) t w free h less =
    elim (cases_eq t 0) [
      | inl e ↦ subst (λ z. IsAbove d 0 z) (sym e) (here 0)
      | inr apart ↦
          let up = w.has_parent t h apart in
          let p : ℕ = up.0 in
          let e : Has d.edges (p, t) = up.1 in
          let fewer : height d p < height d t = height-less d p t w free e in
          IsAbove-trans d 0 p t
          (above_all_to d n p w free (w.edges p t e).0 (omega arith))
          (Reaches-edge d.edges p t e)
    ]

-- `bot` is above each type
pub above_all : (d : Declared) (t : ℕ) → IsWellNumbered d → HasNoCycle d.edges → t < length d.types → IsAbove d 0 t
above_all d t w free h = above_all_to d (suc (height d t)) t w free h (omega arith)
