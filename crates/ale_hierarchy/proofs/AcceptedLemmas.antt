-- What shows that a signature is accepted: the facts that a check of each type and feature can find.
use Rattle.std.proofs.Common.{◌≡◌, sym, ap, subst, refl, ℕ, ◌<◌, true, false, Option, Some, None, List, length}
use Rattle.std.specs.List.{filter_map}
use Rattle.std.specs.Option.{option_map}
use Rattle.std.proofs.lemmas.Bool.{both_ways}
use Rattle.ale_relation.specs.Has.{Has}
use Rattle.ale_declared.specs.Declarations.{Declared}
use Rattle.ale_hierarchy.specs.Order.{IsAbove, Applies, is_above, leads_through, join, approp, all_types, all_features}
use Rattle.ale_hierarchy.specs.Accepted.{restriction_edges}
use Rattle.ale_declared.specs.Numbering.{IsWellNumbered}
use Rattle.ale_declared.specs.declared.decl.Mention.{Mention}
use Rattle.ale_declared.proofs.ListLemmas.{upto_has, upto_below, flat_map_has, Has-flat_map, filter_map_has, Has-filter_map}
use Rattle.ale_hierarchy.proofs.PathLemmas.{HasNoCycle, EndsBelow, Through_leads, leads_through_from}
use Rattle.ale_hierarchy.proofs.OrderLemmas.{IsAbove_inside, IsAbove_from_inside, is_above_from}
use Rattle.ale_hierarchy.proofs.JoinLemmas.{HasJoins, join_to}
use Rattle.ale_hierarchy.proofs.AppropLemmas.{HasRestrictions, IsRestriction_inside, approp_to}

-- no edges lead back where the test finds none that do
pub HasNoCycle-from : (edges : List (ℕ × ℕ)) (n : ℕ) → EndsBelow edges n → ((t : ℕ) → t < n → leads_through edges n t t ≡ false) → HasNoCycle edges
HasNoCycle-from edges n ends test t l =
    both_ways (leads_through edges n t t) (test t (ends t l.0 l.1).0)
    (leads_through_from edges n t t (Through_leads edges n t t ends l))

-- joins are there where `join` finds them
pub HasJoins-from : (d : Declared) → IsWellNumbered d → ((a b c : ℕ) → a < length d.types → b < length d.types → c < length d.types → is_above d a c ≡ true → is_above d b c ≡ true → (j : ℕ) × (join d a b ≡ Some j)) → HasJoins d
HasJoins-from d w test a b c below left right =
    let found = test a b c (IsAbove_from_inside d a c w left below) (IsAbove_from_inside d b c w right below) below (is_above_from d a c w left) (is_above_from d b c w right) in
    (found.0, (join_to d a b found.0 w found.1).1)

-- joins of restrictions are there where `approp` finds them
pub HasRestrictions-from : (d : Declared) → IsWellNumbered d → ((f t : ℕ) (m : Mention) → f < length d.features → t < length d.types → Applies d f t m → (r : ℕ) × (approp d f t ≡ Some r)) → HasRestrictions d
HasRestrictions-from d w test f t m below a =
    let listed : f < length d.features = subst (λ z. z < length d.features) a.feature (w.mentions m a.mentioned).1 in
    let found = test f t m listed below a in
    (found.0, approp_to d f t found.0 w found.1)

-- the value of an `option_map`
option_map_some : {A B : Type 0} (g : A → B) (o : Option A) (y : B) → option_map g o ≡ Some y → (x : A) × (o ≡ Some x) × (y ≡ g x)
option_map_some g None y e = absurd cc
option_map_some g (Some x) y e = let same : g x ≡ y = cc in (x, refl, sym same)

-- a restriction at a type that is equal to another
approp_moved : (d : Declared) (f t u r s : ℕ) → approp d f u ≡ Some s → ◌≡◌ {A = ℕ × ℕ} (t, r) (u, s) → u < length d.types → (t < length d.types) × (approp d f t ≡ Some r)
approp_moved d f t u r s found same below =
    let same_t : t ≡ u = ap (λ p. p.0) same in
    let same_r : r ≡ s = ap (λ p. p.1) same in
    rw (same_t, same_r) (below, found)

-- what an edge to a restriction says
pub restriction_edges_has : (d : Declared) (t r : ℕ) → Has (restriction_edges d) (t, r) → (f : ℕ) × (f < length d.features) × (t < length d.types) × (approp d f t ≡ Some r)
restriction_edges_has d t r h =
    let at = flat_map_has (λ t. filter_map (λ f. option_map (λ r. (t, r)) (approp d f t)) (all_features d)) (all_types d) (t, r) h in
    let by = filter_map_has (λ f. option_map (λ r. (at.0, r)) (approp d f at.0)) (all_features d) (t, r) at.2 in
    let made = option_map_some (λ r. (at.0, r)) (approp d by.0 at.0) (t, r) by.2 in
    let both = approp_moved d by.0 t at.0 r made.0 made.1 made.2 (upto_below (length d.types) at.0 at.1) in
    (by.0, upto_below (length d.features) by.0 by.1, both.0, both.1)

-- each restriction makes an edge
pub Has-restriction_edges : (d : Declared) (f t r : ℕ) → f < length d.features → t < length d.types → approp d f t ≡ Some r → Has (restriction_edges d) (t, r)
Has-restriction_edges d f t r listed below h =
    Has-flat_map (λ t. filter_map (λ f. option_map (λ r. (t, r)) (approp d f t)) (all_features d)) (all_types d) t (t, r)
    (upto_has (length d.types) t below)
    (Has-filter_map (λ f. option_map (λ r. (t, r)) (approp d f t)) (all_features d) f (t, r)
    (upto_has (length d.features) f listed)
    (ap (option_map (λ r. (t, r))) h))

-- both ends of each are types
pub EndsBelow-restriction_edges : (d : Declared) → IsWellNumbered d → EndsBelow (restriction_edges d) (length d.types)
EndsBelow-restriction_edges d w t r h =
    let by = restriction_edges_has d t r h in
    (by.2, (IsRestriction_inside d by.0 t r w (approp_to d by.0 t r w by.3)).2)

-- extensional types are last where the test finds no other type below one
pub ext_last-from : (d : Declared) → IsWellNumbered d → ((t u : ℕ) → Has d.ext t → u < length d.types → is_above d t u ≡ true → t ≡ u) → (t u : ℕ) → Has d.ext t → IsAbove d t u → t ≡ u
ext_last-from d w test t u h r = test t u h (IsAbove_inside d t u w r (w.ext t h)) (is_above_from d t u w r)
