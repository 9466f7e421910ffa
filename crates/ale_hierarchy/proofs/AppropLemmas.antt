-- Appropriateness: what `approp` finds is the join of the restrictions that apply, and `intro` finds the most
-- general type that mentions a feature.
use Rattle.std.proofs.Common.{◌≡◌, sym, ap, ◌∙◌, subst, refl, ℕ, ◌<◌, Bool, true, eqb, Some, None, List, [], ◌∷◌, length, inl}
use Rattle.std.specs.Prelude.{◌&&◌, unwrap_or}
use Rattle.std.specs.List.{filter}
use Rattle.std.proofs.lemmas.Bool.{and_parts, and_from, eqb-true, eq-eqb, both_ways}
use Rattle.ale_relation.specs.Has.{Has}
use Rattle.ale_declared.specs.Lists.{first, every}
use Rattle.ale_declared.specs.Declarations.{Declared}
use Rattle.ale_declared.specs.declared.decl.Mention.{Mention}
use Rattle.ale_hierarchy.specs.Order.{IsAbove, Applies, IsRestriction, Introduces, is_above, join_of, join_of_some, restrictions, approp, mentioning, intro}
use Rattle.ale_declared.specs.Numbering.{IsWellNumbered}
use Rattle.ale_hierarchy.proofs.PathLemmas.{HasNoCycle}
use Rattle.ale_declared.proofs.ListLemmas.{Has-filter, filter_has, Has-map, map_has, first_has, first_there, first_none, every_at, every_from}
use Rattle.ale_hierarchy.proofs.OrderLemmas.{IsAbove-trans, IsAbove-antisym, IsAbove_inside, is_above_to, is_above_from}
use Rattle.ale_hierarchy.proofs.JoinLemmas.{IsCommon, IsJoinOf, IsJoinOf_least, join_of_to, join_of_from, join_of_none}

-- restrictions that apply together have a join
abbrev pub HasRestrictions : Declared → Type 0
HasRestrictions d = (f t : ℕ) (m : Mention) → t < length d.types → Applies d f t m → (r : ℕ) × IsRestriction d f t r

-- a restriction in the list is that of a mention that applies
pub restrictions_has : (d : Declared) (f t r : ℕ) → Has (restrictions d f t) r → (m : Mention) × Applies d f t m × (r ≡ m.restriction)
restrictions_has d f t r h =
    let made = map_has (λ (m : Mention). m.restriction) (filter (λ (m : Mention). eqb m.feature f && is_above d m.at t) d.mentions) r h in
    let m : Mention = made.0 in
    let kept = filter_has (λ (m : Mention). eqb m.feature f && is_above d m.at t) d.mentions m made.1 in
    let parts = and_parts (eqb m.feature f) (is_above d m.at t) kept.1 in (
      m,
      record { mentioned = kept.0; feature = eqb-true m.feature f parts.0; above = is_above_to d m.at t parts.1 },
      made.2,
    )

-- the restriction of each mention that applies is in the list
pub Has-restrictions : (d : Declared) (f t : ℕ) (m : Mention) → IsWellNumbered d → Applies d f t m → Has (restrictions d f t) m.restriction
Has-restrictions d f t m w h =
    Has-map (λ (m : Mention). m.restriction) (filter (λ (m : Mention). eqb m.feature f && is_above d m.at t) d.mentions) m
    (Has-filter (λ (m : Mention). eqb m.feature f && is_above d m.at t) d.mentions m h.mentioned
    (and_from (eqb m.feature f) (is_above d m.at t) (eq-eqb m.feature f h.feature) (is_above_from d m.at t w h.above)))

-- what is below all in the list is below the restriction of each mention that applies
common_restrictions : (d : Declared) (f t c : ℕ) → IsCommon d (restrictions d f t) c → IsWellNumbered d → (m : Mention) → Applies d f t m → IsAbove d m.restriction c
common_restrictions d f t c h w m a = h m.restriction (Has-restrictions d f t m w a)

-- and the other way round
IsCommon-restrictions : (d : Declared) (f t c : ℕ) → ((m : Mention) → Applies d f t m → IsAbove d m.restriction c) → IsCommon d (restrictions d f t) c
IsCommon-restrictions d f t c h r k =
    let made = restrictions_has d f t r k in
    subst (λ z. IsAbove d z c) (sym made.2) (h made.0 made.1)

-- the join of the list is the restriction, where a mention applies
pub IsRestriction-from_list : (d : Declared) (f t r : ℕ) (m : Mention) → IsWellNumbered d → Applies d f t m → IsJoinOf d (restrictions d f t) r → IsRestriction d f t r
IsRestriction-from_list d f t r m w a h = record {
  mention = m;
  applies = a;
  all = common_restrictions d f t r h.common w;
  least = λ c common. IsJoinOf_least d (restrictions d f t) m.restriction r c w h (Has-restrictions d f t m w a) (IsCommon-restrictions d f t c common);
}

-- the restriction is the join of the list, where a mention applies
pub IsJoinOf-restrictions : (d : Declared) (f t r : ℕ) (m : Mention) → IsWellNumbered d → Applies d f t m → IsRestriction d f t r → IsJoinOf d (restrictions d f t) r
IsJoinOf-restrictions d f t r m w a h = record {
  inside = IsAbove_inside d m.restriction r w (h.all m a) (w.mentions m a.mentioned).2;
  common = IsCommon-restrictions d f t r h.all;
  least = λ c below common. h.least c (common_restrictions d f t c common w);
}

-- the join of no restrictions isn't looked for
join_of_some_to : (d : Declared) (rs : List ℕ) (r : ℕ) → join_of_some d rs ≡ Some r → ((s : ℕ) × Has rs s) × (join_of d rs ≡ Some r)
join_of_some_to d [] r h = absurd cc
join_of_some_to d (s ∷ rs) r h = ((s, inl refl), h)

-- one restriction or more are joined
join_of_some_is : (d : Declared) (rs : List ℕ) (s : ℕ) → Has rs s → join_of_some d rs ≡ join_of d rs
join_of_some_is d [] s h = absurd h
join_of_some_is d (r ∷ rs) s h = refl

-- what `approp` finds is the join of the restrictions that apply
pub approp_to : (d : Declared) (f t r : ℕ) → IsWellNumbered d → approp d f t ≡ Some r → IsRestriction d f t r
unfolding approp
approp_to d f t r w h =
    let some = join_of_some_to d (restrictions d f t) r h in
    let made = restrictions_has d f t some.0.0 some.0.1 in
    IsRestriction-from_list d f t r made.0 w made.1 (join_of_to d (restrictions d f t) r w some.1)

-- `approp` finds the join of the restrictions that apply
pub approp_from : (d : Declared) (f t r : ℕ) → IsWellNumbered d → HasNoCycle d.edges → IsRestriction d f t r → approp d f t ≡ Some r
unfolding approp
approp_from d f t r w free h =
    join_of_some_is d (restrictions d f t) h.mention.restriction (Has-restrictions d f t h.mention w h.applies)
    ∙ join_of_from d (restrictions d f t) r w free (IsJoinOf-restrictions d f t r h.mention w h.applies h)

-- where `approp` finds nothing, no mention applies or those that do have no join
pub approp_none : (d : Declared) (f t r : ℕ) → IsWellNumbered d → approp d f t ≡ None → IsRestriction d f t r → ⊥
unfolding approp
approp_none d f t r w h a =
    join_of_none d (restrictions d f t) r w
    (sym (join_of_some_is d (restrictions d f t) a.mention.restriction (Has-restrictions d f t a.mention w a.applies)) ∙ h)
    (IsJoinOf-restrictions d f t r a.mention w a.applies a)

-- the feature, the type and the restriction are there
pub IsRestriction_inside : (d : Declared) (f t r : ℕ) → IsWellNumbered d → IsRestriction d f t r → (f < length d.features) × (t < length d.types) × (r < length d.types)
IsRestriction_inside d f t r w h =
    let m : Mention = h.mention in
    let ends = w.mentions m h.applies.mentioned in (
      subst (λ z. z < length d.features) h.applies.feature ends.1,
      IsAbove_inside d m.at t w h.applies.above ends.0,
      IsAbove_inside d m.restriction r w (h.all m h.applies) ends.2,
    )

-- restrictions are unique
pub IsRestriction-unique : (d : Declared) (f t r s : ℕ) → HasNoCycle d.edges → IsRestriction d f t r → IsRestriction d f t s → r ≡ s
IsRestriction-unique d f t r s free p q = IsAbove-antisym d r s free (p.least s q.all) (q.least r p.all)

-- a mention that applies at a type applies below it
pub Applies_along : (d : Declared) (f t u : ℕ) (m : Mention) → IsAbove d t u → Applies d f t m → Applies d f u m
Applies_along d f t u m path h = record { mentioned = h.mentioned; feature = h.feature; above = IsAbove-trans d m.at t u h.above path }

-- `approp` finds a restriction where a mention applies, if restrictions that apply together have joins
pub approp_there : (d : Declared) (f t : ℕ) (m : Mention) → IsWellNumbered d → HasNoCycle d.edges → HasRestrictions d → t < length d.types → Applies d f t m → (r : ℕ) × (approp d f t ≡ Some r)
approp_there d f t m w free joins below a =
    let found = joins f t m below a in
    let r : IsRestriction d f t found.0 = found.1 in
    (found.0, approp_from d f t found.0 w free r)

-- where `approp` finds nothing, no mention applies, if restrictions that apply together have joins
pub approp_nowhere : (d : Declared) (f t : ℕ) (m : Mention) → IsWellNumbered d → HasRestrictions d → t < length d.types → approp d f t ≡ None → Applies d f t m → ⊥
approp_nowhere d f t m w joins below h a =
    let found = joins f t m below a in
    let r : IsRestriction d f t found.0 = found.1 in
    approp_none d f t found.0 w h r

-- restrictions get narrower along the order
pub approp-along : (d : Declared) (f t u r : ℕ) → IsWellNumbered d → HasNoCycle d.edges → HasRestrictions d → u < length d.types → IsAbove d t u → approp d f t ≡ Some r → (q : ℕ) × (approp d f u ≡ Some q) × IsAbove d r q
approp-along d f t u r w free joins below path h =
    let a = approp_to d f t r w h in
    let found = approp_there d f u a.mention w free joins below (Applies_along d f t u a.mention path a.applies) in
    let q : ℕ = found.0 in
    let there : approp d f u ≡ Some q = found.1 in
    let b = approp_to d f u q w there in
    (q, there, a.least q (λ m k. b.all m (Applies_along d f t u m path k)))

-- a type in the list mentions the feature
pub mentioning_has : (d : Declared) (f t : ℕ) → Has (mentioning d f) t → (m : Mention) × Has d.mentions m × (m.feature ≡ f) × (t ≡ m.at)
mentioning_has d f t h =
    let made = map_has (λ (m : Mention). m.at) (filter (λ (m : Mention). eqb m.feature f) d.mentions) t h in
    let m : Mention = made.0 in
    let kept = filter_has (λ (m : Mention). eqb m.feature f) d.mentions m made.1 in
    (m, kept.0, eqb-true m.feature f kept.1, made.2)

-- each type that mentions the feature is in the list
pub Has-mentioning : (d : Declared) (f : ℕ) (m : Mention) → Has d.mentions m → m.feature ≡ f → Has (mentioning d f) m.at
Has-mentioning d f m h e =
    Has-map (λ (m : Mention). m.at) (filter (λ (m : Mention). eqb m.feature f) d.mentions) m
    (Has-filter (λ (m : Mention). eqb m.feature f) d.mentions m h (eq-eqb m.feature f e))

-- the test of `intro`: t is above each type that mentions the feature
is_most_general : Declared → ℕ → ℕ → Bool
is_most_general d f t = every (λ u. is_above d t u) (mentioning d f)

-- a mentioning type that passes introduces the feature
Introduces-from : (d : Declared) (f t : ℕ) → Has (mentioning d f) t → is_most_general d f t ≡ true → Introduces d f t
unfolding is_most_general
Introduces-from d f t h p =
    let made = mentioning_has d f t h in
    record {
      mention = made.0;
      mentions = made.1;
      feature = made.2;
      at = sym made.3;
      most_general = λ m k e. is_above_to d t m.at (every_at (λ u. is_above d t u) (mentioning d f) m.at p (Has-mentioning d f m k e));
    }

-- the type that introduces the feature passes
is_most_general_from : (d : Declared) (f t : ℕ) → IsWellNumbered d → Introduces d f t → is_most_general d f t ≡ true
unfolding is_most_general
is_most_general_from d f t w h =
    every_from (λ u. is_above d t u) (mentioning d f) (λ u k.
    let made = mentioning_has d f u k in
    let m : Mention = made.0 in
    is_above_from d t u w (subst (λ z. IsAbove d t z) (sym made.3) (h.most_general m made.1 made.2)))

-- the type that introduces the feature mentions it
Has-introduces : (d : Declared) (f t : ℕ) → Introduces d f t → Has (mentioning d f) t
Has-introduces d f t h = subst (λ z. Has (mentioning d f) z) h.at (Has-mentioning d f h.mention h.mentions h.feature)

-- at most one type introduces a feature
pub Introduces-unique : (d : Declared) (f t u : ℕ) → HasNoCycle d.edges → Introduces d f t → Introduces d f u → t ≡ u
Introduces-unique d f t u free p q =
    IsAbove-antisym d t u free
    (subst (λ z. IsAbove d t z) q.at (p.most_general q.mention q.mentions q.feature))
    (subst (λ z. IsAbove d u z) p.at (q.most_general p.mention p.mentions p.feature))

-- `intro` is the type that introduces the feature
pub intro_is : (d : Declared) (f t : ℕ) → IsWellNumbered d → HasNoCycle d.edges → Introduces d f t → intro d f ≡ t
unfolding intro is_most_general
intro_is d f t w free h =
    let found = first_there (is_most_general d f) (mentioning d f) t (Has-introduces d f t h) (is_most_general_from d f t w h) in
    let u : ℕ = found.0 in
    let there : first (is_most_general d f) (mentioning d f) ≡ Some u = found.1 in
    let at = first_has (is_most_general d f) (mentioning d f) u there in
    ap (λ o. unwrap_or o 0) there ∙ Introduces-unique d f u t free (Introduces-from d f u at.0 at.1) h

-- a type that mentions the feature and that all others are below introduces it, and the search for one finds it
pub first_introduces : (d : Declared) (f t : ℕ) → first (λ t. every (λ u. is_above d t u) (mentioning d f)) (mentioning d f) ≡ Some t → Introduces d f t
unfolding is_most_general
first_introduces d f t h =
    let at = first_has (is_most_general d f) (mentioning d f) t h in
    Introduces-from d f t at.0 at.1

-- where the search finds none, no type introduces the feature
pub first_introduces_none : (d : Declared) (f t : ℕ) → IsWellNumbered d → first (λ t. every (λ u. is_above d t u) (mentioning d f)) (mentioning d f) ≡ None → Introduces d f t → ⊥
unfolding is_most_general
first_introduces_none d f t w h k =
    both_ways (is_most_general d f t)
    (first_none (is_most_general d f) (mentioning d f) t h (Has-introduces d f t k))
    (is_most_general_from d f t w k)

-- the type that introduces a feature is above those to which it is appropriate
pub Introduces-above : (d : Declared) (f t i r : ℕ) → Introduces d f i → IsRestriction d f t r → IsAbove d i t
Introduces-above d f t i r h a =
    IsAbove-trans d i a.mention.at t (h.most_general a.mention a.applies.mentioned a.applies.feature) a.applies.above

-- the type that introduces a feature is a type
pub Introduces_inside : (d : Declared) (f t : ℕ) → IsWellNumbered d → Introduces d f t → t < length d.types
Introduces_inside d f t w h = subst (λ z. z < length d.types) h.at (w.mentions h.mention h.mentions).0

-- a feature's mention at the type that introduces it applies below
pub Applies-introduces : (d : Declared) (f t i : ℕ) (h : Introduces d f i) → IsAbove d i t → Applies d f t h.mention
Applies-introduces d f t i h path = record {
  mentioned = h.mentions;
  feature = h.feature;
  above = subst (λ z. IsAbove d z t) (sym h.at) path;
}
