-- Joins of types: what `join_of` finds is the least common subtype, and it finds one wherever there is one.
use Rattle.std.proofs.Common.{◌≡◌, sym, ap, ◌∙◌, subst, refl, ℕ, ◌<◌, ◌≤◌, arith, Bool, true, ◌++◌, Option, ◌⊎◌, None, Some, List, [], ◌∷◌, length, inl, inr}
use Rattle.std.specs.Prelude.{◌&&◌, ◌||◌, not}
use Rattle.std.proofs.lemmas.Bool.{and_parts, and_from, or_cases, or_left, or_right, cases_Bool, not_from_false, not_from_true, both_ways}
use Rattle.std.specs.Option.{option_and_then}
use Rattle.std.specs.List.{filter}
use Rattle.ale_relation.specs.Has.{Has}
use Rattle.ale_relation.specs.Rows.{count_below}
use Rattle.ale_relation.specs.Paths.{here}
use Rattle.ale_declared.specs.Lists.{every}
use Rattle.ale_declared.specs.Declarations.{Declared}
use Rattle.ale_hierarchy.specs.Order.{IsAbove, IsJoin, is_above, is_common, join_of, join, all_types, rank}
use Rattle.ale_declared.specs.Numbering.{IsWellNumbered}
use Rattle.ale_hierarchy.proofs.PathLemmas.{HasNoCycle}
use Rattle.ale_declared.proofs.ListLemmas.{Has-append_cases, Has-append_left, Has-append_right, upto_has, upto_below, length-filter-lt, length-filter-le_in, length-filter-upto, first_has, first_there, first_none, every_at, every_from}
use Rattle.ale_hierarchy.proofs.OrderLemmas.{IsAbove-trans, IsAbove-antisym, IsAbove_inside, IsAbove_from_inside, is_above_to, is_above_from, above_all, rank-le}

-- c is a subtype of each of the types
abbrev pub IsCommon : Declared → List ℕ → ℕ → Type 0
IsCommon d ts c = (t : ℕ) → Has ts t → IsAbove d t c

-- j is the least common subtype of the types
pub record IsJoinOf (d : Declared) (ts : List ℕ) (j : ℕ) : Type 0 where
  pub inside : j < length d.types
  pub common : IsCommon d ts j
  pub least : (c : ℕ) → c < length d.types → IsCommon d ts c → IsAbove d j c

-- two types with a common subtype have a least one
abbrev pub HasJoins : Declared → Type 0
HasJoins d = (a b c : ℕ) → c < length d.types → IsAbove d a c → IsAbove d b c → (j : ℕ) × IsJoin d a b j

-- the function finds a common subtype
pub is_common_to : (d : Declared) (ts : List ℕ) (c : ℕ) → is_common d ts c ≡ true → IsCommon d ts c
is_common_to d ts c h t k = is_above_to d t c (every_at (λ t. is_above d t c) ts t h k)

-- each common subtype is found
pub is_common_from : (d : Declared) (ts : List ℕ) (c : ℕ) → IsWellNumbered d → IsCommon d ts c → is_common d ts c ≡ true
is_common_from d ts c w h = every_from (λ t. is_above d t c) ts (λ t k. is_above_from d t c w (h t k))

-- `join_of` tries this of each type
is_least : Declared → List ℕ → ℕ → Bool
is_least d ts j = is_common d ts j && every (λ c. not (is_common d ts c) || is_above d j c) (all_types d)

-- what passes is the least common subtype
is_least_to : (d : Declared) (ts : List ℕ) (j : ℕ) → IsWellNumbered d → j < length d.types → is_least d ts j ≡ true → IsJoinOf d ts j
unfolding is_least
is_least_to d ts j w inside h =
    let parts = and_parts (is_common d ts j) (every (λ c. not (is_common d ts c) || is_above d j c) (all_types d)) h in
    record {
      inside = inside;
      common = is_common_to d ts j parts.0;
      least = λ c below common.
          elim (or_cases (not (is_common d ts c)) (is_above d j c) (every_at (λ c. not (is_common d ts c) || is_above d j c) (all_types d) c parts.1 (upto_has (length d.types) c below))) [
            | inl e ↦ absurd (both_ways (not (is_common d ts c)) (not_from_true (is_common d ts c) (is_common_from d ts c w common)) e)
            | inr e ↦ is_above_to d j c e
          ];
    }

-- the least common subtype passes
is_least_from : (d : Declared) (ts : List ℕ) (j : ℕ) → IsWellNumbered d → IsJoinOf d ts j → is_least d ts j ≡ true
unfolding is_least
is_least_from d ts j w h =
    and_from (is_common d ts j) (every (λ c. not (is_common d ts c) || is_above d j c) (all_types d))
    (is_common_from d ts j w h.common)
    (every_from (λ c. not (is_common d ts c) || is_above d j c) (all_types d) (λ c k.
    elim (cases_Bool (is_common d ts c)) [
      | inl e ↦
          or_right (not (is_common d ts c)) (is_above d j c)
          (is_above_from d j c w (h.least c (upto_below (length d.types) c k) (is_common_to d ts c e)))
      | inr e ↦ or_left (not (is_common d ts c)) (is_above d j c) (not_from_false (is_common d ts c) e)
    ]))

-- what `join_of` finds is the least common subtype
pub join_of_to : (d : Declared) (ts : List ℕ) (j : ℕ) → IsWellNumbered d → join_of d ts ≡ Some j → IsJoinOf d ts j
unfolding join_of is_least
join_of_to d ts j w h =
    let found = first_has (is_least d ts) (all_types d) j h in
    is_least_to d ts j w (upto_below (length d.types) j found.0) found.1

-- least common subtypes are unique
pub IsJoinOf-unique : (d : Declared) (ts : List ℕ) (i j : ℕ) → HasNoCycle d.edges → IsJoinOf d ts i → IsJoinOf d ts j → i ≡ j
IsJoinOf-unique d ts i j free p q =
    IsAbove-antisym d i j free (p.least j q.inside q.common) (q.least i p.inside p.common)

-- `join_of` finds the least common subtype
pub join_of_from : (d : Declared) (ts : List ℕ) (j : ℕ) → IsWellNumbered d → HasNoCycle d.edges → IsJoinOf d ts j → join_of d ts ≡ Some j
unfolding join_of is_least
join_of_from d ts j w free h =
    let found = first_there (is_least d ts) (all_types d) j (upto_has (length d.types) j h.inside) (is_least_from d ts j w h) in
    let there : join_of d ts ≡ Some found.0 = found.1 in
    there ∙ ap Some (IsJoinOf-unique d ts found.0 j free (join_of_to d ts found.0 w there) h)

-- where `join_of` finds nothing, there is no least common subtype
pub join_of_none : (d : Declared) (ts : List ℕ) (j : ℕ) → IsWellNumbered d → join_of d ts ≡ None → IsJoinOf d ts j → ⊥
unfolding join_of is_least
join_of_none d ts j w h k =
    both_ways (is_least d ts j)
    (first_none (is_least d ts) (all_types d) j h (upto_has (length d.types) j k.inside))
    (is_least_from d ts j w k)

-- `bot` is the least common subtype of no types
pub IsJoinOf-none : (d : Declared) → IsWellNumbered d → HasNoCycle d.edges → IsJoinOf d [] 0
IsJoinOf-none d w free = record {
  inside = w.some_type;
  common = λ t k. absurd k;
  least = λ c below common. above_all d c w free below;
}

-- one type more: the least common subtype of it and of the one before
pub IsJoinOf_more : (d : Declared) (t : ℕ) (ts : List ℕ) (j k : ℕ) → IsWellNumbered d → IsJoinOf d ts j → IsJoin d t j k → IsJoinOf d (t ∷ ts) k
IsJoinOf_more d t ts j k w h more = record {
  inside = IsAbove_inside d j k w more.right h.inside;
  common = λ u there. elim there [ inl e ↦ subst (λ z. IsAbove d z k) (sym e) more.left | inr v ↦ IsAbove-trans d u j k (h.common u v) more.right ];
  least = λ c below common. more.least c (common t (inl refl)) (h.least c below (λ u v. common u (inr v)));
}

-- types with a common subtype have a least one, where any two have
pub IsJoinOf-there : (d : Declared) (ts : List ℕ) (c : ℕ) → IsWellNumbered d → HasNoCycle d.edges → HasJoins d → c < length d.types → IsCommon d ts c → (j : ℕ) × IsJoinOf d ts j
IsJoinOf-there d [] c w free joins below common = (0, IsJoinOf-none d w free)
IsJoinOf-there d (t ∷ ts) c w free joins below common =
    let rest = IsJoinOf-there d ts c w free joins below (λ u v. common u (inr v)) in
    let r : IsJoinOf d ts rest.0 = rest.1 in
    let more = joins t rest.0 c below (common t (inl refl)) (r.least c below (λ u v. common u (inr v))) in
    (more.0, IsJoinOf_more d t ts rest.0 more.0 w r more.1)

-- of one type or more, it is above each common subtype
pub IsJoinOf_least : (d : Declared) (ts : List ℕ) (t j c : ℕ) → IsWellNumbered d → IsJoinOf d ts j → Has ts t → IsCommon d ts c → IsAbove d j c
IsJoinOf_least d ts t j c w h k common =
    h.least c (IsAbove_inside d t c w (common t k) (IsAbove_from_inside d t j w (h.common t k) h.inside)) common

-- of two types
pub IsJoin-from_list : (d : Declared) (a b j : ℕ) → IsWellNumbered d → IsJoinOf d (a ∷ b ∷ []) j → IsJoin d a b j
IsJoin-from_list d a b j w h = record {
  left = h.common a (inl refl);
  right = h.common b (inr (inl refl));
  least = λ c left right.
      IsJoinOf_least d (a ∷ b ∷ []) a j c w h (inl refl) (λ t k. elim k [
        | inl e ↦ subst (λ z. IsAbove d z c) (sym e) left
        | inr more ↦ elim more [ inl e ↦ subst (λ z. IsAbove d z c) (sym e) right | inr z ↦ absurd z ]
      ]);
}

-- and back
pub IsJoinOf-pair : (d : Declared) (a b j : ℕ) → j < length d.types → IsJoin d a b j → IsJoinOf d (a ∷ b ∷ []) j
IsJoinOf-pair d a b j inside h = record {
  inside = inside;
  common = λ t k. elim k [
    | inl e ↦ subst (λ z. IsAbove d z j) (sym e) h.left
    | inr more ↦ elim more [ inl e ↦ subst (λ z. IsAbove d z j) (sym e) h.right | inr z ↦ absurd z ]
  ];
  least = λ c below common. h.least c (common a (inl refl)) (common b (inr (inl refl)));
}

-- `join` finds the least common subtype of two types
pub join_to : (d : Declared) (a b j : ℕ) → IsWellNumbered d → join d a b ≡ Some j → (j < length d.types) × IsJoin d a b j
join_to d a b j w h =
    let found = join_of_to d (a ∷ b ∷ []) j w h in (found.inside, IsJoin-from_list d a b j w found)

-- the least common subtype of two types is found
pub join_from : (d : Declared) (a b j : ℕ) → IsWellNumbered d → HasNoCycle d.edges → j < length d.types → IsJoin d a b j → join d a b ≡ Some j
join_from d a b j w free inside h = join_of_from d (a ∷ b ∷ []) j w free (IsJoinOf-pair d a b j inside h)

-- least common subtypes of two types are unique
pub IsJoin-unique : (d : Declared) (a b i j : ℕ) → HasNoCycle d.edges → IsJoin d a b i → IsJoin d a b j → i ≡ j
IsJoin-unique d a b i j free p q =
    IsAbove-antisym d i j free (p.least j q.left q.right) (q.least i p.left p.right)

-- where `join` finds nothing, the two types have no common subtype, where any two with one have a least one
pub join_none : (d : Declared) (a b c : ℕ) → IsWellNumbered d → HasJoins d → join d a b ≡ None → c < length d.types → IsAbove d a c → IsAbove d b c → ⊥
join_none d a b c w joins h below left right =
    let found = joins a b c below left right in
    let j : IsJoin d a b found.0 = found.1 in
    let inside = IsAbove_from_inside d found.0 c w (j.least c left right) below in
    join_of_none d (a ∷ b ∷ []) found.0 w h (IsJoinOf-pair d a b found.0 inside j)

-- where two types have a common subtype, `join` finds the least
pub join_there : (d : Declared) (a b c : ℕ) → IsWellNumbered d → HasNoCycle d.edges → HasJoins d → c < length d.types → IsAbove d a c → IsAbove d b c → (j : ℕ) × (join d a b ≡ Some j)
join_there d a b c w free joins below left right =
    let found = joins a b c below left right in
    let j : IsJoin d a b found.0 = found.1 in
    (found.0, join_from d a b found.0 w free (IsAbove_from_inside d found.0 c w (j.least c left right) below) j)

-- what is there, or nothing
pub none_or_some : (o : Option ℕ) → (o ≡ None) ⊎ ((x : ℕ) × (o ≡ Some x))
none_or_some None = inl refl
none_or_some (Some x) = inr (x, refl)

-- nothing is there where what there is cannot be
pub none_from : (o : Option ℕ) → ((x : ℕ) → o ≡ Some x → ⊥) → o ≡ None
none_from None h = refl
none_from (Some x) h = absurd (h x refl)

-- `bot` is the join of no types
pub join_of-none : (d : Declared) → IsWellNumbered d → HasNoCycle d.edges → join_of d [] ≡ Some 0
join_of-none d w free = join_of_from d [] 0 w free (IsJoinOf-none d w free)

-- one type more: the join of it and of that before
pub join_of-cons : (d : Declared) (t : ℕ) (ts : List ℕ) → IsWellNumbered d → HasNoCycle d.edges → HasJoins d → join_of d (t ∷ ts) ≡ option_and_then (join d t) (join_of d ts)
join_of-cons d t ts w free joins =
    elim (none_or_some (join_of d ts)) [
      | inl e ↦ rw e (none_from (join_of d (t ∷ ts)) (λ k h.
          let all = join_of_to d (t ∷ ts) k w h in
          let less = IsJoinOf-there d ts k w free joins all.inside (λ u v. all.common u (inr v)) in
          join_of_none d ts less.0 w e less.1))
      | inr some ↦
          let before = join_of_to d ts some.0 w some.1 in
          rw some.1 (elim (none_or_some (join d t some.0)) [
            | inl e ↦ none_from (join_of d (t ∷ ts)) (λ k h.
                let all = join_of_to d (t ∷ ts) k w h in
                join_none d t some.0 k w joins e all.inside (all.common t (inl refl)) (before.least k all.inside (λ u v. all.common u (inr v)))) ∙ sym e
            | inr more ↦
                join_of_from d (t ∷ ts) more.0 w free (IsJoinOf_more d t ts some.0 more.0 w before (join_to d t some.0 more.0 w more.1).1) ∙ sym more.1
          ])
    ]

-- the same elements have the same join
pub IsJoinOf_same : (d : Declared) (ts us : List ℕ) (j : ℕ) → ((t : ℕ) → Has ts t → Has us t) → ((t : ℕ) → Has us t → Has ts t) → IsJoinOf d ts j → IsJoinOf d us j
IsJoinOf_same d ts us j into back h = record {
  inside = h.inside;
  common = λ t k. h.common t (back t k);
  least = λ c below common. h.least c below (λ t k. common t (into t k));
}

-- and `join_of` finds the same
pub join_of_same : (d : Declared) (ts us : List ℕ) → IsWellNumbered d → HasNoCycle d.edges → ((t : ℕ) → Has ts t → Has us t) → ((t : ℕ) → Has us t → Has ts t) → join_of d ts ≡ join_of d us
join_of_same d ts us w free into back =
    elim (none_or_some (join_of d us)) [
      | inl e ↦ none_from (join_of d ts) (λ j h. join_of_none d us j w e (IsJoinOf_same d ts us j into back (join_of_to d ts j w h))) ∙ sym e
      | inr some ↦ join_of_from d ts some.0 w free (IsJoinOf_same d us ts some.0 back into (join_of_to d us some.0 w some.1)) ∙ sym some.1
    ]

-- joins of two types go either way
pub join-comm : (d : Declared) (a b : ℕ) → IsWellNumbered d → HasNoCycle d.edges → join d a b ≡ join d b a
join-comm d a b w free = join_of_same d (a ∷ b ∷ []) (b ∷ a ∷ []) w free (swapped a b) (swapped b a)
  where
    swapped : (a b t : ℕ) → Has (a ∷ b ∷ []) t → Has (b ∷ a ∷ []) t
    swapped a b t (inl e) = inr (inl e)
    swapped a b t (inr (inl e)) = inl e
    swapped a b t (inr (inr z)) = absurd z

-- one type more at the end
pub join_of-push : (d : Declared) (t : ℕ) (ts : List ℕ) → IsWellNumbered d → HasNoCycle d.edges → HasJoins d → join_of d (ts ++ t ∷ []) ≡ option_and_then (λ j. join d j t) (join_of d ts)
join_of-push d t ts w free joins =
    join_of_same d (ts ++ t ∷ []) (t ∷ ts) w free
    (λ u h. elim (Has-append_cases ts (t ∷ []) u h) [ inl k ↦ inr k | inr k ↦ elim k [ inl e ↦ inl e | inr z ↦ absurd z ] ])
    (λ u h. elim h [ inl e ↦ Has-append_right ts (t ∷ []) u (inl e) | inr k ↦ Has-append_left ts (t ∷ []) u k ])
    ∙ join_of-cons d t ts w free joins
    ∙ turned (join_of d ts)
  where
    turned : (o : Option ℕ) → option_and_then (join d t) o ≡ option_and_then (λ j. join d j t) o
    turned None = refl
    turned (Some j) = join-comm d t j w free

-- the join of a type and one below it
pub join-above : (d : Declared) (a b : ℕ) → IsWellNumbered d → HasNoCycle d.edges → b < length d.types → IsAbove d a b → join d a b ≡ Some b
join-above d a b w free below h = join_from d a b b w free below (record { left = h; right = here b; least = λ c left right. right })

-- the join of one type
pub join_of-one : (d : Declared) (t : ℕ) → IsWellNumbered d → HasNoCycle d.edges → t < length d.types → join_of d (t ∷ []) ≡ Some t
join_of-one d t w free below = join_of_from d (t ∷ []) t w free (record {
  inside = below;
  common = λ u k. elim k [ inl e ↦ subst (λ z. IsAbove d z t) (sym e) (here t) | inr z ↦ absurd z ];
  least = λ c less common. common t (inl refl);
})

-- the common subtypes are those below the join, so they are as many
pub count-join : (d : Declared) (ts : List ℕ) (j : ℕ) → IsWellNumbered d → IsJoinOf d ts j → count_below (λ c. is_common d ts c) (length d.types) ≤ rank d j
unfolding rank
count-join d ts j w h =
    let fewer : length (filter (λ c. is_common d ts c) (all_types d)) ≤ length (filter (λ c. is_above d j c) (all_types d)) =
    length-filter-le_in (λ c. is_common d ts c) (λ c. is_above d j c) (all_types d)
    (λ c there k. is_above_from d j c w (h.least c (upto_below (length d.types) c there) (is_common_to d ts c k))) in
    let count : length (filter (λ c. is_common d ts c) (all_types d)) ≡ count_below (λ c. is_common d ts c) (length d.types) =
    length-filter-upto (λ c. is_common d ts c) (length d.types) in
    omega arith

-- a common subtype with as many types below it as there are common subtypes is the join
pub IsJoinOf-from_count : (d : Declared) (ts : List ℕ) (j : ℕ) → IsWellNumbered d → j < length d.types → IsCommon d ts j → count_below (λ c. is_common d ts c) (length d.types) ≤ rank d j → IsJoinOf d ts j
unfolding rank
IsJoinOf-from_count d ts j w inside common many = record {
  inside = inside;
  common = common;
  least = λ c below k.
      elim (cases_Bool (is_above d j c)) [
        | inl e ↦ is_above_to d j c e
        | inr e ↦
            let more : length (filter (λ c. is_above d j c) (all_types d)) < length (filter (λ c. is_common d ts c) (all_types d)) =
            length-filter-lt (λ c. is_above d j c) (λ c. is_common d ts c) (all_types d) c
            (λ u h. is_common_from d ts u w (λ t v. IsAbove-trans d t j u (common t v) (is_above_to d j u h)))
            (upto_has (length d.types) c below) e (is_common_from d ts c w k) in
            let count : length (filter (λ c. is_common d ts c) (all_types d)) ≡ count_below (λ c. is_common d ts c) (length d.types) =
            length-filter-upto (λ c. is_common d ts c) (length d.types) in
            absurd (omega arith)
      ];
}

-- no common subtype has more types below it than the join
pub rank-join : (d : Declared) (ts : List ℕ) (j c : ℕ) → IsWellNumbered d → IsJoinOf d ts j → c < length d.types → IsCommon d ts c → rank d c ≤ rank d j
rank-join d ts j c w h below common = rank-le d j c w (h.least c below common)
