-- Restrictions as the code finds them: from the mentions of one feature, joined one after another.
use Rattle.std.proofs.Common.{◌≡◌, sym, ap, ◌∙◌, subst, refl, ℕ, ◌<◌, Bool, true, eqb, cond, Option, Some, None, List, [], ◌∷◌, ◌++◌, map, length, inl, inr}
use Rattle.std.specs.Prelude.{◌&&◌}
use Rattle.std.specs.List.{filter}
use Rattle.std.proofs.lemmas.Bool.{cases_Bool}
use Rattle.ale_relation.specs.Has.{Has}
use Rattle.ale_declared.specs.Lists.{first, every}
use Rattle.ale_declared.specs.Declarations.{Declared}
use Rattle.ale_declared.specs.declared.decl.Mention.{Mention}
use Rattle.ale_hierarchy.specs.Order.{IsAbove, IsJoin, Applies, Introduces, is_above, join, join_of, join_of_some, restrictions, approp, mentioning, intro}
use Rattle.ale_declared.specs.Numbering.{IsWellNumbered}
use Rattle.ale_hierarchy.specs.Stages.{IsOrdered, HasLeast, are_below, are_within, mentions_of, restricted, narrowed, HaveNoJoin, HasRestriction}
use Rattle.ale_declared.proofs.ListLemmas.{map_has, filter_has}
use Rattle.ale_hierarchy.proofs.LoopLemmas.{are_below-from}
use Rattle.ale_hierarchy.proofs.StageLemmas.{are_within-at}
use Rattle.ale_hierarchy.proofs.OrderLemmas.{IsAbove-trans}
use Rattle.ale_hierarchy.proofs.JoinLemmas.{IsCommon, IsJoinOf, none_from, join_to, join_of_to, join_of_from, join_of_none, join_of-one}
use Rattle.ale_hierarchy.proofs.AppropLemmas.{HasRestrictions, restrictions_has, Has-restrictions, IsJoinOf-restrictions, intro_is, first_introduces}

-- the types at which mentions are
pub ats-below : (n : ℕ) (ms : List Mention) → are_within n ms ≡ true → are_below n (map (λ (m : Mention). m.at) ms) ≡ true
ats-below n ms within =
    are_below-from n (map (λ (m : Mention). m.at) ms) (λ t h.
    let made = map_has (λ (m : Mention). m.at) ms t h in
    subst (λ z. z < n) (sym made.2) (are_within-at n ms made.0 within made.1).0)

-- restrictions are types
pub restricted-below : (d : Declared) (t : ℕ) (ms : List Mention) → are_within (length d.types) ms ≡ true → are_below (length d.types) (restricted d t ms) ≡ true
restricted-below d t ms within =
    are_below-from (length d.types) (restricted d t ms) (λ r h.
    let made = map_has (λ (m : Mention). m.restriction) (filter (λ (m : Mention). is_above d m.at t) ms) r h in
    let kept = filter_has (λ (m : Mention). is_above d m.at t) ms made.0 made.1 in
    subst (λ z. z < length d.types) (sym made.2) (are_within-at (length d.types) ms made.0 within kept.0).1)

-- a filter of a filter
filter-filter : {A : Type 0} (p q : A → Bool) (xs : List A) → filter (λ x. p x && q x) xs ≡ filter q (filter p xs)
filter-filter p q [] = refl
filter-filter p q (x ∷ xs) =
    elim (cases_Bool (p x)) [
      | inl e ↦ rw e (ap (λ rest. cond (q x) (x ∷ rest) rest) (filter-filter p q xs))
      | inr e ↦ rw e (filter-filter p q xs)
    ]

-- the restrictions at a type, from the mentions of the feature
pub restrictions_is : (d : Declared) (f t : ℕ) → restrictions d f t ≡ restricted d t (mentions_of d.mentions f)
restrictions_is d f t =
    ap (map (λ (m : Mention). m.restriction)) (filter-filter (λ (m : Mention). eqb m.feature f) (λ (m : Mention). is_above d m.at t) d.mentions)

pub approp_is : (d : Declared) (f t : ℕ) → approp d f t ≡ join_of_some d (restricted d t (mentions_of d.mentions f))
unfolding approp
approp_is d f t = ap (join_of_some d) (restrictions_is d f t)

-- ---- joining one after another

-- what was found, as a list
abbrev pub listed : Option ℕ → List ℕ
listed None = []
listed (Some j) = j ∷ []

-- the types have the same join as those from which the search began, and there are some if there were some
pub record IsLeft (d : Declared) (xs ys : List ℕ) : Type 0 where
  pub to : (j : ℕ) → IsJoinOf d xs j → IsJoinOf d ys j
  pub from : (j : ℕ) → IsJoinOf d ys j → IsJoinOf d xs j
  pub some : (x : ℕ) → Has xs x → (y : ℕ) × Has ys y
  pub all : (y : ℕ) → Has ys y → (x : ℕ) × Has xs x

pub IsLeft-start : (d : Declared) (xs : List ℕ) → IsLeft d (listed None ++ xs) xs
IsLeft-start d xs = record {
  to = λ j h. h;
  from = λ j h. h;
  some = λ x h. (x, h);
  all = λ y h. (y, h);
}

-- two types give way to their join
joined_common : (d : Declared) (j r k : ℕ) (rest : List ℕ) (c : ℕ) → IsJoin d j r k → IsCommon d (k ∷ rest) c → IsCommon d (j ∷ r ∷ rest) c
joined_common d j r k rest c is h t there =
    elim there [
      | inl e ↦ subst (λ z. IsAbove d z c) (sym e) (IsAbove-trans d j k c is.left (h k (inl refl)))
      | inr more ↦ elim more [
        | inl e ↦ subst (λ z. IsAbove d z c) (sym e) (IsAbove-trans d r k c is.right (h k (inl refl)))
        | inr last ↦ h t (inr last)
      ]
    ]

common_joined : (d : Declared) (j r k : ℕ) (rest : List ℕ) (c : ℕ) → IsJoin d j r k → IsCommon d (j ∷ r ∷ rest) c → IsCommon d (k ∷ rest) c
common_joined d j r k rest c is h t there =
    elim there [
      | inl e ↦ subst (λ z. IsAbove d z c) (sym e) (is.least c (h j (inl refl)) (h r (inr (inl refl))))
      | inr last ↦ h t (inr (inr last))
    ]

IsLeft-joined : (d : Declared) (j r k : ℕ) (rest ys : List ℕ) → IsJoin d j r k → IsLeft d (j ∷ r ∷ rest) ys → IsLeft d (k ∷ rest) ys
IsLeft-joined d j r k rest ys is h = record {
  to = λ x at. h.to x (record {
    inside = at.inside;
    common = joined_common d j r k rest x is at.common;
    least = λ c below common. at.least c below (common_joined d j r k rest c is common);
  });
  from = λ x at.
      let back = h.from x at in
      record {
        inside = back.inside;
        common = common_joined d j r k rest x is back.common;
        least = λ c below common. back.least c below (joined_common d j r k rest c is common);
      };
  some = λ x there. h.some j (inl refl);
  all = λ y there. (k, inl refl);
}

-- one type more is joined
pub IsLeft_narrowed : (d : Declared) (found : Option ℕ) (r k : ℕ) (rest ys : List ℕ) → IsOrdered d → narrowed d found r ≡ Some k → IsLeft d (listed found ++ (r ∷ rest)) ys → IsLeft d (listed (Some k) ++ rest) ys
IsLeft_narrowed d None r k rest ys o e h =
    let same : r ≡ k = some_same r k e in
    subst (λ (z : ℕ). IsLeft d (z ∷ rest) ys) same h
  where
    some_same : (r k : ℕ) → Some r ≡ Some k → r ≡ k
    some_same r k e = cc
IsLeft_narrowed d (Some j) r k rest ys o e h = IsLeft-joined d j r k rest ys (join_to d j r k o.numbered e).1 h

-- where one type more has no join with what was found, all have none
pub HaveNoJoin_narrowed : (d : Declared) (found : Option ℕ) (r : ℕ) (rest ys : List ℕ) → IsOrdered d → ((j : ℕ) → found ≡ Some j → HasLeast d j r) → narrowed d found r ≡ None → IsLeft d (listed found ++ (r ∷ rest)) ys → HaveNoJoin d ys
HaveNoJoin_narrowed d None r rest ys o least e h = absurd cc
HaveNoJoin_narrowed d (Some j) r rest ys o least e h = record {
  some = h.some j (inl refl);
  none = none_from (join_of d ys) (λ x is.
      let all = h.from x (join_of_to d ys x o.numbered is) in
      let found = least j refl x all.inside (all.common j (inl refl)) (all.common r (inr (inl refl))) in
      not_both (join d j r) found.0 e found.1);
}
  where
    not_both : (o : Option ℕ) (x : ℕ) → o ≡ None → o ≡ Some x → ⊥
    not_both o x p q = absurd cc

-- when all are joined
pub join_of_some-found : (d : Declared) (found : Option ℕ) (ys : List ℕ) → IsOrdered d → ((j : ℕ) → found ≡ Some j → j < length d.types) → IsLeft d (listed found ++ []) ys → found ≡ join_of_some d ys
join_of_some-found d None [] o inside h = refl
join_of_some-found d None (y ∷ ys) o inside h = absurd (h.all y (inl refl)).1
join_of_some-found d (Some j) [] o inside h = absurd (h.some j (inl refl)).1
join_of_some-found d (Some j) (y ∷ ys) o inside h =
    sym (join_of_from d (y ∷ ys) j o.numbered o.no_cycle (h.to j (join_of_to d (j ∷ []) j o.numbered (join_of-one d j o.numbered o.no_cycle (inside j refl)))))

pub found_there : (d : Declared) (found : Option ℕ) (ys : List ℕ) → IsLeft d (listed found ++ []) ys → (y : ℕ) → Has ys y → (k : ℕ) × (found ≡ Some k)
found_there d None ys h y there = absurd (h.all y there).1
found_there d (Some j) ys h y there = (j, refl)

-- ---- of a feature at a type

-- a mention that applies is among those that are joined
pub Has-restricted : (d : Declared) (f t : ℕ) (m : Mention) → IsWellNumbered d → Applies d f t m → Has (restricted d t (mentions_of d.mentions f)) m.restriction
Has-restricted d f t m w a = subst (λ (rs : List ℕ). Has rs m.restriction) (restrictions_is d f t) (Has-restrictions d f t m w a)

pub HasRestriction-from : (d : Declared) (f t : ℕ) (r : Option ℕ) → IsWellNumbered d → r ≡ join_of_some d (restricted d t (mentions_of d.mentions f)) → ((s : ℕ) → Has (restricted d t (mentions_of d.mentions f)) s → (k : ℕ) × (r ≡ Some k)) → HasRestriction d f t
HasRestriction-from d f t r w is there m a =
    let found = there m.restriction (Has-restricted d f t m w a) in
    (found.0, approp_is d f t ∙ sym is ∙ found.1)

-- where restrictions that apply together have joins, these have one
pub restrictions_lack : (d : Declared) (f t : ℕ) → IsWellNumbered d → t < length d.types → HaveNoJoin d (restricted d t (mentions_of d.mentions f)) → HasRestrictions d → ⊥
restrictions_lack d f t w below h have =
    let back = sym (restrictions_is d f t) in
    let some = restrictions_has d f t h.some.0 (subst (λ (rs : List ℕ). Has rs h.some.0) back h.some.1) in
    let r = have f t some.0 below some.1 in
    join_of_none d (restrictions d f t) r.0 w (subst (λ (rs : List ℕ). join_of d rs ≡ None) back h.none) (IsJoinOf-restrictions d f t r.0 some.0 w some.1 r.1)

-- ---- which type introduces a feature

pub intro_found : (d : Declared) (f t : ℕ) → IsOrdered d → first (λ t. every (λ u. is_above d t u) (mentioning d f)) (mentioning d f) ≡ Some t → (t ≡ intro d f) × Introduces d f t
intro_found d f t o h =
    let is = first_introduces d f t h in
    (sym (intro_is d f t o.numbered o.no_cycle is), is)
