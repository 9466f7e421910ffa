-- The steps of a search in depth: a number is left, or a call is looked at.
use Rattle.std.proofs.Common.{◌≡◌, ℕ, zero, suc, ◌+◌, ◌<◌, ◌⊎◌, ◌↔◌, Bool, true, false, cond, List, [], ◌∷◌, length, get_or, set, drop, refl, sym, ap, ◌∙◌, subst, inl, inr, arith}
use Rattle.std.proofs.lemmas.Bool.{cases_lt, cases_eq, both_ways}
use Rattle.std.proofs.lemmas.List.{get_or-set_same, get_or-set_other, get_or_past}
use Rattle.ale_relation.specs.Has.{Has}
use Rattle.ale_relation.specs.Paths.{Reaches, here, along, ends_below}
use Rattle.ale_relation.proofs.Paths.{reaches_trans, has_below}
use Rattle.ale_order.specs.Calls.{called}
use Rattle.ale_order.specs.Searches.{OnPath, IsMet, LastCalls, IsLinked, MetOrDue, IsSettled, MeetsOnce, IsSearch, due_unseen, due}
use Rattle.ale_order.proofs.Members.{has_called, called_has}

-- what is on the path leads to its last
reaches_last : (calls : List (ℕ × ℕ)) (f : ℕ × ℕ) (path : List (ℕ × ℕ)) (v : ℕ) → IsLinked calls (f ∷ path) → OnPath (f ∷ path) v → Reaches calls v f.0
reaches_last calls f path v linked (inl e) = subst (λ (x : ℕ). Reaches calls x f.0) (sym e) (here f.0)
reaches_last calls f [] v linked (inr h) = absurd h
reaches_last calls f (g ∷ path) v linked (inr h) =
    reaches_trans calls v g.0 f.0 (reaches_last calls g path v linked.1 h) (along g.0 f.0 f.0 linked.0 (here f.0))

-- what is met can be met in more ways
due_more : (calls : List (ℕ × ℕ)) (met more : ℕ → Type 0) (path : List (ℕ × ℕ)) → ((v : ℕ) → met v → more v) → MetOrDue calls met path → MetOrDue calls more path
due_more calls met more [] wider h = tt
due_more calls met more (f ∷ path) wider h =
    (λ v call. elim (h.0 v call) [ inl g ↦ inl g | inr g ↦ inr (wider v g) ], due_more calls met more path wider h.1)

-- ---- a number is left

left_met : (left : List ℕ) (m at : ℕ) (path : List (ℕ × ℕ)) (v : ℕ) → IsMet left ((m, at) ∷ path) v → IsMet (m ∷ left) path v
left_met left m at path v (inl h) = inl (inr h)
left_met left m at path v (inr h) = elim h [ inl e ↦ inl (inl e) | inr g ↦ inr g ]

met_left : (left : List ℕ) (m at : ℕ) (path : List (ℕ × ℕ)) (v : ℕ) → IsMet (m ∷ left) path v → IsMet left ((m, at) ∷ path) v
met_left left m at path v (inl h) = elim h [ inl e ↦ inr (inl e) | inr g ↦ inl g ]
met_left left m at path v (inr h) = inr (inr h)

once_left : (left : List ℕ) (m : ℕ) (path : List (ℕ × ℕ)) → (IsMet left path m → ⊥) → MeetsOnce left path → MeetsOnce (m ∷ left) path
once_left left m [] apart once = (λ h. apart (inl h), once)
once_left left m (f ∷ path) apart once = (
  λ h. elim h [
    | inl g ↦ elim g [
      | inl e ↦ apart (inr (inl (sym e)))
      | inr k ↦ once.0 (inl k)
    ]
    | inr g ↦ once.0 (inr g)
  ],
  once_left left m path (λ h. apart (elim h [ inl g ↦ inl g | inr g ↦ inr (inr g) ])) once.1,
)

no_more : (calls : List (ℕ × ℕ)) (m at v : ℕ) → drop at (called calls m) ≡ [] → Has (drop at (called calls m)) v → ⊥
no_more calls m at v ended h = subst (λ (xs : List ℕ). Has xs v) ended h

-- the last on the path is left, where all of its calls were looked at
pub leave_step : (calls : List (ℕ × ℕ)) (seen : List Bool) (left : List ℕ) (m at : ℕ) (path : List (ℕ × ℕ)) → drop at (called calls m) ≡ [] → IsSearch calls seen left ((m, at) ∷ path) → IsSearch calls seen (m ∷ left) path
leave_step calls seen left m at path ended s = record {
  sees = λ v. (λ e. left_met left m at path v ((s.sees v).0 e), λ h. (s.sees v).1 (met_left left m at path v h));
  closed = closed;
  linked = s.linked.1;
  due = due_more calls (IsMet left ((m, at) ∷ path)) (IsMet (m ∷ left) path) path (left_met left m at path) s.due.1;
  settled = (
    λ u v h call. elim (closed u v h call) [
      | inl g ↦ inl g
      | inr g ↦ inr (reaches_last calls (m, at) path v s.linked (inr g))
    ],
    s.settled,
  );
  once = once_left left m path s.once.0 s.once.1;
}
  where
    closed : (u v : ℕ) → Has (m ∷ left) u → Has {A = ℕ × ℕ} calls (u, v) → IsMet (m ∷ left) path v
    closed u v (inl e) call =
        elim (s.due.0 v (subst (λ (x : ℕ). Has {A = ℕ × ℕ} calls (x, v)) e call)) [
          | inl g ↦ absurd (no_more calls m at v ended g)
          | inr g ↦ left_met left m at path v g
        ]
    closed u v (inr h) call = left_met left m at path v (s.closed u v h call)

-- ---- a call is looked at

linked_on : (calls : List (ℕ × ℕ)) (m at next : ℕ) (path : List (ℕ × ℕ)) → IsLinked calls ((m, at) ∷ path) → IsLinked calls ((m, next) ∷ path)
linked_on calls m at next path linked = linked

rest_due : (calls : List (ℕ × ℕ)) (m at next k v : ℕ) (met : ℕ → Type 0) → drop at (called calls m) ≡ k ∷ drop next (called calls m) → met k → Has (drop at (called calls m)) v ⊎ met v → Has (drop next (called calls m)) v ⊎ met v
rest_due calls m at next k v met looked known (inr h) = inr h
rest_due calls m at next k v met looked known (inl h) =
    let now : (v ≡ k) ⊎ Has (drop next (called calls m)) v = subst (λ (xs : List ℕ). Has xs v) looked h in
    elim now [ inl e ↦ inr (subst met (sym e) known) | inr g ↦ inl g ]

-- a call of one that is seen is looked at
seen_step : (calls : List (ℕ × ℕ)) (seen : List Bool) (left : List ℕ) (m at next k : ℕ) (path : List (ℕ × ℕ)) → drop at (called calls m) ≡ k ∷ drop next (called calls m) → get_or seen k false ≡ true → IsSearch calls seen left ((m, at) ∷ path) → IsSearch calls seen left ((m, next) ∷ path)
seen_step calls seen left m at next k path looked is_seen s = record {
  sees = s.sees;
  closed = s.closed;
  linked = s.linked;
  due = (λ v call. rest_due calls m at next k v (IsMet left ((m, next) ∷ path)) looked ((s.sees k).0 is_seen) (s.due.0 v call), s.due.1);
  settled = s.settled;
  once = s.once;
}

looked_call : (calls : List (ℕ × ℕ)) (m at next k : ℕ) → drop at (called calls m) ≡ k ∷ drop next (called calls m) → Has {A = ℕ × ℕ} calls (m, k)
looked_call calls m at next k looked =
    called_has calls m k (has_drop at (called calls m) k (subst (λ (xs : List ℕ). Has xs k) (sym looked) (inl refl)))
  where
    has_drop : (n : ℕ) (xs : List ℕ) (x : ℕ) → Has (drop n xs) x → Has xs x
    has_drop zero xs x h = h
    has_drop (suc n) [] x h = h
    has_drop (suc n) (y ∷ ys) x h = inr (has_drop n ys x h)

sees_set : (seen : List Bool) (k v : ℕ) → k < length seen → (get_or (set seen k true) v false ≡ true) ↔ ((v ≡ k) ⊎ (get_or seen v false ≡ true))
sees_set seen k v within =
    elim (cases_eq v k) [
      | inl e ↦ (λ _. inl e, λ _. subst (λ (x : ℕ). get_or (set seen k true) x false ≡ true) (sym e) (get_or-set_same seen k true false within))
      | inr n ↦
          let kept : get_or (set seen k true) v false ≡ get_or seen v false = get_or-set_other seen k v true false n in
          (λ h. inr (sym kept ∙ h), λ h. elim h [ inl e ↦ absurd (n e) | inr g ↦ kept ∙ g ])
    ]

-- one that is not met comes on the path
pub enter_step : (calls : List (ℕ × ℕ)) (seen : List Bool) (left : List ℕ) (k : ℕ) (path : List (ℕ × ℕ)) → k < length seen → get_or seen k false ≡ false → LastCalls calls path k → ((v : ℕ) → (get_or seen v false ≡ true) ↔ IsMet left path v) → ((u v : ℕ) → Has left u → Has {A = ℕ × ℕ} calls (u, v) → IsMet left path v) → IsLinked calls path → MetOrDue calls (λ v. IsMet left ((k, 0) ∷ path) v) path → IsSettled calls left → MeetsOnce left path → IsSearch calls (set seen k true) left ((k, 0) ∷ path)
enter_step calls seen left k path within unseen last sees closed linked due settled once = record {
  sees = λ v. (λ e. now v ((sees_set seen k v within).0 e), λ h. (sees_set seen k v within).1 (before v h));
  closed = λ u v h call. wider v (closed u v h call);
  linked = (last, linked);
  due = (λ v call. inl (has_called calls k v call), due);
  settled = settled;
  once = (λ h. both_ways (get_or seen k false) unseen ((sees k).1 h), once);
}
  where
    wider : (v : ℕ) → IsMet left path v → IsMet left ((k, 0) ∷ path) v
    wider v (inl h) = inl h
    wider v (inr h) = inr (inr h)

    now : (v : ℕ) → (v ≡ k) ⊎ (get_or seen v false ≡ true) → IsMet left ((k, 0) ∷ path) v
    now v (inl e) = inr (inl e)
    now v (inr e) = wider v ((sees v).0 e)

    before : (v : ℕ) → IsMet left ((k, 0) ∷ path) v → (v ≡ k) ⊎ (get_or seen v false ≡ true)
    before v (inl h) = inr ((sees v).1 (inl h))
    before v (inr h) = elim h [ inl e ↦ inl e | inr g ↦ inr ((sees v).1 (inr g)) ]

-- a call of one that is not seen is looked at
unseen_step : (calls : List (ℕ × ℕ)) (seen : List Bool) (left : List ℕ) (m at next k : ℕ) (path : List (ℕ × ℕ)) → drop at (called calls m) ≡ k ∷ drop next (called calls m) → k < length seen → get_or seen k false ≡ false → IsSearch calls seen left ((m, at) ∷ path) → IsSearch calls (set seen k true) left ((k, 0) ∷ (m, next) ∷ path)
unseen_step calls seen left m at next k path looked within unseen s =
    enter_step calls seen left k ((m, next) ∷ path) within unseen (looked_call calls m at next k looked) s.sees s.closed s.linked (λ v call. rest_due calls m at next k v (IsMet left ((k, 0) ∷ (m, next) ∷ path)) looked (inr (inl refl)) (widen v (s.due.0 v call)), due_more calls (IsMet left ((m, at) ∷ path)) (IsMet left ((k, 0) ∷ (m, next) ∷ path)) path wider s.due.1) s.settled s.once
  where
    wider : (v : ℕ) → IsMet left ((m, at) ∷ path) v → IsMet left ((k, 0) ∷ (m, next) ∷ path) v
    wider v (inl h) = inl h
    wider v (inr h) = inr (inr h)

    widen : (v : ℕ) → Has (drop at (called calls m)) v ⊎ IsMet left ((m, at) ∷ path) v → Has (drop at (called calls m)) v ⊎ IsMet left ((k, 0) ∷ (m, next) ∷ path) v
    widen v (inl h) = inl h
    widen v (inr h) = inr (wider v h)

-- ---- how many steps are left

set_due : (calls : List (ℕ × ℕ)) (n : ℕ) (seen : List Bool) (k : ℕ) → k < length seen → get_or seen k false ≡ false → due_unseen calls n (set seen k true) + suc (suc (length (called calls (n + k)))) ≡ due_unseen calls n seen
set_due calls n [] k within unseen = absurd (omega arith)
set_due calls n (s ∷ seen) zero within unseen =
    let e : n + zero ≡ n = omega arith in rw (unseen, e) (omega arith)
set_due calls n (s ∷ seen) (suc k) within unseen =
    let later = set_due calls (suc n) seen k (omega arith) unseen in
    let e : suc n + k ≡ n + suc k = omega arith in
    let moved = rw e at later in
    omega arith

-- ---- the steps of the code

-- the search after a step, which has fewer left
pub record IsStep (calls : List (ℕ × ℕ)) (seen : List Bool) (path : List (ℕ × ℕ)) (seen_after : List Bool) (left_after : List ℕ) (path_after : List (ℕ × ℕ)) : Type 0 where
  pub in_order : IsSearch calls seen_after left_after path_after
  pub fewer : due calls seen_after path_after < due calls seen path

pub leave_last : (calls : List (ℕ × ℕ)) (seen : List Bool) (left : List ℕ) (path rest : List (ℕ × ℕ)) (m at : ℕ) → path ≡ (m, at) ∷ rest → drop at (called calls m) ≡ [] → IsSearch calls seen left path → IsStep calls seen path seen (m ∷ left) rest
leave_last calls seen left path rest m at popped ended s =
    subst (λ (p : List (ℕ × ℕ)). IsStep calls seen p seen (m ∷ left) rest) (sym popped) (record {
      in_order = leave_step calls seen left m at rest ended (subst (λ (p : List (ℕ × ℕ)). IsSearch calls seen left p) popped s);
      fewer = omega arith;
    })

fewer_seen : (calls : List (ℕ × ℕ)) (seen : List Bool) (m at next k : ℕ) (path : List (ℕ × ℕ)) → drop at (called calls m) ≡ k ∷ drop next (called calls m) → due calls seen ((m, next) ∷ path) < due calls seen ((m, at) ∷ path)
fewer_seen calls seen m at next k path looked =
    let e : length (drop at (called calls m)) ≡ suc (length (drop next (called calls m))) = ap length looked in
    omega arith

fewer_unseen : (calls : List (ℕ × ℕ)) (seen : List Bool) (m at next k : ℕ) (path : List (ℕ × ℕ)) → drop at (called calls m) ≡ k ∷ drop next (called calls m) → k < length seen → get_or seen k false ≡ false → due calls (set seen k true) ((k, 0) ∷ (m, next) ∷ path) < due calls seen ((m, at) ∷ path)
fewer_unseen calls seen m at next k path looked within unseen =
    let e : length (drop at (called calls m)) ≡ suc (length (drop next (called calls m))) = ap length looked in
    let z : zero + k ≡ k = omega arith in
    let entered = rw z at (set_due calls zero seen k within unseen) in
    omega arith

look : (calls : List (ℕ × ℕ)) (seen : List Bool) (left : List ℕ) (m at next k : ℕ) (path : List (ℕ × ℕ)) → drop at (called calls m) ≡ k ∷ drop next (called calls m) → k < length seen → IsSearch calls seen left ((m, at) ∷ path) → (t : Bool) → get_or seen k false ≡ t → IsStep calls seen ((m, at) ∷ path) (cond t seen (set seen k true)) left (cond t ((m, next) ∷ path) ((k, 0) ∷ (m, next) ∷ path))
look calls seen left m at next k path looked within s true is_seen = record {
  in_order = seen_step calls seen left m at next k path looked is_seen s;
  fewer = fewer_seen calls seen m at next k path looked;
}
look calls seen left m at next k path looked within s false unseen = record {
  in_order = unseen_step calls seen left m at next k path looked within unseen s;
  fewer = fewer_unseen calls seen m at next k path looked within unseen;
}

pub look_next : (calls : List (ℕ × ℕ)) (seen seen_after : List Bool) (left : List ℕ) (path rest path_after : List (ℕ × ℕ)) (m at k : ℕ) → path ≡ (m, at) ∷ rest → drop at (called calls m) ≡ k ∷ drop (at + 1) (called calls m) → ends_below (length seen) calls ≡ true → seen_after ≡ cond (get_or seen k false) seen (set seen k true) → path_after ≡ cond (get_or seen k false) ((m, at + 1) ∷ rest) ((k, 0) ∷ (m, at + 1) ∷ rest) → IsSearch calls seen left path → IsStep calls seen path seen_after left path_after
look_next calls seen seen_after left path rest path_after m at k popped looked ends seen_is path_is s =
    let below : k < length seen = (has_below (length seen) calls (m, k) ends (looked_call calls m at (at + 1) k looked)).1 in
    let stepped : IsStep calls seen ((m, at) ∷ rest) (cond (get_or seen k false) seen (set seen k true)) left (cond (get_or seen k false) ((m, at + 1) ∷ rest) ((k, 0) ∷ (m, at + 1) ∷ rest)) = look calls seen left m at (at + 1) k rest looked below (subst (λ (p : List (ℕ × ℕ)). IsSearch calls seen left p) popped s) (get_or seen k false) refl in
    rw (popped, seen_is, path_is) stepped

-- the number where the search starts comes on the path if it is not seen
pub start_step : (calls : List (ℕ × ℕ)) (seen seen_after : List Bool) (left : List ℕ) (path_after : List (ℕ × ℕ)) (k : ℕ) → k < length seen → seen_after ≡ cond (get_or seen k false) seen (set seen k true) → path_after ≡ cond (get_or seen k false) [] ((k, 0) ∷ []) → IsSearch calls seen left [] → IsSearch calls seen_after left path_after
start_step calls seen seen_after left path_after k within seen_is path_is s =
    rw (seen_is, path_is) (start (get_or seen k false) refl)
  where
    start : (t : Bool) → get_or seen k false ≡ t → IsSearch calls (cond t seen (set seen k true)) left (cond t [] ((k, 0) ∷ []))
    start true is_seen = s
    start false unseen =
        enter_step calls seen left k [] within unseen tt s.sees s.closed tt tt s.settled s.once

-- nothing that was seen is not seen after one more is, and that one is seen
pub seen_kept : (seen seen_after : List Bool) (k : ℕ) → k < length seen → seen_after ≡ cond (get_or seen k false) seen (set seen k true) → (m : ℕ) → get_or seen m false ≡ true → get_or seen_after m false ≡ true
seen_kept seen seen_after k within seen_is m h =
    rw seen_is (kept (get_or seen k false))
  where
    kept : (t : Bool) → get_or (cond t seen (set seen k true)) m false ≡ true
    kept true = h
    kept false = (sees_set seen k m within).1 (inr h)

pub seen_now : (seen seen_after : List Bool) (k : ℕ) → k < length seen → seen_after ≡ cond (get_or seen k false) seen (set seen k true) → get_or seen_after k false ≡ true
seen_now seen seen_after k within seen_is = rw seen_is (now (get_or seen k false) refl)
  where
    now : (t : Bool) → get_or seen k false ≡ t → get_or (cond t seen (set seen k true)) k false ≡ true
    now true h = h
    now false h = (sees_set seen k k within).1 (inl refl)

-- ---- the whole search

-- the search before its first number
pub begin : (calls : List (ℕ × ℕ)) (seen : List Bool) → ((m : ℕ) → get_or seen m false ≡ false) → IsSearch calls seen [] []
begin calls seen none = record {
  sees = λ v. (λ e. absurd (both_ways (get_or seen v false) (none v) e), λ h. absurd (elim h [ inl g ↦ g | inr g ↦ g ]));
  closed = λ u v h call. absurd h;
  linked = tt;
  due = tt;
  settled = tt;
  once = tt;
}

seen_below : (seen : List Bool) (m : ℕ) → get_or seen m false ≡ true → m < length seen
seen_below seen m h =
    elim (cases_lt m (length seen)) [
      | inl below ↦ below
      | inr past ↦ absurd (both_ways (get_or seen m false) (get_or_past seen m false past) h)
    ]

-- the search after its last number
pub left_each : (calls : List (ℕ × ℕ)) (seen : List Bool) (left : List ℕ) (size : ℕ) → length seen ≡ size → ((m : ℕ) → m < size → get_or seen m false ≡ true) → IsSearch calls seen left [] → (m : ℕ) → Has left m ↔ (m < size)
left_each calls seen left size wide all s m =
    (λ h. subst (λ (n : ℕ). m < n) wide (seen_below seen m ((s.sees m).1 (inl h))), λ below. elim ((s.sees m).0 (all m below)) [ inl h ↦ h | inr h ↦ absurd h ])
