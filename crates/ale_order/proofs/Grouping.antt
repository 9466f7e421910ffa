-- How a group is collected, and that it is whole.
use Rattle.std.proofs.Common.{◌≡◌, ℕ, zero, suc, ◌+◌, ◌<◌, ◌⊎◌, true, false, cond, List, [], ◌∷◌, length, set, Option, Some, None, refl, sym, ap, ◌∙◌, subst, inl, inr, arith}
use Rattle.std.specs.Prelude.{is_none, is_some}
use Rattle.std.proofs.lemmas.Bool.{cases_eq, true≢false}
use Rattle.std.proofs.lemmas.List.{get_or-set_same, get_or-set_other, length-set}
use Rattle.std.proofs.lemmas.Option.{none-some, same_Some}
use Rattle.ale_relation.specs.Has.{Has}
use Rattle.ale_relation.specs.Paths.{Reaches, here, along, ends_below}
use Rattle.ale_relation.proofs.Paths.{reaches_trans, has_below}
use Rattle.ale_order.specs.Calls.{callers}
use Rattle.ale_order.specs.Orders.{Distinct}
use Rattle.ale_order.specs.Searches.{IsSettled}
use Rattle.ale_order.specs.Groups.{root, IsGrouped, Walks, stays, walks, AreGroups, Collects, IsCollecting, Collection, with_caller, with_callers}
use Rattle.ale_order.proofs.Members.{has_callers, callers_has}

-- ---- the way back

reaches_end : (calls : List (ℕ × ℕ)) (among : List ℕ) (r m : ℕ) → Walks calls among r m → Reaches calls m r
reaches_end calls among r m (stays) = here r
reaches_end calls among r m (walks a b call has w) = along a b r call (reaches_end calls among r b w)

-- who walks to `r` from the list that ends with `y` goes on in it up to `r`, or comes to one that leads to `y`
leaves_list : (calls : List (ℕ × ℕ)) (among : List ℕ) (r y : ℕ) (ys : List ℕ) → ((u v : ℕ) → Has (y ∷ ys) u → Has {A = ℕ × ℕ} calls (u, v) → Has (y ∷ ys) v ⊎ Reaches calls v y) → ((x : ℕ) → Walks calls among r x → Has (y ∷ ys) x ⊎ Reaches calls r x) → (x : ℕ) → Walks calls among r x → Has (y ∷ ys) x → Has (y ∷ ys) r ⊎ Reaches calls r y
leaves_list calls among r y ys settled known x (stays) h = inl h
leaves_list calls among r y ys settled known x (walks a b call has w) h =
    elim (settled a b h call) [
      | inl g ↦ leaves_list calls among r y ys settled known b w g
      | inr q ↦ elim (known b w) [
        | inl g ↦ leaves_list calls among r y ys settled known b w g
        | inr p ↦ inr (reaches_trans calls r b y p q)
      ]
    ]

back_among : (calls : List (ℕ × ℕ)) (among : List ℕ) (r : ℕ) (list : List ℕ) → IsSettled calls list → (Has list r → ⊥) → ((x : ℕ) → Walks calls among r x → Has list x ⊎ Reaches calls r x) → (x : ℕ) → Walks calls among r x → Reaches calls r x
back_among calls among r [] settled apart known x w = elim (known x w) [ inl h ↦ absurd h | inr p ↦ p ]
back_among calls among r (y ∷ ys) settled apart known x w =
    back_among calls among r ys settled.1 (λ h. apart (inr h)) fewer x w
  where
    back : (z : ℕ) → Walks calls among r z → Has (y ∷ ys) z → Reaches calls r y
    back z v h =
        elim (leaves_list calls among r y ys settled.0 known z v h) [
          | inl g ↦ absurd (apart g)
          | inr p ↦ p
        ]

    fewer : (z : ℕ) → Walks calls among r z → Has ys z ⊎ Reaches calls r z
    fewer z v =
        elim (known z v) [
          | inl h ↦ elim h [
            | inl e ↦ inr (subst (λ (t : ℕ). Reaches calls r t) (sym e) (back z v (inl e)))
            | inr g ↦ inl g
          ]
          | inr p ↦ inr p
        ]

-- whoever walks to `r` among those that were left up to `r` is reached from it
pub way_back : (calls : List (ℕ × ℕ)) (r : ℕ) (before : List ℕ) → IsSettled calls (r ∷ before) → Distinct (r ∷ before) → (x : ℕ) → Walks calls (r ∷ before) r x → Reaches calls r x
way_back calls r before settled once x w =
    back_among calls (r ∷ before) r before settled.1 once.0 known x w
  where
    known : (z : ℕ) → Walks calls (r ∷ before) r z → Has before z ⊎ Reaches calls r z
    known z (stays) = inr (here r)
    known z (walks a b call has v) =
        elim has [
          | inl e ↦ inr (subst (λ (t : ℕ). Reaches calls r t) (sym e) (here r))
          | inr h ↦ inl h
        ]

-- ---- roots

root_cases : (groups : List (Option ℕ)) (m : ℕ) → (root groups m ≡ None) ⊎ IsGrouped groups m
root_cases groups m = go (root groups m) refl
  where
    go : (o : Option ℕ) → root groups m ≡ o → (root groups m ≡ None) ⊎ IsGrouped groups m
    go None e = inl e
    go (Some r) e = inr (r, e)

not_both : (groups : List (Option ℕ)) (m r : ℕ) → root groups m ≡ None → root groups m ≡ Some r → ⊥
not_both groups m r e p = none-some r (sym e ∙ p)

-- ---- one caller

-- a caller without a group comes into the group of `r`
add_one : (calls : List (ℕ × ℕ)) (among : List ℕ) (r : ℕ) (before now : List (Option ℕ)) (waiting : List ℕ) (callee a : ℕ) (row : List ℕ) → a < length now → root now a ≡ None → Walks calls among r a → IsCollecting calls among r before now waiting callee (a ∷ row) → IsCollecting calls among r before (set now a (Some r)) (a ∷ waiting) callee row
add_one calls among r before now waiting callee a row within none walk s = record {
  wide = length-set now a (Some r) ∙ s.wide;
  start = other r (λ e. not_both now a r none (subst (λ (t : ℕ). root now t ≡ Some r) e s.start)) ∙ s.start;
  kept = λ m. elim (cases_eq m a) [
    | inl e ↦ subst (λ (t : ℕ). (root (set now a (Some r)) t ≡ root before t) ⊎ ((root before t ≡ None) × (root (set now a (Some r)) t ≡ Some r))) (sym e) (inr (before_none, put))
    | inr n ↦ elim (s.kept m) [ inl p ↦ inl (other m n ∙ p) | inr p ↦ inr (p.0, other m n ∙ p.1) ]
  ];
  walk = λ m was is. elim (cases_eq m a) [
    | inl e ↦ subst (λ (t : ℕ). Walks calls among r t) (sym e) walk
    | inr n ↦ s.walk m was (sym (other m n) ∙ is)
  ];
  waits = λ m h. elim h [
    | inl e ↦ subst (λ (t : ℕ). Walks calls among r t) (sym e) walk
    | inr g ↦ s.waits m g
  ];
  callers = λ x b call grouped. elim (cases_eq b a) [
    | inl e ↦ inl (inr (inl e))
    | inr n ↦ elim (s.callers x b call (grouped.0, sym (other b n) ∙ grouped.1)) [
      | inl p ↦ elim p [ inl g ↦ inl (inl (wider x g)) | inr g ↦ inl (inr (inr g)) ]
      | inr p ↦ elim p.1 [
        | inl e ↦ inl (inl (subst (λ (t : ℕ). IsGrouped (set now a (Some r)) t) (sym e) (r, put)))
        | inr g ↦ inr (p.0, g)
      ]
    ]
  ];
}
  where
    put : root (set now a (Some r)) a ≡ Some r
    put = get_or-set_same now a (Some r) None within

    other : (m : ℕ) → (m ≡ a → ⊥) → root (set now a (Some r)) m ≡ root now m
    other m n = get_or-set_other now a m (Some r) None n

    before_none : root before a ≡ None
    before_none =
        elim (s.kept a) [
          | inl p ↦ sym p ∙ none
          | inr p ↦ p.0
        ]

    wider : (x : ℕ) → IsGrouped now x → IsGrouped (set now a (Some r)) x
    wider x g =
        elim (cases_eq x a) [
          | inl e ↦ subst (λ (t : ℕ). IsGrouped (set now a (Some r)) t) (sym e) (r, put)
          | inr n ↦ (g.0, other x n ∙ g.1)
        ]

-- a caller that has a group is passed over
skip_one : (calls : List (ℕ × ℕ)) (among : List ℕ) (r : ℕ) (before now : List (Option ℕ)) (waiting : List ℕ) (callee a : ℕ) (row : List ℕ) → IsGrouped now a → IsCollecting calls among r before now waiting callee (a ∷ row) → IsCollecting calls among r before now waiting callee row
skip_one calls among r before now waiting callee a row grouped s = record {
  wide = s.wide;
  start = s.start;
  kept = s.kept;
  walk = s.walk;
  waits = s.waits;
  callers = λ x b call g. elim (s.callers x b call g) [
    | inl p ↦ inl p
    | inr p ↦ elim p.1 [
      | inl e ↦ inl (inl (subst (λ (t : ℕ). IsGrouped now t) (sym e) grouped))
      | inr h ↦ inr (p.0, h)
    ]
  ];
}

-- ---- the callers of one number

-- what a row of callers is to the collection
pub record AreCallers (calls : List (ℕ × ℕ)) (among : List ℕ) (r : ℕ) (before : List (Option ℕ)) (callee : ℕ) (row : List ℕ) : Type 0 where
  pub call : (a : ℕ) → Has row a → Has {A = ℕ × ℕ} calls (a, callee)
  pub below : (a : ℕ) → Has row a → a < length before
  pub open_among : (a : ℕ) → Has row a → root before a ≡ None → Has among a
  pub walk : Walks calls among r callee

row_collected : (calls : List (ℕ × ℕ)) (among : List ℕ) (r : ℕ) (before : List (Option ℕ)) (callee : ℕ) (row : List ℕ) (s : Collection) → AreCallers calls among r before callee row → IsCollecting calls among r before s.groups s.waiting callee row → IsCollecting calls among r before (with_callers r row s).groups (with_callers r row s).waiting callee []
row_collected calls among r before callee [] s are now = now
row_collected calls among r before callee (a ∷ row) s are now =
    row_collected calls among r before callee row (with_caller r a s) (record {
      call = λ x h. are.call x (inr h);
      below = λ x h. are.below x (inr h);
      open_among = λ x h. are.open_among x (inr h);
      walk = are.walk;
    }) (one (root s.groups a) refl)
  where
    before_none : root s.groups a ≡ None → root before a ≡ None
    before_none none = elim (now.kept a) [ inl p ↦ sym p ∙ none | inr p ↦ p.0 ]

    one : (o : Option ℕ) → root s.groups a ≡ o → IsCollecting calls among r before (with_caller r a s).groups (with_caller r a s).waiting callee row
    one None e =
        let within : a < length s.groups = subst (λ (n : ℕ). a < n) (sym now.wide) (are.below a (inl refl)) in
        let walk : Walks calls among r a = walks a callee (are.call a (inl refl)) (are.open_among a (inl refl) (before_none e)) are.walk in
        rw e (add_one calls among r before s.groups s.waiting callee a row within e walk now)
    one (Some q) e = rw e (skip_one calls among r before s.groups s.waiting callee a row (q, e) now)

-- ---- a whole group

-- the group begins with its root
collect_first : (calls : List (ℕ × ℕ)) (size r : ℕ) (to_come : List ℕ) (before : List (Option ℕ)) → r < length before → root before r ≡ None → AreGroups calls size before (r ∷ to_come) → IsCollecting calls (r ∷ to_come) r before (set before r (Some r)) (r ∷ []) zero []
collect_first calls size r to_come before within none groups = record {
  wide = length-set before r (Some r);
  start = put;
  kept = λ m. elim (cases_eq m r) [
    | inl e ↦ subst (λ (t : ℕ). (root (set before r (Some r)) t ≡ root before t) ⊎ ((root before t ≡ None) × (root (set before r (Some r)) t ≡ Some r))) (sym e) (inr (none, put))
    | inr n ↦ inl (other m n)
  ];
  walk = λ m was is. elim (cases_eq m r) [
    | inl e ↦ subst (λ (t : ℕ). Walks calls (r ∷ to_come) r t) (sym e) stays
    | inr n ↦ absurd (not_both before m r was (sym (other m n) ∙ is))
  ];
  waits = λ m h. elim h [
    | inl e ↦ subst (λ (t : ℕ). Walks calls (r ∷ to_come) r t) (sym e) stays
    | inr g ↦ absurd g
  ];
  callers = λ a b call grouped. elim (cases_eq b r) [
    | inl e ↦ inl (inr (inl e))
    | inr n ↦ inl (inl (wider a (groups.callers a b call (grouped.0, sym (other b n) ∙ grouped.1))))
  ];
}
  where
    put : root (set before r (Some r)) r ≡ Some r
    put = get_or-set_same before r (Some r) None within

    other : (m : ℕ) → (m ≡ r → ⊥) → root (set before r (Some r)) m ≡ root before m
    other m n = get_or-set_other before r m (Some r) None n

    wider : (x : ℕ) → IsGrouped before x → IsGrouped (set before r (Some r)) x
    wider x g =
        elim (cases_eq x r) [
          | inl e ↦ subst (λ (t : ℕ). IsGrouped (set before r (Some r)) t) (sym e) (r, put)
          | inr n ↦ (g.0, other x n ∙ g.1)
        ]

-- the first of those that wait is taken, and its callers are to be looked at
take_one : (calls : List (ℕ × ℕ)) (among : List ℕ) (r : ℕ) (before now : List (Option ℕ)) (callee : ℕ) (rest : List ℕ) → IsCollecting calls among r before now (callee ∷ rest) zero [] → IsCollecting calls among r before now rest callee (callers calls callee)
take_one calls among r before now callee rest s = record {
  wide = s.wide;
  start = s.start;
  kept = s.kept;
  walk = s.walk;
  waits = λ m h. s.waits m (inr h);
  callers = λ a b call grouped. elim (s.callers a b call grouped) [
    | inl p ↦ elim p [
      | inl g ↦ inl (inl g)
      | inr h ↦ elim h [
        | inl e ↦ inr (e, subst (λ (t : ℕ). Has (callers calls t) a) e (has_callers calls a b call))
        | inr g ↦ inl (inr g)
      ]
    ]
    | inr p ↦ absurd p.1
  ];
}

-- all callers of one number were looked at
row_done : (calls : List (ℕ × ℕ)) (among : List ℕ) (r : ℕ) (before now : List (Option ℕ)) (waiting : List ℕ) (callee : ℕ) → IsCollecting calls among r before now waiting callee [] → IsCollecting calls among r before now waiting zero []
row_done calls among r before now waiting callee s = record {
  wide = s.wide;
  start = s.start;
  kept = s.kept;
  walk = s.walk;
  waits = s.waits;
  callers = λ a b call grouped. elim (s.callers a b call grouped) [ inl p ↦ inl p | inr p ↦ absurd p.1 ];
}

-- the callers of the first of those that wait are collected
pub collect_step : (calls : List (ℕ × ℕ)) (size r : ℕ) (to_come : List ℕ) (before now after : List (Option ℕ)) (waiting rest waiting_after : List ℕ) (callee : ℕ) → waiting ≡ callee ∷ rest → with_callers r (callers calls callee) (record { groups = now; waiting = rest }) ≡ (record { groups = after; waiting = waiting_after }) → ends_below size calls ≡ true → AreGroups calls size before (r ∷ to_come) → IsCollecting calls (r ∷ to_come) r before now waiting zero [] → IsCollecting calls (r ∷ to_come) r before after waiting_after zero []
collect_step calls size r to_come before now after waiting rest waiting_after callee first made ends groups s =
    row_done calls (r ∷ to_come) r before after waiting_after callee (subst (λ (c : Collection). IsCollecting calls (r ∷ to_come) r before c.groups c.waiting callee []) made collected)
  where
    start : IsCollecting calls (r ∷ to_come) r before now (callee ∷ rest) zero []
    start =
        subst (λ (w : List ℕ). IsCollecting calls (r ∷ to_come) r before now w zero []) first s

    below : (a : ℕ) → Has (callers calls callee) a → a < size
    below a h = (has_below size calls (a, callee) ends (callers_has calls a callee h)).0

    are : AreCallers calls (r ∷ to_come) r before callee (callers calls callee)
    are = record {
      call = λ a h. callers_has calls a callee h;
      below = λ a h. subst (λ (n : ℕ). a < n) (sym groups.wide) (below a h);
      open_among = λ a h none. groups.others a (below a h) none;
      walk = start.waits callee (inl refl);
    }

    collected : IsCollecting calls (r ∷ to_come) r before (with_callers r (callers calls callee) (record { groups = now; waiting = rest })).groups (with_callers r (callers calls callee) (record { groups = now; waiting = rest })).waiting callee []
    collected =
        row_collected calls (r ∷ to_come) r before callee (callers calls callee) (record { groups = now; waiting = rest }) are (take_one calls (r ∷ to_come) r before now callee rest start)

reach_grouped : (calls : List (ℕ × ℕ)) (groups : List (Option ℕ)) → ((a b : ℕ) → Has {A = ℕ × ℕ} calls (a, b) → IsGrouped groups b → IsGrouped groups a) → (a b : ℕ) → Reaches calls a b → IsGrouped groups b → IsGrouped groups a
reach_grouped calls groups closed a b (here _) g = g
reach_grouped calls groups closed a b (along _ m _ call p) g =
    closed a m call (reach_grouped calls groups closed m b p g)

-- none waits: the group is whole
collect_last : (calls : List (ℕ × ℕ)) (size r : ℕ) (to_come : List ℕ) (before now : List (Option ℕ)) → IsSettled calls (r ∷ to_come) → Distinct (r ∷ to_come) → AreGroups calls size before (r ∷ to_come) → IsCollecting calls (r ∷ to_come) r before now [] zero [] → AreGroups calls size now to_come
collect_last calls size r to_come before now settled once groups s = record {
  wide = s.wide ∙ groups.wide;
  others = λ m below none. elim (groups.others m below (was_none m none)) [
    | inl e ↦ absurd (not_both now r r (subst (λ (t : ℕ). root now t ≡ None) e none) s.start)
    | inr h ↦ h
  ];
  callers = closed;
  with_root = λ m q e. elim (s.kept m) [
    | inl p ↦ groups.with_root m q (sym p ∙ e)
    | inr p ↦ subst (λ (t : ℕ). Reaches calls m t × Reaches calls t m) (same_Some r q (sym p.1 ∙ e)) (both m (s.walk m p.0 p.1))
  ];
  together = λ a b ab ba. elim (root_cases before a) [
    | inl none ↦ new_together a b none (sym (groups.together a b ab ba) ∙ none) ab ba
    | inr g ↦ stays_root a g ∙ groups.together a b ab ba ∙ sym (stays_root b (g.0, sym (groups.together a b ab ba) ∙ g.1))
  ];
}
  where
    was_none : (m : ℕ) → root now m ≡ None → root before m ≡ None
    was_none m none = elim (s.kept m) [ inl p ↦ sym p ∙ none | inr p ↦ p.0 ]

    closed : (a b : ℕ) → Has {A = ℕ × ℕ} calls (a, b) → IsGrouped now b → IsGrouped now a
    closed a b call grouped =
        elim (s.callers a b call grouped) [
          | inl p ↦ elim p [ inl g ↦ g | inr h ↦ absurd h ]
          | inr p ↦ absurd p.1
        ]

    both : (m : ℕ) → Walks calls (r ∷ to_come) r m → Reaches calls m r × Reaches calls r m
    both m w =
        (reaches_end calls (r ∷ to_come) r m w, way_back calls r to_come settled once m w)

    stays_root : (m : ℕ) → IsGrouped before m → root now m ≡ root before m
    stays_root m g =
        elim (s.kept m) [
          | inl p ↦ p
          | inr p ↦ absurd (not_both before m g.0 p.0 g.1)
        ]

    new_root : (m : ℕ) → root before m ≡ None → IsGrouped now m → root now m ≡ Some r
    new_root m none g =
        elim (s.kept m) [
          | inl p ↦ absurd (not_both before m g.0 none (sym p ∙ g.1))
          | inr p ↦ p.1
        ]

    new_together : (a b : ℕ) → root before a ≡ None → root before b ≡ None → Reaches calls a b → Reaches calls b a → root now a ≡ root now b
    new_together a b none_a none_b ab ba =
        elim (root_cases now a) [
          | inl none ↦ elim (root_cases now b) [
            | inl e ↦ none ∙ sym e
            | inr g ↦
                let grouped : IsGrouped now a = reach_grouped calls now closed a b ab g in
                absurd (not_both now a grouped.0 none grouped.1)
          ]
          | inr g ↦ new_root a none_a g ∙ sym (new_root b none_b (reach_grouped calls now closed b a ba g))
        ]

-- the steps of the code
pub begin_group : (calls : List (ℕ × ℕ)) (size r : ℕ) (to_come : List ℕ) (before now : List (Option ℕ)) (waiting : List ℕ) → r < length before → is_some (root before r) ≡ false → now ≡ set before r (Some r) → waiting ≡ r ∷ [] → AreGroups calls size before (r ∷ to_come) → IsCollecting calls (r ∷ to_come) r before now waiting zero []
begin_group calls size r to_come before now waiting within none set_is waiting_is groups =
    rw (set_is, waiting_is) (collect_first calls size r to_come before within (not_grouped (root before r) none) groups)
  where
    not_grouped : (o : Option ℕ) → is_some o ≡ false → o ≡ None
    not_grouped None e = refl
    not_grouped (Some q) e = absurd (true≢false e)

pub end_group : (calls : List (ℕ × ℕ)) (size r : ℕ) (before now : List (Option ℕ)) (waiting : List ℕ) → waiting ≡ [] → ((to_come : List ℕ) → AreGroups calls size before (r ∷ to_come) → IsCollecting calls (r ∷ to_come) r before now waiting zero []) → Collects calls size r before now
end_group calls size r before now waiting none_waits s to_come settled once groups =
    collect_last calls size r to_come before now settled once groups (subst (λ (w : List ℕ). IsCollecting calls (r ∷ to_come) r before now w zero []) none_waits (s to_come groups))

-- the table of groups stays as long as it is
length_caller : (r a : ℕ) (s : Collection) → length (with_caller r a s).groups ≡ length s.groups
length_caller r a s = one (root s.groups a) refl
  where
    one : (o : Option ℕ) → root s.groups a ≡ o → length (with_caller r a s).groups ≡ length s.groups
    one None e = rw e (length-set s.groups a (Some r))
    one (Some q) e = rw e refl

length_callers : (r : ℕ) (row : List ℕ) (s : Collection) → length (with_callers r row s).groups ≡ length s.groups
length_callers r [] s = refl
length_callers r (a ∷ row) s =
    length_callers r row (with_caller r a s) ∙ length_caller r a s

pub collect_wide : (r : ℕ) (row : List ℕ) (now after : List (Option ℕ)) (rest waiting_after : List ℕ) → with_callers r row (record { groups = now; waiting = rest }) ≡ (record { groups = after; waiting = waiting_after }) → length after ≡ length now
collect_wide r row now after rest waiting_after made =
    subst (λ (c : Collection). length c.groups ≡ length now) made (length_callers r row (record { groups = now; waiting = rest }))

-- ---- how many steps are left

-- how many have no group
abbrev pub ungrouped : List (Option ℕ) → ℕ
ungrouped [] = 0
ungrouped (o ∷ groups) = cond (is_none o) 1 0 + ungrouped groups

set_ungrouped : (groups : List (Option ℕ)) (a r : ℕ) → a < length groups → root groups a ≡ None → suc (ungrouped (set groups a (Some r))) ≡ ungrouped groups
set_ungrouped [] a r within none = absurd (omega arith)
set_ungrouped (o ∷ groups) zero r within none = rw none (omega arith)
set_ungrouped (o ∷ groups) (suc a) r within none =
    let later = set_ungrouped groups a r (omega arith) none in omega arith

callers_left : (r : ℕ) (row : List ℕ) (s : Collection) → ((a : ℕ) → Has row a → a < length s.groups) → ungrouped (with_callers r row s).groups + length (with_callers r row s).waiting ≡ ungrouped s.groups + length s.waiting
callers_left r [] s below = refl
callers_left r (a ∷ row) s below =
    callers_left r row (with_caller r a s) (λ x h. subst (λ (n : ℕ). x < n) (sym (length_caller r a s)) (below x (inr h))) ∙ one (root s.groups a) refl
  where
    one : (o : Option ℕ) → root s.groups a ≡ o → ungrouped (with_caller r a s).groups + length (with_caller r a s).waiting ≡ ungrouped s.groups + length s.waiting
    one None e =
        let fewer = set_ungrouped s.groups a r (below a (inl refl)) e in
        rw e (omega arith)
    one (Some q) e = rw e refl

-- with the first of those that wait taken, fewer are left
pub fewer_left : (calls : List (ℕ × ℕ)) (r : ℕ) (now after : List (Option ℕ)) (waiting rest waiting_after : List ℕ) (callee : ℕ) → waiting ≡ callee ∷ rest → with_callers r (callers calls callee) (record { groups = now; waiting = rest }) ≡ (record { groups = after; waiting = waiting_after }) → ends_below (length now) calls ≡ true → ungrouped after + length waiting_after < ungrouped now + length waiting
fewer_left calls r now after waiting rest waiting_after callee first made ends =
    let kept = subst (λ (c : Collection). ungrouped c.groups + length c.waiting ≡ ungrouped now + length rest) made (callers_left r (callers calls callee) (record { groups = now; waiting = rest }) (λ a h. (has_below (length now) calls (a, callee) ends (callers_has calls a callee h)).0)) in
    let e : length waiting ≡ suc (length rest) = ap length first in
    omega arith
