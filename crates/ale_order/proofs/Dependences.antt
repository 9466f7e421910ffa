-- From the order in which a search left the numbers, and from their groups, to the order of dependence.
use Rattle.std.proofs.Common.{◌≡◌, ℕ, ◌<◌, ◌⊎◌, ◌↔◌, true, List, [], ◌∷◌, ◌++◌, Option, Some, None, length, refl, sym, ◌∙◌, subst, inl, inr}
use Rattle.std.specs.Prelude.{reverse}
use Rattle.std.proofs.lemmas.Option.{none-some}
use Rattle.ale_relation.specs.Has.{Has}
use Rattle.ale_relation.specs.Paths.{Reaches, here, along, ends_below}
use Rattle.ale_relation.proofs.Paths.{reaches_trans, has_below}
use Rattle.ale_order.specs.Calls.{called}
use Rattle.ale_order.specs.Orders.{IsCyclic, IsFirstCyclic, Distinct, CallsKnown, IsOrder}
use Rattle.ale_order.specs.Searches.{IsSettled}
use Rattle.ale_order.specs.Groups.{root, IsGrouped, AreGroups, Collects, HasInGroup, CallsOwn}
use Rattle.ale_order.proofs.Members.{has_called, called_has, reverse_cons, has_reverse, reverse_has, distinct_reverse}

-- ---- from group to group

-- the numbers whose groups are still to be collected, and the groups of the others
pub record IsToCome (calls : List (ℕ × ℕ)) (size : ℕ) (groups : List (Option ℕ)) (to_come : List ℕ) : Type 0 where
  pub are : AreGroups calls size groups to_come
  pub settled : IsSettled calls to_come
  pub once : Distinct to_come
  pub below : (m : ℕ) → Has to_come m → m < size

pub none_grouped : (calls : List (ℕ × ℕ)) (size : ℕ) (groups : List (Option ℕ)) (left : List ℕ) → length groups ≡ size → ((m : ℕ) → root groups m ≡ None) → IsSettled calls left → Distinct left → ((m : ℕ) → Has left m ↔ (m < size)) → IsToCome calls size groups left
none_grouped calls size groups left wide none settled once each = record {
  are = record {
    wide = wide;
    others = λ m below e. (each m).1 below;
    callers = λ a b call g. absurd (ungrouped b g);
    with_root = λ m r e. absurd (ungrouped m (r, e));
    together = λ a b ab ba. none a ∙ sym (none b);
  };
  settled = settled;
  once = once;
  below = λ m h. (each m).0 h;
}
  where
    ungrouped : (m : ℕ) → IsGrouped groups m → ⊥
    ungrouped m g = none-some g.0 (sym (none m) ∙ g.1)

pub root_below : (calls : List (ℕ × ℕ)) (size : ℕ) (groups : List (Option ℕ)) (r : ℕ) (list rest : List ℕ) → list ≡ r ∷ rest → IsToCome calls size groups list → r < length groups
root_below calls size groups r list rest first s =
    subst (λ (n : ℕ). r < n) (sym s.are.wide) (s.below r (subst (λ (xs : List ℕ). Has xs r) (sym first) (inl refl)))

pub next_group : (calls : List (ℕ × ℕ)) (size : ℕ) (before now : List (Option ℕ)) (r : ℕ) (list rest : List ℕ) → list ≡ r ∷ rest → Collects calls (length before) r before now → IsToCome calls size before list → IsToCome calls size now rest
next_group calls size before now r list rest first collected s =
    let at : IsToCome calls size before (r ∷ rest) = subst (λ (xs : List ℕ). IsToCome calls size before xs) first s in
    let collects : Collects calls size r before now = subst (λ (n : ℕ). Collects calls n r before now) s.are.wide collected in
    record {
      are = collects rest at.settled at.once at.are;
      settled = at.settled.1;
      once = at.once.1;
      below = λ m h. at.below m (inr h);
    }

-- ---- cycles

in_group : (groups : List (Option ℕ)) (group : Option ℕ) (row : List ℕ) → HasInGroup groups group row → (k : ℕ) × Has row k × (root groups k ≡ group)
in_group groups group [] h = absurd h
in_group groups group (k ∷ row) (inl e) = (k, inl refl, e)
in_group groups group (k ∷ row) (inr h) =
    let later = in_group groups group row h in (later.0, inr later.1, later.2)

has_in_group : (groups : List (Option ℕ)) (group : Option ℕ) (row : List ℕ) (k : ℕ) → Has row k → root groups k ≡ group → HasInGroup groups group row
has_in_group groups group [] k h e = absurd h
has_in_group groups group (x ∷ row) k (inl same) e =
    inl (subst (λ (t : ℕ). root groups t ≡ group) same e)
has_in_group groups group (x ∷ row) k (inr h) e = inr (has_in_group groups group row k h e)

-- what calls one of its own group leads back to itself
own_cyclic : (calls : List (ℕ × ℕ)) (size : ℕ) (groups : List (Option ℕ)) → AreGroups calls size groups [] → ends_below size calls ≡ true → (m : ℕ) → CallsOwn calls groups m → IsCyclic calls m
own_cyclic calls size groups are ends m own =
    let found = in_group groups (root groups m) (called calls m) own in
    let call : Has {A = ℕ × ℕ} calls (m, found.0) = called_has calls m found.0 found.1 in
    go found.0 call found.2 (root groups m) refl
  where
    go : (k : ℕ) → Has {A = ℕ × ℕ} calls (m, k) → root groups k ≡ root groups m → (o : Option ℕ) → root groups m ≡ o → IsCyclic calls m
    go k call same None e = absurd (are.others m (has_below size calls (m, k) ends call).0 e)
    go k call same (Some r) e =
        (k, call, reaches_trans calls k r m (are.with_root k r (same ∙ e)).0 (are.with_root m r e).1)

cyclic_own : (calls : List (ℕ × ℕ)) (size : ℕ) (groups : List (Option ℕ)) → AreGroups calls size groups [] → (m : ℕ) → IsCyclic calls m → CallsOwn calls groups m
cyclic_own calls size groups are m cycle =
    has_in_group groups (root groups m) (called calls m) cycle.0 (has_called calls m cycle.0 cycle.1) (are.together cycle.0 m cycle.2 (along m cycle.0 cycle.0 cycle.1 (here cycle.0)))

first_cyclic : (calls : List (ℕ × ℕ)) (size : ℕ) (groups : List (Option ℕ)) (m : ℕ) → AreGroups calls size groups [] → ends_below size calls ≡ true → CallsOwn calls groups m → ((k : ℕ) → k < m → CallsOwn calls groups k → ⊥) → IsFirstCyclic calls m
first_cyclic calls size groups m are ends own first = record {
  cyclic = own_cyclic calls size groups are ends m own;
  before = λ k less cycle. first k less (cyclic_own calls size groups are k cycle);
}

none_cyclic : (calls : List (ℕ × ℕ)) (size : ℕ) (groups : List (Option ℕ)) → AreGroups calls size groups [] → ends_below size calls ≡ true → ((k : ℕ) → k < size → CallsOwn calls groups k → ⊥) → (m : ℕ) → IsCyclic calls m → ⊥
none_cyclic calls size groups are ends none m cycle =
    none m (has_below size calls (m, cycle.0) ends cycle.1).0 (cyclic_own calls size groups are m cycle)

-- ---- the order

known_push : (calls : List (ℕ × ℕ)) (known xs : List ℕ) (m : ℕ) → CallsKnown calls known xs → ((k : ℕ) → Has {A = ℕ × ℕ} calls (m, k) → Has xs k ⊎ Has known k) → CallsKnown calls known (xs ++ m ∷ [])
known_push calls known [] m before calls_of_m =
    (λ k call. elim (calls_of_m k call) [ inl h ↦ absurd h | inr h ↦ h ], tt)
known_push calls known (x ∷ xs) m before calls_of_m = (
  before.0,
  known_push calls (x ∷ known) xs m before.1 (λ k call. elim (calls_of_m k call) [
    | inl h ↦ elim h [ inl e ↦ inr (inl e) | inr g ↦ inl g ]
    | inr h ↦ inr (inr h)
  ]),
)

-- where none leads back to itself, each was left after those that it calls
known_left : (calls : List (ℕ × ℕ)) (left : List ℕ) → ((m : ℕ) → IsCyclic calls m → ⊥) → IsSettled calls left → CallsKnown calls [] (reverse left)
known_left calls [] none settled = tt
known_left calls (m ∷ left) none settled =
    subst (λ (xs : List ℕ). CallsKnown calls [] xs) (sym (reverse_cons m left)) (known_push calls [] (reverse left) m (known_left calls left none settled.1) later)
  where
    later : (k : ℕ) → Has {A = ℕ × ℕ} calls (m, k) → Has (reverse left) k ⊎ Has {A = ℕ} [] k
    later k call =
        elim (settled.0 m k (inl refl) call) [
          | inl h ↦ elim h [
            | inl e ↦ absurd (none m (k, call, subst (λ (t : ℕ). Reaches calls k t) e (here k)))
            | inr g ↦ inl (has_reverse left k g)
          ]
          | inr p ↦ absurd (none m (k, call, p))
        ]

is_order : (calls : List (ℕ × ℕ)) (size : ℕ) (left : List ℕ) → IsSettled calls left → Distinct left → ((m : ℕ) → Has left m ↔ (m < size)) → ((m : ℕ) → IsCyclic calls m → ⊥) → IsOrder calls size (reverse left)
is_order calls size left settled once each none = record {
  once = distinct_reverse left once;
  each = λ m. (λ h. (each m).0 (reverse_has left m h), λ below. has_reverse left m ((each m).1 below));
  after = known_left calls left none settled;
}

-- ---- the answer

pub answers_cyclic : (calls graph : List (ℕ × ℕ)) (size : ℕ) (groups : List (Option ℕ)) (m : ℕ) → graph ≡ calls → AreGroups graph size groups [] → ends_below size calls ≡ true → (m < size) × CallsOwn graph groups m × ((k : ℕ) → k < m → CallsOwn graph groups k → ⊥) → IsFirstCyclic calls m
answers_cyclic calls graph size groups m e are ends found =
    subst (λ (g : List (ℕ × ℕ)). IsFirstCyclic g m) e (first_cyclic graph size groups m are (subst (λ (g : List (ℕ × ℕ)). ends_below size g ≡ true) (sym e) ends) found.1 found.2)

pub answers_order : (calls graph : List (ℕ × ℕ)) (size : ℕ) (groups : List (Option ℕ)) (left order : List ℕ) → graph ≡ calls → order ≡ reverse left → IsSettled graph left → Distinct left → ((m : ℕ) → Has left m ↔ (m < size)) → AreGroups graph size groups [] → ends_below size calls ≡ true → ((k : ℕ) → k < size → CallsOwn graph groups k → ⊥) → IsOrder calls size order × ((m : ℕ) → IsCyclic calls m → ⊥)
answers_order calls graph size groups left order e turned settled once each are ends none =
    let acyclic : (m : ℕ) → IsCyclic graph m → ⊥ = none_cyclic graph size groups are (subst (λ (g : List (ℕ × ℕ)). ends_below size g ≡ true) (sym e) ends) none in
    let ordered : IsOrder graph size order = subst (λ (xs : List ℕ). IsOrder graph size xs) (sym turned) (is_order graph size left settled once each acyclic) in
    subst (λ (g : List (ℕ × ℕ)). IsOrder g size order × ((m : ℕ) → IsCyclic g m → ⊥)) e (ordered, acyclic)
