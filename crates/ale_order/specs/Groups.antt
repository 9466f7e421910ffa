-- Groups of numbers that lead to one another, each named by one of them, its root; and how a group is collected.
-- Source: strongly connected components by the algorithm of Kosaraju (Sharir 1981; Aho, Hopcroft, Ullman 1983); the
-- words are this project's own.
use Rattle.std.specs.Prelude.{◌≡◌, ℕ, ◌<◌, ◌⊎◌, List, [], ◌∷◌, get_or, length, set, Option, Some, None, is_none, if◌then◌else◌}
use Rattle.ale_relation.specs.Has.{Has}
use Rattle.ale_relation.specs.Paths.{Reaches}
use Rattle.ale_order.specs.Calls.{called}
use Rattle.ale_order.specs.Orders.{Distinct}
use Rattle.ale_order.specs.Searches.{IsSettled}

-- the root of the number's group, if it has a group yet
abbrev pub root : List (Option ℕ) → ℕ → Option ℕ
root groups m = get_or groups m None

abbrev pub IsGrouped : List (Option ℕ) → ℕ → Type 0
IsGrouped groups m = (r : ℕ) × (root groups m ≡ Some r)

-- a path to `end` by numbers of the list
pub data Walks (calls : List (ℕ × ℕ)) (among : List ℕ) (end : ℕ) : ℕ → Type 0 where
  stays : Walks calls among end end
  walks : (a b : ℕ) → Has calls (a, b) → Has among a → Walks calls among end b → Walks calls among end a

-- between two roots: what has no group is to come; a group holds the callers of each of its numbers, which lead to its
-- root and back; those that lead to one another are together
pub record AreGroups (calls : List (ℕ × ℕ)) (size : ℕ) (groups : List (Option ℕ)) (to_come : List ℕ) : Type 0 where
  pub wide : length groups ≡ size
  pub others : (m : ℕ) → m < size → root groups m ≡ None → Has to_come m
  pub callers : (a b : ℕ) → Has calls (a, b) → IsGrouped groups b → IsGrouped groups a
  pub with_root : (m r : ℕ) → root groups m ≡ Some r → Reaches calls m r × Reaches calls r m
  pub together : (a b : ℕ) → Reaches calls a b → Reaches calls b a → root groups a ≡ root groups b

-- the group of `r` is collected, whatever is to come after it in the order of a search
abbrev pub Collects : List (ℕ × ℕ) → ℕ → ℕ → List (Option ℕ) → List (Option ℕ) → Type 0
Collects calls size r before now =
    (to_come : List ℕ) → IsSettled calls (r ∷ to_come) → Distinct (r ∷ to_come) → AreGroups calls size before (r ∷ to_come) → AreGroups calls size now to_come

-- while the group of `r` is collected: of those that call `callee` the ones in `row` are still to be looked at
pub record IsCollecting (calls : List (ℕ × ℕ)) (among : List ℕ) (r : ℕ) (before now : List (Option ℕ)) (waiting : List ℕ) (callee : ℕ) (row : List ℕ) : Type 0 where
  pub wide : length now ≡ length before
  pub start : root now r ≡ Some r
  pub kept : (m : ℕ) → (root now m ≡ root before m) ⊎ ((root before m ≡ None) × (root now m ≡ Some r))
  pub walk : (m : ℕ) → root before m ≡ None → root now m ≡ Some r → Walks calls among r m
  pub waits : (m : ℕ) → Has waiting m → Walks calls among r m
  pub callers : (a b : ℕ) → Has calls (a, b) → IsGrouped now b → (IsGrouped now a ⊎ Has waiting b) ⊎ ((b ≡ callee) × Has row a)

-- the groups, and the numbers whose callers are still to be collected
pub record Collection : Type 0 where
  pub groups : List (Option ℕ)
  pub waiting : List ℕ

-- the number put into the group of `r`, and before those that wait, if it has no group
abbrev pub with_caller : ℕ → ℕ → Collection → Collection
with_caller r a s =
    if is_none (root s.groups a) then record { groups = set s.groups a (Some r); waiting = a ∷ s.waiting } else s

abbrev pub with_callers : ℕ → List ℕ → Collection → Collection
with_callers r [] s = s
with_callers r (a ∷ row) s = with_callers r row (with_caller r a s)

-- one of the row is in the group
abbrev pub HasInGroup : List (Option ℕ) → Option ℕ → List ℕ → Type 0
HasInGroup groups group [] = ⊥
HasInGroup groups group (k ∷ row) = (root groups k ≡ group) ⊎ HasInGroup groups group row

-- the number calls one of its own group
abbrev pub CallsOwn : List (ℕ × ℕ) → List (Option ℕ) → ℕ → Type 0
CallsOwn calls groups m = HasInGroup groups (root groups m) (called calls m)
