-- The state of a search in depth along calls: which numbers it has left, the latest first, and its path, the last
-- number first, with each how many of its calls were looked at.
-- Source: depth-first search and the order in which it leaves (Aho, Hopcroft, Ullman 1983); the words are this
-- project's own.
use Rattle.std.specs.Prelude.{◌≡◌, ℕ, ◌⊎◌, ◌↔◌, Bool, true, false, List, [], ◌∷◌, get_or, drop, length, suc, ◌+◌, if◌then◌else◌}
use Rattle.ale_relation.specs.Has.{Has}
use Rattle.ale_relation.specs.Paths.{Reaches}
use Rattle.ale_order.specs.Calls.{called}
use Rattle.ale_order.specs.Orders.{Distinct}

-- the number is on the path
abbrev pub OnPath : List (ℕ × ℕ) → ℕ → Type 0
OnPath [] v = ⊥
OnPath (f ∷ path) v = (v ≡ f.0) ⊎ OnPath path v

-- the search has left the number, or has it on its path
abbrev pub IsMet : List ℕ → List (ℕ × ℕ) → ℕ → Type 0
IsMet left path v = Has left v ⊎ OnPath path v

-- the last on the path, if there is one, calls the number
abbrev pub LastCalls : List (ℕ × ℕ) → List (ℕ × ℕ) → ℕ → Type 0
LastCalls calls [] k = Unit {0}
LastCalls calls (f ∷ path) k = Has calls (f.0, k)

-- each on the path but the first was called by the one before it
abbrev pub IsLinked : List (ℕ × ℕ) → List (ℕ × ℕ) → Type 0
IsLinked calls [] = Unit {0}
IsLinked calls (f ∷ path) = LastCalls calls path f.0 × IsLinked calls path

-- whatever one on the path calls is met, or still to be looked at
abbrev pub MetOrDue : List (ℕ × ℕ) → (ℕ → Type 0) → List (ℕ × ℕ) → Type 0
MetOrDue calls met [] = Unit {0}
MetOrDue calls met (f ∷ path) =
    ((v : ℕ) → Has calls (f.0, v) → Has (drop f.1 (called calls f.0)) v ⊎ met v) × MetOrDue calls met path

-- for each number left: whatever was called by it or by those left before it was left by then, or leads to it
abbrev pub IsSettled : List (ℕ × ℕ) → List ℕ → Type 0
IsSettled calls [] = Unit {0}
IsSettled calls (m ∷ left) =
    ((u v : ℕ) → Has (m ∷ left) u → Has calls (u, v) → Has (m ∷ left) v ⊎ Reaches calls v m) × IsSettled calls left

-- no number was left twice, and none on the path was met before it came there
abbrev pub MeetsOnce : List ℕ → List (ℕ × ℕ) → Type 0
MeetsOnce left [] = Distinct left
MeetsOnce left (f ∷ path) = (IsMet left path f.0 → ⊥) × MeetsOnce left path

-- the search is in order
pub record IsSearch (calls : List (ℕ × ℕ)) (seen : List Bool) (left : List ℕ) (path : List (ℕ × ℕ)) : Type 0 where
  pub sees : (v : ℕ) → (get_or seen v false ≡ true) ↔ IsMet left path v
  pub closed : (u v : ℕ) → Has left u → Has calls (u, v) → IsMet left path v
  pub linked : IsLinked calls path
  pub due : MetOrDue calls (IsMet left path) path
  pub settled : IsSettled calls left
  pub once : MeetsOnce left path

-- what is to be done for those on the path: a step for each call that was not looked at, and one to leave
abbrev pub due_on_path : List (ℕ × ℕ) → List (ℕ × ℕ) → ℕ
due_on_path calls [] = 0
due_on_path calls (f ∷ path) = suc (length (drop f.1 (called calls f.0))) + due_on_path calls path

-- the same for those that are not seen, of which the first in the table is `n`, and a step to enter each
abbrev pub due_unseen : List (ℕ × ℕ) → ℕ → List Bool → ℕ
due_unseen calls n [] = 0
due_unseen calls n (is_seen ∷ seen) =
    (if is_seen then 0 else suc (suc (length (called calls n)))) + due_unseen calls (suc n) seen

-- how many steps the search can take
abbrev pub due : List (ℕ × ℕ) → List Bool → List (ℕ × ℕ) → ℕ
due calls seen path = due_unseen calls 0 seen + due_on_path calls path
