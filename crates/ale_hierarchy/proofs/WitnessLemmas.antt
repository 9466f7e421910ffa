-- What the searches for the first types that show a fault rest on.
use Rattle.std.proofs.Common.{◌≡◌, sym, ◌∙◌, refl, ℕ, ◌<◌, Bool, true, false, Option, Some, None, [], ◌∷◌, length, inl, inr}
use Rattle.std.specs.Prelude.{◌&&◌, ◌||◌, is_some}
use Rattle.std.specs.List.{filter}
use Rattle.std.proofs.lemmas.Bool.{or_cases}
use Rattle.ale_declared.specs.Lists.{upto}
use Rattle.ale_declared.specs.Declarations.{Declared}
use Rattle.ale_declared.proofs.ListLemmas.{upto_below, filter_has}
use Rattle.ale_hierarchy.specs.Order.{is_above, is_common, all_types, join}
use Rattle.ale_hierarchy.specs.Stages.{IsOrdered, are_below}
use Rattle.ale_hierarchy.specs.Faults.{when, first_answer, some, lacks_join, no_join, join_fault}
use Rattle.ale_hierarchy.proofs.LoopLemmas.{are_below-from}
use Rattle.ale_hierarchy.proofs.OrderLemmas.{is_above_to}
use Rattle.ale_hierarchy.proofs.JoinLemmas.{join-above, join-comm}
use Rattle.ale_hierarchy.proofs.AnswerLemmas.{answer_some, answer_none}

-- ---- the first answer, while it is looked for

pub found_first : {B : Type 0} (f : ℕ → Option B) (n k : ℕ) (o : Option B) → o ≡ f k → is_some o ≡ true → k < n → ((i : ℕ) → i < k → f i ≡ None) → o ≡ first_answer f (upto n)
found_first f n k None is some low none = absurd cc
found_first f n k (Some y) is some low none = sym (answer_some f n k y low (sym is) none)

pub not_found : {B : Type 0} (o p : Option B) → o ≡ p → is_some o ≡ false → p ≡ None
not_found None p is none = sym is
not_found (Some y) p is none = absurd cc

pub found_nowhere : {B : Type 0} (f : ℕ → Option B) (n : ℕ) → ((i : ℕ) → i < n → f i ≡ None) → None ≡ first_answer f (upto n)
found_nowhere f n none = sym (answer_none f n none)

pub join_fault_is : (d : Declared) → join_fault d ≡ first_answer (λ a. first_answer (λ b. when (lacks_join d a b) (no_join d a b)) (all_types d)) (all_types d)
unfolding join_fault
join_fault_is d = refl

-- ---- filters

-- numbers out of those below n are below n
pub filtered-below : (q : ℕ → Bool) (n : ℕ) → are_below n (filter q (upto n)) ≡ true
filtered-below q n = are_below-from n (filter q (upto n)) (λ x h. upto_below n x (filter_has q (upto n) x h).0)

-- ---- joins

lacks_none : (d : Declared) (a b j : ℕ) → join d a b ≡ Some j → lacks_join d a b ≡ false
lacks_none d a b j is = rw is (and_false (some (is_common d (a ∷ b ∷ [])) (all_types d)))
  where
    and_false : (t : Bool) → (t && false) ≡ false
    and_false true = refl
    and_false false = refl

-- two types of which one is above the other have a join
pub comparable_join : (d : Declared) (a b : ℕ) → IsOrdered d → a < length d.types → b < length d.types → (is_above d a b || is_above d b a) ≡ true → lacks_join d a b ≡ false
comparable_join d a b o p q h =
    elim (or_cases (is_above d a b) (is_above d b a) h) [
      | inl e ↦ lacks_none d a b b (join-above d a b o.numbered o.no_cycle q (is_above_to d a b e))
      | inr e ↦ lacks_none d a b a (join-comm d a b o.numbered o.no_cycle ∙ join-above d b a o.numbered o.no_cycle p (is_above_to d b a e))
    ]
