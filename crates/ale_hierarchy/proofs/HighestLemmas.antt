-- The type among some that is above all of them.
use Rattle.std.proofs.Common.{◌≡◌, sym, ap, ◌∙◌, subst, ℕ, true, false, Some, None, List, ◌∷◌, inl, inr, ◌⊎◌, cond}
use Rattle.std.proofs.lemmas.Bool.{cases_Bool, both_ways, false_from_ne_true}
use Rattle.ale_relation.specs.Has.{Has}
use Rattle.ale_declared.specs.Lists.{first, every}
use Rattle.ale_declared.specs.Declarations.{Declared}
use Rattle.ale_hierarchy.specs.Order.{is_above}
use Rattle.ale_hierarchy.specs.Stages.{IsOrdered, IsTop}
use Rattle.ale_declared.proofs.ListLemmas.{every_at, first_has, first_there, first_none_from}
use Rattle.ale_hierarchy.proofs.OrderLemmas.{is_above_to, IsAbove-antisym}

-- a type that is above one of the types, which a top is above
pub IsTop_higher : (d : Declared) (xs rest : List ℕ) (t best : ℕ) → IsOrdered d → Has xs t → Has xs best → ((u : ℕ) → IsTop d xs u → (u ≡ best) ⊎ Has (t ∷ rest) u) → (u : ℕ) → IsTop d xs u → (u ≡ cond (is_above d t best) t best) ⊎ Has rest u
IsTop_higher d xs rest t best o at_t at_best so_far u top =
    elim (so_far u top) [
      | inl same ↦
          elim (cases_Bool (is_above d t best)) [
            | inl e ↦
                let back : is_above d u t ≡ true = every_at (λ v. is_above d u v) xs t top.above at_t in
                let up : is_above d t u ≡ true = subst (λ z. is_above d t z ≡ true) (sym same) e in
                rw e (inl (IsAbove-antisym d u t o.no_cycle (is_above_to d u t back) (is_above_to d t u up)))
            | inr e ↦ rw e (inl same)
          ]
      | inr there ↦
          elim there [
            | inl same ↦
                let up : is_above d u best ≡ true = every_at (λ v. is_above d u v) xs best top.above at_best in
                let here_up : is_above d t best ≡ true = subst (λ z. is_above d z best ≡ true) same up in
                rw here_up (inl same)
            | inr later ↦ inr later
          ]
    ]

-- where the candidate is above all, it is the first that is
pub first_top : (d : Declared) (xs : List ℕ) (t : ℕ) → Has xs t → ((u : ℕ) → IsTop d xs u → u ≡ t) → every (λ u. is_above d t u) xs ≡ true → first (λ t. every (λ u. is_above d t u) xs) xs ≡ Some t
first_top d xs t at top e =
    let found = first_there (λ t. every (λ u. is_above d t u) xs) xs t at e in
    let one = first_has (λ t. every (λ u. is_above d t u) xs) xs found.0 found.1 in
    found.1 ∙ ap Some (top found.0 (record { among = one.0; above = one.1 }))

-- where it isn't, none is
pub first_top_none : (d : Declared) (xs : List ℕ) (t : ℕ) → ((u : ℕ) → IsTop d xs u → u ≡ t) → every (λ u. is_above d t u) xs ≡ false → first (λ t. every (λ u. is_above d t u) xs) xs ≡ None
first_top_none d xs t top e =
    first_none_from (λ t. every (λ u. is_above d t u) xs) xs (λ x k. false_from_ne_true (every (λ u. is_above d x u) xs) (λ h.
    let same : x ≡ t = top x (record { among = k; above = h }) in
    both_ways (every (λ u. is_above d t u) xs) e (subst (λ z. every (λ u. is_above d z u) xs ≡ true) same h)))
