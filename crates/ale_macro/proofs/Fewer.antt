-- Distinct numbers that all stand in a list are no more than it has.
use Rattle.std.proofs.Common.{◌≡◌, ℕ, suc, ◌≤◌, List, [], ◌∷◌, length, refl, sym, ap, ◌∙◌, subst, inl, inr, arith}
use Rattle.ale_relation.specs.Has.{Has}
use Rattle.ale_declared.specs.Lists.{upto}
use Rattle.ale_declared.proofs.ListLemmas.{upto_has, length-upto}
use Rattle.ale_order.specs.Orders.{Distinct, IsOrder}

-- the list without the entry
abbrev without : (x : ℕ) (ys : List ℕ) → Has ys x → List ℕ
without x [] h = []
without x (y ∷ ys) (inl e) = ys
without x (y ∷ ys) (inr h) = y ∷ without x ys h

length_without : (x : ℕ) (ys : List ℕ) (h : Has ys x) → length ys ≡ suc (length (without x ys h))
length_without x [] h = absurd h
length_without x (y ∷ ys) (inl e) = refl
length_without x (y ∷ ys) (inr h) = ap suc (length_without x ys h)

has_without : (x : ℕ) (ys : List ℕ) (h : Has ys x) (m : ℕ) → Has ys m → (m ≡ x → ⊥) → Has (without x ys h) m
has_without x [] h m there other = absurd there
has_without x (y ∷ ys) (inl e) m (inl same) other = absurd (other (same ∙ sym e))
has_without x (y ∷ ys) (inl e) m (inr there) other = there
has_without x (y ∷ ys) (inr h) m (inl same) other = inl same
has_without x (y ∷ ys) (inr h) m (inr there) other = inr (has_without x ys h m there other)

pub no_more : (xs ys : List ℕ) → Distinct xs → ((m : ℕ) → Has xs m → Has ys m) → length xs ≤ length ys
no_more [] ys distinct within = omega arith
no_more (x ∷ xs) ys distinct within =
    let here : Has ys x = within x (inl refl) in
    let others : (m : ℕ) → Has xs m → Has (without x ys here) m =
    λ m h. has_without x ys here m (within m (inr h)) (λ e. distinct.0 (subst (Has xs) e h)) in
    let fewer : length xs ≤ length (without x ys here) = no_more xs (without x ys here) distinct.1 others in
    let long : length ys ≡ suc (length (without x ys here)) = length_without x ys here in
    omega arith

pub order_no_more : (calls : List (ℕ × ℕ)) (size : ℕ) (order : List ℕ) → IsOrder calls size order → length order ≤ size
order_no_more calls size order is =
    let few : length order ≤ length (upto size) = no_more order (upto size) is.once (λ m h. upto_has size m ((is.each m).0 h)) in
    let long : length (upto size) ≡ size = length-upto size in
    omega arith
