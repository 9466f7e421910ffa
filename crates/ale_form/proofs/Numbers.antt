-- What is held of a number, digit by digit.
use Rattle.std.proofs.Common.{◌≡◌, ℕ, zero, suc, true, leb, refl, ◌+◌, ◌*◌, ◌-◌, ◌<◌, ◌≤◌, min, ◌⊎◌, inl, inr, List, [], ◌∷◌, length, sym, ap, ◌∙◌, arith, mul_comm}
use Rattle.std.proofs.lemmas.Str.{chars-nil}
use Rattle.std.specs.Str.{chars}
use Rattle.std.proofs.Math.Nat.{min-eq_left, min-eq_right}
use Rattle.std.proofs.lemmas.Bool.{and_parts, leb-true}
use Rattle.ale_token.specs.Pieces.{is_digit}
use Rattle.ale_form.specs.Numbers.{number_behind, number_of, greatest, held, held_behind, are_digits}

abbrev pub next : ℕ → ℕ → ℕ
next n c = 10 * n + (c - 48)

at_most : (n m : ℕ) → (n ≤ m) ⊎ (m ≤ n)
at_most n m = go (grind arith)
  where
    go : (n < m) ⊎ ((m < n) ⊎ (n ≡ m)) → (n ≤ m) ⊎ (m ≤ n)
    go (inl h) = inl (omega (arith, h))
    go (inr (inl h)) = inr (omega (arith, h))
    go (inr (inr h)) = inl (omega (arith, h))

pub number_from : (n : ℕ) (cs : List ℕ) → n ≤ number_behind n cs
number_from n [] = omega arith
number_from n (c ∷ cs) = omega (arith, number_from (next n c) cs)

-- it makes no difference that the digits before were held
pub held_from : (n : ℕ) (cs : List ℕ) → held_behind (min n greatest) cs ≡ held_behind n cs
held_from n cs = go (at_most n greatest)
  where
    go : (n ≤ greatest) ⊎ (greatest ≤ n) → held_behind (min n greatest) cs ≡ held_behind n cs
    go (inl h) = ap (λ m. held_behind m cs) (min-eq_left h)
    go (inr h) =
        ap (λ m. held_behind m cs) (min-eq_right h)
        ∙ min-eq_right (number_from greatest cs)
        ∙ sym (min-eq_right (omega (arith, h, number_from n cs)))

pub held_sum : (a b m : ℕ) → min (min a m + b) m ≡ min (a + b) m
held_sum a b m = go (at_most a m)
  where
    go : (a ≤ m) ⊎ (m ≤ a) → min (min a m + b) m ≡ min (a + b) m
    go (inl h) = ap (λ k. min (k + b) m) (min-eq_left h)
    go (inr h) =
        let e : min (m + b) m ≡ m = min-eq_right (omega arith) in
        let f : min (a + b) m ≡ m = min-eq_right (omega (arith, h)) in
        ap (λ k. min (k + b) m) (min-eq_right h) ∙ e ∙ sym f

pub held_step : (n c : ℕ) (cs : List ℕ) (next_is : ℕ) → next_is ≡ min (next n c) greatest → held_behind next_is cs ≡ held_behind n (c ∷ cs)
held_step n c cs next_is e = ap (λ m. held_behind m cs) e ∙ held_from (next n c) cs

pub digit_held : (n c : ℕ) → min (min (n * 10) 4294967295 + (c - 48)) 4294967295 ≡ min (next n c) greatest
unfolding greatest
digit_held n c =
    held_sum (n * 10) (c - 48) 4294967295 ∙ ap (λ m. min (m + (c - 48)) 4294967295) (mul_comm n 10)

-- what a counter of 32 bits has is held as it is
pub held_start : (n : ℕ) → n < 4294967296 → n ≡ held_behind n []
unfolding greatest
held_start n h = sym (min-eq_left (omega (arith, h)))

pub no_chars : (bs : List ℕ) → length bs ≡ 0 → chars bs ≡ []
no_chars [] e = chars-nil
no_chars (b ∷ bs) e = absurd (omega (arith, e))

-- the greatest number that so many further digits make of one
most : ℕ → ℕ → ℕ
most zero n = n
most (suc k) n = most k (10 * n + 9)

digit_small : (c : ℕ) → is_digit c ≡ true → c ≤ 57
digit_small c e = let p = and_parts (leb 48 c) (leb c 57) e in leb-true c 57 (p.1)

within : (k b n : ℕ) (cs : List ℕ) → n ≤ b → length cs ≤ k → are_digits cs ≡ true → number_behind n cs ≤ most k b
unfolding most
within zero b n [] h l d = h
within zero b n (c ∷ cs) h l d = absurd (omega (arith, l))
within (suc k) b n [] h l d = within k (10 * b + 9) n [] (omega (arith, h)) (omega arith) refl
within (suc k) b n (c ∷ cs) h l d =
    let parts = and_parts (is_digit c) (are_digits cs) d in
    within k (10 * b + 9) (next n c) cs (omega (arith, h, digit_small c (parts.0))) (omega (arith, l)) (parts.1)

nine_most : most 9 0 ≡ 999999999
unfolding most
nine_most = refl

pub nine_held : (cs : List ℕ) → are_digits cs ≡ true → length cs ≤ 9 → held cs ≡ number_of cs
unfolding greatest
nine_held cs d l = min-eq_left (omega (arith, nine_most, within 9 0 0 cs (omega arith) l d))
