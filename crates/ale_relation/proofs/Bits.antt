-- The bits of a relation's rows, before and after a change of its words.
use Rattle.std.proofs.Common.{◌≡◌, ℕ, ◌+◌, ◌*◌, ◌/◌, ◌%◌, ◌^◌, ◌<◌, ◌≤◌, ◌≢◌, ◌⊎◌, Bool, true, false, ◌||◌, ◌&&◌, List, length, get_or, set, replicate, eqb, max, min, refl, sym, ap, inl, inr, arith, ◌∙◌, bit_and, bit_or, w64}
use Rattle.std.specs.Prelude.{not, Option, Some, None, is_some, IfNone}
use Rattle.std.specs.Int.{bit_at}
use Rattle.std.proofs.lemmas.Bool.{cases_lt, cases_eq, cases_order, eq-eqb, ne_eqb, and_left, and_right, and_from, or_left}
use Rattle.std.proofs.lemmas.Bool.Decides.{nat_tests}
use Rattle.std.proofs.lemmas.List.{get_or-set_same, get_or-set_other, get_or-replicate, get_or_past, get_or_read, length-replicate}
use Rattle.std.proofs.lemmas.Nat.{same_from_place, mul-add-lt, mul-le, row_fits}
use Rattle.std.proofs.lemmas.Nat.Bits.{bit_at-lt, bit_at-zero, bit_at_and, bit_at_or, bit_at_set_same, bit_at_set_other, shr_and_one}
use Rattle.ale_relation.specs.Rows.{Rows, row_width, holds, both_hold, both_but}

-- bit `y` of row `x`, where `w` words make a row
abbrev pub bit : List ℕ → ℕ → ℕ → ℕ → Bool
bit ws w x y = eqb (bit_at (get_or ws (x * w + y / 64) 0) (y % 64)) 1

pub holds_is_bit : (rows : Rows) (w x y : ℕ) → w ≡ row_width rows.size → holds rows x y ≡ bit rows.words w x y
unfolding holds
holds_is_bit rows w x y e = ap (λ v. bit rows.words v x y) (sym e)

-- a relation by its size and its words
abbrev pub rows_of : ℕ → List ℕ → Rows
rows_of size words = record { size = size; words = words }

-- the word of a number's bit is within the row
word_within : (size w y : ℕ) → w ≡ row_width size → y < size → y / 64 < w
word_within size w y e within = omega arith

-- and within the words
pub place_within : (size w x y : ℕ) → w ≡ row_width size → x < size → y < size → x * w + y / 64 < size * w
place_within size w x y e p q = omega (arith, mul-add-lt x w (y / 64) size p (word_within size w y e q))

-- the test of a bit in the code
pub tested : (ws : List ℕ) (w x y word : ℕ) → x * w + y / 64 < length ws → word ≡ get_or ws (x * w + y / 64) word → eqb (bit_and (word / 2 ^ (y % 64)) 1) 1 ≡ bit ws w x y
tested ws w x y word within read =
    ap (λ v. eqb v 1) (shr_and_one word (y % 64)) ∙ ap (λ v. eqb (bit_at v (y % 64)) 1) (get_or_read ws (x * w + y / 64) word within read 0)

get_or_zeros : (n i : ℕ) → (i < n) ⊎ (n ≤ i) → ◌≡◌ {A = ℕ} (get_or (replicate n 0) i 0) 0
get_or_zeros n i (inl within) = get_or-replicate n i 0 0 within
get_or_zeros n i (inr past) =
    let e : length {A = ℕ} (replicate n 0) ≡ n = length-replicate n 0 in
    get_or_past (replicate n 0) i 0 (omega arith)

zeros_bit : (n w x y : ℕ) → bit (replicate n 0) w x y ≡ false
zeros_bit n w x y =
    ap (λ v. eqb (bit_at v (y % 64)) 1) (get_or_zeros n (x * w + y / 64) (cases_lt (x * w + y / 64) n)) ∙ ap (λ v. eqb v 1) (bit_at-zero (y % 64))

pub zeros_hold : (size n x y : ℕ) → holds (rows_of size (replicate n 0)) x y ≡ false
zeros_hold size n x y =
    holds_is_bit (rows_of size (replicate n 0)) (row_width size) x y refl ∙ zeros_bit n (row_width size) x y

-- ---- one bit set

-- the word `v` with bit `b` set, as the code makes it
abbrev pub with_bit : ℕ → ℕ → ℕ
with_bit v b = bit_or v (1 * 2 ^ (b % 64) % 2 ^ 64)

same_column : (y b : ℕ) → y / 64 ≡ b / 64 → y % 64 ≡ b % 64 → y ≡ b
same_column y b p q = omega arith

false_or : (t p : Bool) → t ≡ false → p ≡ (t || p)
false_or t p e = ap (λ u. u || p) (sym e)

apart_pair : (w a b x y : ℕ) → x * w + y / 64 ≢ a * w + b / 64 → (x ≡ a) ⊎ (x ≢ a) → (eqb x a && eqb y b) ≡ false
apart_pair w a b x y apart (inl e) = and_right (eqb x a) (eqb y b) (ne_eqb y b (λ f. apart (cc)))
apart_pair w a b x y apart (inr ne) = and_left (eqb x a) (eqb y b) (ne_eqb x a ne)

set_other : (ws : List ℕ) (w a b x y v : ℕ) → x * w + y / 64 ≢ a * w + b / 64 → bit (set ws (a * w + b / 64) v) w x y ≡ ((eqb x a && eqb y b) || bit ws w x y)
set_other ws w a b x y v apart =
    ap (λ n. eqb (bit_at n (y % 64)) 1) (get_or-set_other ws (a * w + b / 64) (x * w + y / 64) v 0 apart) ∙ false_or (eqb x a && eqb y b) (bit ws w x y) (apart_pair w a b x y apart (cases_eq x a))

-- in the word that is changed: at the bit, and at the others
word_bit : (v b x a y : ℕ) → x ≡ a → y / 64 ≡ b / 64 → (y % 64 ≡ b % 64) ⊎ (y % 64 ≢ b % 64) → eqb (bit_at (with_bit v b) (y % 64)) 1 ≡ ((eqb x a && eqb y b) || eqb (bit_at v (y % 64)) 1)
word_bit v b x a y row word (inl e) =
    ap (λ i. eqb (bit_at (with_bit v b) i) 1) e ∙ ap (λ n. eqb n 1) (bit_at_set_same w64 v (b % 64) (omega arith)) ∙ sym (or_left (eqb x a && eqb y b) (eqb (bit_at v (y % 64)) 1) (and_from (eqb x a) (eqb y b) (eq-eqb x a row) (eq-eqb y b (same_column y b word e))))
word_bit v b x a y row word (inr ne) =
    ap (λ n. eqb n 1) (bit_at_set_other w64 v (b % 64) (omega arith) (y % 64) ne) ∙ false_or (eqb x a && eqb y b) (eqb (bit_at v (y % 64)) 1) (and_right (eqb x a) (eqb y b) (ne_eqb y b (λ e. ne (ap (λ n. n % 64) e))))

set_same : (ws : List ℕ) (w a b x y v : ℕ) → a * w + b / 64 < length ws → v ≡ get_or ws (a * w + b / 64) 0 → b / 64 < w → y / 64 < w → x * w + y / 64 ≡ a * w + b / 64 → bit (set ws (a * w + b / 64) (with_bit v b)) w x y ≡ ((eqb x a && eqb y b) || bit ws w x y)
set_same ws w a b x y v within read p q same =
    let parts = same_from_place x (y / 64) a (b / 64) w q p same in
    ap (λ i. eqb (bit_at (get_or (set ws (a * w + b / 64) (with_bit v b)) i 0) (y % 64)) 1) same ∙ ap (λ n. eqb (bit_at n (y % 64)) 1) (get_or-set_same ws (a * w + b / 64) (with_bit v b) 0 within) ∙ word_bit v b x a y parts.0 parts.1 (cases_eq (y % 64) (b % 64)) ∙ ap (λ n. (eqb x a && eqb y b) || eqb (bit_at n (y % 64)) 1) (read ∙ ap (λ i. get_or ws i 0) (sym same))

set_bit : (ws : List ℕ) (w a b x y v : ℕ) → a * w + b / 64 < length ws → v ≡ get_or ws (a * w + b / 64) 0 → b / 64 < w → y / 64 < w → (x * w + y / 64 ≡ a * w + b / 64) ⊎ (x * w + y / 64 ≢ a * w + b / 64) → bit (set ws (a * w + b / 64) (with_bit v b)) w x y ≡ ((eqb x a && eqb y b) || bit ws w x y)
set_bit ws w a b x y v within read p q (inl same) = set_same ws w a b x y v within read p q same
set_bit ws w a b x y v within read p q (inr apart) = set_other ws w a b x y (with_bit v b) apart

pub set_holds : (size w : ℕ) (ws : List ℕ) (a b x y v : ℕ) → w ≡ row_width size → length ws ≡ size * w → a < size → b < size → y < size → v ≡ get_or ws (a * w + b / 64) v → holds (rows_of size (set ws (a * w + b / 64) (with_bit v b))) x y ≡ ((eqb x a && eqb y b) || holds (rows_of size ws) x y)
set_holds size w ws a b x y v wide whole p q r read =
    let within : a * w + b / 64 < length ws = omega (arith, place_within size w a b wide p q) in
    holds_is_bit (rows_of size (set ws (a * w + b / 64) (with_bit v b))) w x y wide ∙ set_bit ws w a b x y v within (get_or_read ws (a * w + b / 64) v within read 0) (word_within size w b wide q) (word_within size w y wide r) (cases_eq (x * w + y / 64) (a * w + b / 64)) ∙ ap (λ t. (eqb x a && eqb y b) || t) (sym (holds_is_bit (rows_of size ws) w x y wide))

-- ---- a row joined to another

max_bit : (p q : ℕ) → p < 2 → q < 2 → eqb (max p q) 1 ≡ (eqb p 1 || eqb q 1)
max_bit p q h k = grind (arith, nat_tests)

or_bit : (u v i : ℕ) → eqb (bit_at (bit_or u v) i) 1 ≡ (eqb (bit_at u i) 1 || eqb (bit_at v i) 1)
or_bit u v i =
    ap (λ n. eqb n 1) (bit_at_or u v i) ∙ max_bit (bit_at u i) (bit_at v i) (bit_at-lt u i) (bit_at-lt v i)

or_false : (p t q : Bool) → t ≡ false → p ≡ (p || (t && q))
or_false true t q e = refl
or_false false t q e = sym (and_left t q e)

or_true : (p t q : Bool) → t ≡ true → (p || q) ≡ (p || (t && q))
or_true p t q e = ap (λ u. p || (u && q)) (sym e)

-- the words at `to` have the bits of those at `from` too, and the others are as they were
pub record Joins (old new : List ℕ) (to from count : ℕ) : Type 0 where
  pub joined : (k : ℕ) → k < count → get_or new (to + k) 0 ≡ bit_or (get_or old (to + k) 0) (get_or old (from + k) 0)
  pub others : (j : ℕ) → (j < to) ⊎ (to + count ≤ j) → get_or new j 0 ≡ get_or old j 0

joined_other : (old new : List ℕ) (w to from x y : ℕ) → Joins old new (to * w) (from * w) w → (x * w + y / 64 < to * w) ⊎ (to * w + w ≤ x * w + y / 64) → x ≢ to → bit new w x y ≡ (bit old w x y || (eqb x to && bit old w from y))
joined_other old new w to from x y joins apart ne =
    ap (λ v. eqb (bit_at v (y % 64)) 1) (joins.others (x * w + y / 64) apart) ∙ or_false (bit old w x y) (eqb x to) (bit old w from y) (ne_eqb x to ne)

joined_same : (old new : List ℕ) (w to from x y : ℕ) → Joins old new (to * w) (from * w) w → y / 64 < w → x ≡ to → bit new w x y ≡ (bit old w x y || (eqb x to && bit old w from y))
joined_same old new w to from x y joins within e =
    ap (λ r. bit new w r y) e ∙ ap (λ v. eqb (bit_at v (y % 64)) 1) (joins.joined (y / 64) within) ∙ or_bit (get_or old (to * w + y / 64) 0) (get_or old (from * w + y / 64) 0) (y % 64) ∙ ap (λ r. bit old w r y || bit old w from y) (sym e) ∙ or_true (bit old w x y) (eqb x to) (bit old w from y) (eq-eqb x to e)

joined_bit : (old new : List ℕ) (w to from x y : ℕ) → Joins old new (to * w) (from * w) w → y / 64 < w → (x ≡ to) ⊎ ((x < to) ⊎ (to < x)) → bit new w x y ≡ (bit old w x y || (eqb x to && bit old w from y))
joined_bit old new w to from x y joins within (inl e) = joined_same old new w to from x y joins within e
joined_bit old new w to from x y joins within (inr (inl before)) =
    joined_other old new w to from x y joins (inl (omega (arith, mul-add-lt x w (y / 64) to before within))) (omega arith)
joined_bit old new w to from x y joins within (inr (inr after)) =
    joined_other old new w to from x y joins (inr (omega (arith, row_fits to w x w after (omega arith)))) (omega arith)

pub joined_holds : (size w : ℕ) (old new : List ℕ) (to from x y : ℕ) → w ≡ row_width size → Joins old new (to * w) (from * w) w → y < size → holds (rows_of size new) x y ≡ (holds (rows_of size old) x y || (eqb x to && holds (rows_of size old) from y))
joined_holds size w old new to from x y wide joins within =
    holds_is_bit (rows_of size new) w x y wide ∙ joined_bit old new w to from x y joins (word_within size w y wide within) (cases_order x to) ∙ ap (λ t. t || (eqb x to && bit old w from y)) (sym (holds_is_bit (rows_of size old) w x y wide)) ∙ ap (λ t. holds (rows_of size old) x y || (eqb x to && t)) (sym (holds_is_bit (rows_of size old) w from y wide))

-- two rows are apart, or one
pub rows_apart : (w to from : ℕ) → (from < to) ⊎ (to ≤ from) → (from * w + w ≤ to * w) ⊎ (to * w ≤ from * w)
rows_apart w to from (inl before) = inl (row_fits from w to w before (omega arith))
rows_apart w to from (inr after) = inr (mul-le to w from w after (omega arith))

-- ---- words of rows that have a bit in common

-- the word of a row in the code
pub word_bits : (ws : List ℕ) (w x place word : ℕ) → x * w + place < length ws → word ≡ get_or ws (x * w + place) word → (k : ℕ) → k / 64 ≡ place → bit ws w x k ≡ eqb (bit_at word (k % 64)) 1
word_bits ws w x place word within read k e =
    ap (λ p. eqb (bit_at (get_or ws (x * w + p) 0) (k % 64)) 1) e ∙ ap (λ v. eqb (bit_at v (k % 64)) 1) (sym (get_or_read ws (x * w + place) word within read 0))

min_bit : (p q : ℕ) → p < 2 → q < 2 → min p q ≡ 0 → (eqb p 1 && eqb q 1) ≡ false
min_bit p q h k none = grind (arith, nat_tests)

-- words without a bit in common
pub apart_bits : (u v i : ℕ) → bit_and u v ≡ 0 → (eqb (bit_at u i) 1 && eqb (bit_at v i) 1) ≡ false
apart_bits u v i none =
    min_bit (bit_at u i) (bit_at v i) (bit_at-lt u i) (bit_at-lt v i) (sym (bit_at_and u v i) ∙ ap (λ n. bit_at n i) none ∙ bit_at-zero i)

within_bit : (p q r : ℕ) → p < 2 → q < 2 → r < 2 → min (min p q) r ≡ min p q → ((eqb p 1 && eqb q 1) && not (eqb r 1)) ≡ false
within_bit p q r h k l all = grind (arith, nat_tests)

-- words whose common bits are all in a third
pub covered_bits : (u v w i : ℕ) → bit_and (bit_and u v) w ≡ bit_and u v → ((eqb (bit_at u i) 1 && eqb (bit_at v i) 1) && not (eqb (bit_at w i) 1)) ≡ false
covered_bits u v w i all =
    within_bit (bit_at u i) (bit_at v i) (bit_at w i) (bit_at-lt u i) (bit_at-lt v i) (bit_at-lt w i)
    (ap (λ n. min n (bit_at w i)) (sym (bit_at_and u v i)) ∙ sym (bit_at_and (bit_and u v) w i) ∙ ap (λ n. bit_at n i) all ∙ bit_at_and u v i)

-- a word of a row is within the words
pub word_place : (size w x place : ℕ) → w ≡ row_width size → x < size → place < row_width size → x * w + place < size * w
word_place size w x place e p q = omega (arith, mul-add-lt x w place size p (omega arith))

-- what fails at the numbers whose bits are in the words before a place, and at those of the word there
pub place_next : (passes : ℕ → Bool) (size place : ℕ) → ((k : ℕ) → k < size → k / 64 < place → passes k ≡ false) → ((k : ℕ) → k < size → k / 64 ≡ place → passes k ≡ false) → (k : ℕ) → k < size → k / 64 < place + 1 → passes k ≡ false
place_next passes size place before here k inside within =
    elim (cases_eq (k / 64) place) [
      | inl same ↦ here k inside same
      | inr apart ↦ before k inside (omega arith)
    ]

-- what is known of nothing, where nothing was found
pub nothing_found : {A P : Type 0} (o : Option A) → is_some o ≡ false → IfNone o P → P
nothing_found None none h = h
nothing_found (Some x) none h = absurd cc

-- a word that has no bit in common with another
pub apart_rows : (rows : Rows) (a b u v k : ℕ) → holds rows a k ≡ eqb (bit_at u (k % 64)) 1 → holds rows b k ≡ eqb (bit_at v (k % 64)) 1 → bit_and u v ≡ 0 → both_hold rows a b k ≡ false
apart_rows rows a b u v k at_a at_b none = rw (at_a, at_b) (apart_bits u v (k % 64) none)

pub covered_rows : (rows : Rows) (a b c u v w k : ℕ) → holds rows a k ≡ eqb (bit_at u (k % 64)) 1 → holds rows b k ≡ eqb (bit_at v (k % 64)) 1 → holds rows c k ≡ eqb (bit_at w (k % 64)) 1 → bit_and (bit_and u v) w ≡ bit_and u v → both_but rows a b c k ≡ false
covered_rows rows a b c u v w k at_a at_b at_c all = rw (at_a, at_b, at_c) (covered_bits u v w (k % 64) all)
