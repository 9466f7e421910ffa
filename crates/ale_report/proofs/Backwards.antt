-- A stack that holds a list last first: its top is the first element, and what is left stands behind.
use Rattle.std.proofs.Common.{◌≡◌, ◌⊎◌, inl, inr, ℕ, suc, ◌-◌, ◌≤◌, List, [], ◌∷◌, ◌++◌, length, reverse, string_bytes, String, refl, sym, ap, ◌∙◌, subst, append_assoc, arith}
use Rattle.std.proofs.lemmas.List.{reverse-reverse, reverse-append, length-reverse, length-append}
use Rattle.std.proofs.lemmas.Grind.{reverse_onto}
use Rattle.ale_declared.specs.Lists.{Has}
use Rattle.ale_declared.specs.Declarations.{Declared}
use Rattle.ale_logic.specs.declared.answer.Answer.{Answer}
use Rattle.ale_report.specs.Parts.{answer_text, answers_text}

has_either : {A : Type 0} (xs ys : List A) (x : A) → Has (xs ++ ys) x → Has xs x ⊎ Has ys x
has_either [] ys x h = inr h
has_either (z ∷ zs) ys x (inl e) = inl (inl e)
has_either (z ∷ zs) ys x (inr h) = elim (has_either zs ys x h) [ inl a ↦ inl (inr a) | inr b ↦ inr b ]

pub has_front : {A : Type 0} (xs ys : List A) (x : A) → Has xs x → Has (xs ++ ys) x
has_front [] ys x h = absurd h
has_front (z ∷ zs) ys x (inl e) = inl e
has_front (z ∷ zs) ys x (inr h) = inr (has_front zs ys x h)

pub has_last : {A : Type 0} (xs : List A) (x : A) → Has (xs ++ x ∷ []) x
has_last [] x = inl refl
has_last (z ∷ zs) x = inr (has_last zs x)

pub has_reverse : {A : Type 0} (xs : List A) (x : A) → Has (reverse xs) x → Has xs x
has_reverse [] x h = h
has_reverse (y ∷ ys) x h = elim (has_either (reverse ys) (y ∷ []) x (subst (λ zs. Has zs x) (reverse_onto ys y []) h)) [
  | inl a ↦ inr (has_reverse ys x a)
  | inr b ↦ elim b [ inl e ↦ inl e | inr none ↦ absurd none ]
]

pub reverse_has : {A : Type 0} (xs : List A) (x : A) → Has xs x → Has (reverse xs) x
reverse_has xs x h = has_reverse (reverse xs) x (subst (λ zs. Has zs x) (sym (reverse-reverse xs)) h)

-- what is left holds an element, or it was the last one
pub left_or_last : {A : Type 0} (xs : List A) (y x : A) → Has (xs ++ y ∷ []) x → Has xs x ⊎ (x ≡ y)
left_or_last xs y x h = elim (has_either xs (y ∷ []) x h) [ inl k ↦ inl k | inr k ↦ elim k [ inl e ↦ inr e | inr none ↦ absurd none ] ]

-- at the start all are left
pub all_left : (d : Declared) (xs rest : List Answer) (n : ℕ) → rest ≡ reverse xs → n ≡ length xs →
    answers_text d (suc (n - length rest)) (reverse rest) ≡ answers_text d 1 xs
all_left d xs rest n is e =
    let z : n - length rest ≡ 0 = rw (is, length-reverse xs) (omega arith) in
    rw (z, is, reverse-reverse xs) refl

-- the top is printed next
pub top_printed : (d : Declared) (rest left : List Answer) (x : Answer) (n : ℕ) (old : List ℕ) → rest ≡ left ++ x ∷ [] → length rest ≤ n →
    (old ++ answer_text d (n - length left) x) ++ answers_text d (suc (n - length left)) (reverse left) ≡ old ++ answers_text d (suc (n - length rest)) (reverse rest)
top_printed d rest left x n old is le =
    let long : length rest ≡ suc (length left) = rw (is, length-append left (x ∷ [])) (omega arith) in
    let number : suc (n - length rest) ≡ n - length left = omega arith in
    let first : reverse rest ≡ x ∷ reverse left = ap reverse is ∙ reverse-append left (x ∷ []) in
    append_assoc old (answer_text d (n - length left) x) (answers_text d (suc (n - length left)) (reverse left))
    ∙ rw (number, first) refl

pub left_within : (rest left : List Answer) (x : Answer) (n : ℕ) → rest ≡ left ++ x ∷ [] → length rest ≤ n → length left ≤ n
left_within rest left x n is le =
    let long : length rest ≡ suc (length left) = rw (is, length-append left (x ∷ [])) (omega arith) in omega arith
