-- The tests of names and of variables decide what the forms say of them.
use Rattle.std.proofs.Common.{◌≡◌, ◌≢◌, ◌⊎◌, inl, inr, ℕ, Bool, true, false, not, ◌&&◌, ◌||◌, List, [], ◌∷◌, ◌++◌, refl, sym, ap, ◌∙◌, subst}
use Rattle.std.specs.Prelude.{codes}
use Rattle.std.specs.Str.{bytes_eq}
use Rattle.std.proofs.lemmas.Slice.Eq.{bytes_eq-Decides}
use Rattle.ale_relation.specs.Has.{Has}
use Rattle.ale_declaration.specs.declared.declaration.LinePart.{LinePart}
use Rattle.ale_declaration.specs.declared.declaration.LinePart.TheVariants.{Piece, Slot}
use Rattle.ale_declaration.specs.Forms.{AreDistinct, IsBound}
use Rattle.std.proofs.lemmas.Bool.{cases_Bool}
use Rattle.ale_declared.specs.Names.{is_named, numbered}
use Rattle.ale_declared.proofs.ListLemmas.{Has-append_cases, Has-append_left, Has-append_right}
use Rattle.ale_declared.proofs.NumberLemmas.{is_named_has, is_named_from, Has-numbered, numbered_has}
use Rattle.ale_declaration.specs.Distinct.{distinct_after, slots_in, is_told_by, is_bound_by}
use Rattle.ale_declaration.specs.Reading.{has_name, are_distinct, is_slot, has_slot, is_told, is_bound}

either_true : (a b : Bool) → (a || b) ≡ true → (a ≡ true) ⊎ (b ≡ true)
either_true true b e = inl refl
either_true false b e = inr e

second_true : (a b : Bool) → b ≡ true → (a || b) ≡ true
second_true true b e = refl
second_true false b e = e

both_true : (a b : Bool) → (a && b) ≡ true → (a ≡ true) × (b ≡ true)
both_true true b e = (refl, e)
both_true false b e = cc

true_both : (a b : Bool) → a ≡ true → b ≡ true → (a && b) ≡ true
true_both true b p q = q
true_both false b p q = cc

not_true : (a : Bool) → not a ≡ true → a ≡ true → ⊥
not_true true e f = cc
not_true false e f = cc

true_not : (a : Bool) → (a ≡ true → ⊥) → not a ≡ true
true_not true h = absurd (h refl)
true_not false h = refl

unless : (a b : Bool) → ((a ≡ true → ⊥) → b ≡ true → ⊥) → (a || not b) ≡ true
unless true b h = refl
unless false true h = absurd (h (λ e. cc) refl)
unless false false h = refl

unless_true : (a b : Bool) → (a || not b) ≡ true → (a ≡ true → ⊥) → b ≡ true → ⊥
unless_true true b e n t = n refl
unless_true false true e n t = cc
unless_true false false e n t = cc

same_true : (x y : List ℕ) → x ≡ y → bytes_eq x y ≡ true
same_true x y e = let d = bytes_eq-Decides x y in d.1 e

true_same : (x y : List ℕ) → bytes_eq x y ≡ true → x ≡ y
true_same x y e = let d = bytes_eq-Decides x y in d.0 e

has_true : (xs : List (List ℕ)) (x : List ℕ) → Has xs x → has_name xs x ≡ true
has_true [] x h = absurd h
has_true (y ∷ ys) x (inl e) = rw (same_true y x (sym e)) refl
has_true (y ∷ ys) x (inr h) = second_true (bytes_eq y x) (has_name ys x) (has_true ys x h)

true_has : (xs : List (List ℕ)) (x : List ℕ) → has_name xs x ≡ true → Has xs x
true_has [] x e = cc
true_has (y ∷ ys) x e = elim (either_true (bytes_eq y x) (has_name ys x) e) [
  | inl h ↦ inl (sym (true_same y x h))
  | inr h ↦ inr (true_has ys x h)
]

pub distinct_true : (xs : List (List ℕ)) → AreDistinct xs → are_distinct xs ≡ true
distinct_true [] d = refl
distinct_true (x ∷ xs) d =
    true_both (bytes_eq x (codes "_") || not (has_name xs x)) (are_distinct xs)
    (unless (bytes_eq x (codes "_")) (has_name xs x) (λ n t. d.0 (λ e. n (same_true x (codes "_") e)) (true_has xs x t)))
    (distinct_true xs (d.1))

pub true_distinct : (xs : List (List ℕ)) → are_distinct xs ≡ true → AreDistinct xs
true_distinct [] e = tt
true_distinct (x ∷ xs) e =
    let b = both_true (bytes_eq x (codes "_") || not (has_name xs x)) (are_distinct xs) e in
    (λ n h. unless_true (bytes_eq x (codes "_")) (has_name xs x) (b.0) (λ t. n (true_same x (codes "_") t)) (has_true xs x h), true_distinct xs (b.1))

slot_is : (p : LinePart) (x : List ℕ) → is_slot p x ≡ true → Slot x ≡ p
slot_is (Piece n) x e = cc
slot_is (Slot y) x e = ap Slot (sym (true_same y x e))

is_the_slot : (p : LinePart) (x : List ℕ) → Slot x ≡ p → is_slot p x ≡ true
is_the_slot (Piece n) x e = cc
is_the_slot (Slot y) x e = let q : x ≡ y = cc in same_true y x (sym q)

slot_true : (ps : List LinePart) (x : List ℕ) → Has ps (Slot x) → has_slot ps x ≡ true
slot_true [] x h = absurd h
slot_true (p ∷ ps) x (inl e) = rw (is_the_slot p x e) refl
slot_true (p ∷ ps) x (inr h) = second_true (is_slot p x) (has_slot ps x) (slot_true ps x h)

true_slot : (ps : List LinePart) (x : List ℕ) → has_slot ps x ≡ true → Has ps (Slot x)
true_slot [] x e = cc
true_slot (p ∷ ps) x e = elim (either_true (is_slot p x) (has_slot ps x) e) [
  | inl h ↦ inl (slot_is p x h)
  | inr h ↦ inr (true_slot ps x h)
]

told_true : (left : List LinePart) (p : LinePart) → ((x : List ℕ) → Slot x ≡ p → (x ≢ codes "_") × Has left (Slot x)) → is_told left p ≡ true
told_true left (Piece n) h = refl
told_true left (Slot x) h =
    let b = h x refl in
    true_both (not (bytes_eq x (codes "_"))) (has_slot left x)
    (true_not (bytes_eq x (codes "_")) (λ t. b.0 (true_same x (codes "_") t))) (slot_true left x (b.1))

true_told : (left : List LinePart) (p : LinePart) → is_told left p ≡ true → (x : List ℕ) → Slot x ≡ p → (x ≢ codes "_") × Has left (Slot x)
true_told left (Piece n) e x s = cc
true_told left (Slot y) e x s =
    let q : x ≡ y = cc in
    let b = both_true (not (bytes_eq y (codes "_"))) (has_slot left y) e in
    subst (λ z. (z ≢ codes "_") × Has left (Slot z)) (sym q)
    (λ same. not_true (bytes_eq y (codes "_")) (b.0) (same_true y (codes "_") same), true_slot left y (b.1))

pub bound_true : (left right : List LinePart) → IsBound left right → is_bound left right ≡ true
bound_true left [] h = refl
bound_true left (p ∷ right) h =
    true_both (is_told left p) (is_bound left right) (told_true left p (λ x s. h x (inl s))) (bound_true left right (λ x s. h x (inr s)))

pub true_bound : (left right : List LinePart) → is_bound left right ≡ true → IsBound left right
true_bound left [] e x h = absurd h
true_bound left (p ∷ right) e x (inl s) =
    let b = both_true (is_told left p) (is_bound left right) e in true_told left p (b.0) x s
true_bound left (p ∷ right) e x (inr h) =
    let b = both_true (is_told left p) (is_bound left right) e in true_bound left right (b.1) x h

-- Names are distinct exactly where each is new after those before it.

abbrev AllNew : List (List ℕ) → List (List ℕ) → Type 0
AllNew seen [] = Unit {0}
AllNew seen (x ∷ xs) = ((x ≡ codes "_" → ⊥) → Has seen x → ⊥) × AllNew seen xs

all_new_first : (xs : List (List ℕ)) → AllNew [] xs
all_new_first [] = tt
all_new_first (x ∷ xs) = (λ n h. absurd h, all_new_first xs)

all_new_with : (seen : List (List ℕ)) (x : List ℕ) (xs : List (List ℕ)) → AllNew seen xs → (Has xs x → ⊥) → AllNew (seen ++ x ∷ []) xs
all_new_with seen x [] a n = tt
all_new_with seen x (y ∷ ys) a n = (
  λ m h. elim (Has-append_cases seen (x ∷ []) y h) [ inl g ↦ a.0 m g | inr (inl e) ↦ n (inl (sym e)) | inr (inr g) ↦ absurd g ],
  all_new_with seen x ys a.1 (λ h. n (inr h)),
)

all_new_without : (seen : List (List ℕ)) (x : List ℕ) (xs : List (List ℕ)) → AllNew (seen ++ x ∷ []) xs → AllNew seen xs
all_new_without seen x [] a = tt
all_new_without seen x (y ∷ ys) a = (λ m h. a.0 m (Has-append_left seen (x ∷ []) y h), all_new_without seen x ys a.1)

not_new : (seen : List (List ℕ)) (xs : List (List ℕ)) (x : List ℕ) → AllNew seen xs → Has xs x → (x ≡ codes "_" → ⊥) → Has seen x → ⊥
not_new seen [] x a k m h = absurd k
not_new seen (y ∷ ys) x a (inl e) m h = a.0 (λ f. m (e ∙ f)) (subst (Has seen) e h)
not_new seen (y ∷ ys) x a (inr k) m h = not_new seen ys x a.1 k m h

not_false : (b : Bool) → b ≡ false → b ≡ true → ⊥
not_false b f t = let e : true ≡ false = sym t ∙ f in absurd cc

false_unless : (b : Bool) → (b ≡ true → ⊥) → b ≡ false
false_unless true h = absurd (h refl)
false_unless false h = refl

after_true : (seen xs : List (List ℕ)) → AllNew seen xs → AreDistinct xs → distinct_after seen xs ≡ true
after_true seen [] a d = refl
after_true seen (x ∷ xs) a d = elim (cases_Bool (bytes_eq x (codes "_"))) [
  | inl e ↦ rw e (after_true seen xs a.1 d.1)
  | inr e ↦
      let m : (x ≡ codes "_" → ⊥) = λ f. not_false (bytes_eq x (codes "_")) e (same_true x (codes "_") f) in
      let f : is_named x seen ≡ false = false_unless (is_named x seen) (λ t. a.0 m (is_named_has x seen t)) in
      rw e (rw f (after_true (seen ++ x ∷ []) xs (all_new_with seen x xs a.1 (d.0 m)) d.1))
]

after_own : (seen : List (List ℕ)) (x : List ℕ) (xs : List (List ℕ)) → bytes_eq x (codes "_") ≡ true → distinct_after seen (x ∷ xs) ≡ distinct_after seen xs
after_own seen x xs e = rw e refl

after_other : (seen : List (List ℕ)) (x : List ℕ) (xs : List (List ℕ)) → bytes_eq x (codes "_") ≡ false → is_named x seen ≡ false →
    distinct_after seen (x ∷ xs) ≡ distinct_after (seen ++ x ∷ []) xs
after_other seen x xs e f = rw e (rw f refl)

after_known : (seen : List (List ℕ)) (x : List ℕ) (xs : List (List ℕ)) → bytes_eq x (codes "_") ≡ false → is_named x seen ≡ true → distinct_after seen (x ∷ xs) ≡ false
after_known seen x xs e f = rw e (rw f refl)

true_after : (seen xs : List (List ℕ)) → distinct_after seen xs ≡ true → AllNew seen xs × AreDistinct xs
true_after seen [] t = (tt, tt)
true_after seen (x ∷ xs) t = elim (cases_Bool (bytes_eq x (codes "_"))) [
  | inl e ↦
      let f : x ≡ codes "_" = true_same x (codes "_") e in
      let r = true_after seen xs (sym (after_own seen x xs e) ∙ t) in
      ((λ n h. n f, r.0), (λ n h. n f, r.1))
  | inr e ↦ elim (cases_Bool (is_named x seen)) [
    | inl g ↦ absurd (not_false (distinct_after seen (x ∷ xs)) (after_known seen x xs e g) t)
    | inr g ↦
        let r = true_after (seen ++ x ∷ []) xs (sym (after_other seen x xs e g) ∙ t) in (
          (λ n h. not_false (is_named x seen) g (is_named_from x seen h), all_new_without seen x xs r.0),
          (λ n h. not_new (seen ++ x ∷ []) xs x r.0 h n (Has-append_right seen (x ∷ []) x (inl refl)), r.1),
        )
  ]
]

pub distinct_first : (xs : List (List ℕ)) → distinct_after [] xs ≡ are_distinct xs
distinct_first xs = elim (cases_Bool (are_distinct xs)) [
  | inl t ↦ after_true [] xs (all_new_first xs) (true_distinct xs t) ∙ sym t
  | inr f ↦ false_unless (distinct_after [] xs) (λ t. not_false (are_distinct xs) f (distinct_true xs (true_after [] xs t).1)) ∙ sym f
]

-- A right side is bound by the variables of the left.

same_tests : (a b : Bool) → (a ≡ true → b ≡ true) → (b ≡ true → a ≡ true) → a ≡ b
same_tests true b f g = sym (f refl)
same_tests false true f g = g refl
same_tests false false f g = refl

slot_among : (ps : List LinePart) (x : List ℕ) → Has ps (Slot x) → Has (slots_in ps) x
slot_among [] x h = absurd h
slot_among (Piece n ∷ ps) x (inl e) = cc
slot_among (Piece n ∷ ps) x (inr h) = slot_among ps x h
slot_among (Slot y ∷ ps) x (inl e) = inl cc
slot_among (Slot y ∷ ps) x (inr h) = inr (slot_among ps x h)

among_slots : (ps : List LinePart) (x : List ℕ) → Has (slots_in ps) x → Has ps (Slot x)
among_slots [] x h = absurd h
among_slots (Piece n ∷ ps) x h = inr (among_slots ps x h)
among_slots (Slot y ∷ ps) x (inl e) = inl (ap Slot e)
among_slots (Slot y ∷ ps) x (inr h) = inr (among_slots ps x h)

only_those : (xs : List (List ℕ)) (x : List ℕ) → Has (numbered [] xs) x → Has xs x
only_those xs x h = elim (numbered_has [] xs x h) [ inl g ↦ absurd g | inr g ↦ g ]

named_slot : (left : List LinePart) (x : List ℕ) → is_named x (numbered [] (slots_in left)) ≡ has_slot left x
named_slot left x =
    same_tests (is_named x (numbered [] (slots_in left))) (has_slot left x)
    (λ t. slot_true left x (among_slots left x (only_those (slots_in left) x (is_named_has x (numbered [] (slots_in left)) t))))
    (λ t. is_named_from x (numbered [] (slots_in left)) (Has-numbered [] (slots_in left) x (slot_among left x (true_slot left x t))))

told_by : (left : List LinePart) (p : LinePart) → is_told_by (numbered [] (slots_in left)) p ≡ is_told left p
told_by left (Piece n) = refl
told_by left (Slot x) = ap (λ b. not (bytes_eq x (codes "_")) && b) (named_slot left x)

pub bound_by : (left right : List LinePart) → is_bound_by (numbered [] (slots_in left)) right ≡ is_bound left right
bound_by left [] = refl
bound_by left (p ∷ right) = ap (λ b. b && is_bound_by (numbered [] (slots_in left)) right) (told_by left p) ∙ ap (λ b. is_told left p && b) (bound_by left right)
