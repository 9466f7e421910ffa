-- Marks as a set holds them, and where they stand.
use Rattle.std.proofs.Common.{◌≡◌, refl, sym, ap, ◌∙◌, ℕ, zero, suc, ◌+◌, ◌<◌, ◌⊎◌, Bool, true, false, List, [], ◌∷◌, ◌++◌, length, get_or, inl, inr, arith}
use Rattle.std.specs.Prelude.{if◌then◌else◌}
use Rattle.std.specs.List.{list_any, position_or_len}
use Rattle.std.proofs.lemmas.Bool.{cases_Bool, and_parts, and_from, both_ways, eqb-true, eq-eqb}
use Rattle.indexmap.specs.IndexSet.{insert_key}
use Rattle.ale_expansion.specs.declared.mark.Mark.{Mark}
use Rattle.ale_expansion.specs.Marks.{same_mark, place_of, with_mark}

-- a set puts it last where it is new
pub insert_is : (ks : List Mark) (m : Mark) → insert_key same_mark ks m ≡ with_mark ks m
insert_is [] m = refl
insert_is (k ∷ ks) m =
    elim (cases_Bool (same_mark m k)) [
      | inl e ↦ rw e refl
      | inr e ↦ rw e (moved (list_any (same_mark m) ks) ∙ ap (λ xs. k ∷ xs) (insert_is ks m))
    ]
  where
    moved : (b : Bool) → (if b then k ∷ ks else k ∷ (ks ++ m ∷ [])) ≡ k ∷ (if b then ks else ks ++ m ∷ [])
    moved true = refl
    moved false = refl

pub place_is : (ks : List Mark) (m : Mark) → position_or_len (same_mark m) ks ≡ place_of ks m
place_is [] m = refl
place_is (k ∷ ks) m =
    elim (cases_Bool (same_mark m k)) [
      | inl e ↦ rw e refl
      | inr e ↦ rw e (let one : 1 + position_or_len (same_mark m) ks ≡ suc (position_or_len (same_mark m) ks) = omega arith in one ∙ ap suc (place_is ks m))
    ]

pub same_means : (m n : Mark) → same_mark m n ≡ true → m ≡ n
same_means m n e =
    let parts = and_parts _ _ e in
    let p : m.path ≡ n.path = eqb-true m.path n.path parts.0 in
    let q : m.number ≡ n.number = eqb-true m.number n.number parts.1 in
    made m.path n.path m.number n.number p q
  where
    made : (a b c d : ℕ) → a ≡ b → c ≡ d → ◌≡◌ {A = Mark} (record { path = a; number = c }) (record { path = b; number = d })
    made a b c d p q = rw (p, q) refl

pub same_from : (m n : Mark) → m ≡ n → same_mark m n ≡ true
same_from m n e = and_from _ _ (eq-eqb m.path n.path (ap (λ (x : Mark). x.path) e)) (eq-eqb m.number n.number (ap (λ (x : Mark). x.number) e))

-- it stands at its place, and nothing is added
abbrev pub IsOld : List Mark → Mark → Type 0
IsOld ms m = (place_of ms m < length ms) × (get_or ms (place_of ms m) m ≡ m) × (with_mark ms m ≡ ms)

-- it stands nowhere, and is added last
abbrev pub IsNew : List Mark → Mark → Type 0
IsNew ms m = (place_of ms m ≡ length ms) × (with_mark ms m ≡ ms ++ m ∷ []) × ((j : ℕ) → j < length ms → get_or ms j m ≡ m → ⊥)

pub old_or_new : (ms : List Mark) (m : Mark) → IsOld ms m ⊎ IsNew ms m
old_or_new [] m = inr (refl, refl, λ j h e. absurd (omega (arith, h)))
old_or_new (n ∷ ns) m =
    elim (cases_Bool (same_mark m n)) [
      | inl e ↦ inl (rw e (omega arith), rw e (sym (same_means m n e)), rw e refl)
      | inr e ↦
          elim (old_or_new ns m) [
            | inl o ↦ inl (rw e (omega (arith, o.0)), rw e o.1, rw e (ap (λ xs. n ∷ xs) o.2))
            | inr w ↦ inr (rw e (ap suc w.0), rw e (ap (λ xs. n ∷ xs) w.1), other e w.2)
          ]
    ]
  where
    other : same_mark m n ≡ false → ((j : ℕ) → j < length ns → get_or ns j m ≡ m → ⊥) → (j : ℕ) → j < suc (length ns) → get_or (n ∷ ns) j m ≡ m → ⊥
    other e later zero h s = absurd (both_ways (same_mark m n) e (same_from m n (sym s)))
    other e later (suc j) h s = later j (omega (arith, h)) s
