-- Sums of parts tell what is within the limits.
use Rattle.std.proofs.Common.{◌≡◌, ℕ, ◌+◌, ◌<◌, ◌≤◌, ◌⊎◌, Some, None, List, [], ◌∷◌, refl, sym, ap, ◌∙◌, inl, inr, arith}
use Rattle.std.specs.Option.{option_map}
use Rattle.std.proofs.lemmas.Bool.Decides.{leb_tells}
use Rattle.ale_declared.specs.Declarations.{Declared}
use Rattle.ale_term.specs.Terms.{TermData}
use Rattle.ale_macro.specs.Expansions.{nesting, within_limits}
use Rattle.ale_describe.specs.Names.{NamesData}
use Rattle.ale_describe.specs.Limits.{most_parts, most_nesting, most_parts_in_all, whole, parts_of, parts_of_all, IsWithin, EachWithin, AreWithin, sum_after}
use Rattle.ale_describe.specs.Laws.{SumTells, LimitsLaw}
use Rattle.ale_describe.proofs.Adding.{few, many, none_stays}

within : (d : Declared) (names : NamesData) (t : TermData) → parts_of d names t ≤ 100000 → nesting (whole d names t) ≤ 4000 → IsWithin d names t
unfolding most_parts most_nesting
within d names t p n = record { parts = p; nesting = n }

within_parts : (d : Declared) (names : NamesData) (t : TermData) → IsWithin d names t → parts_of d names t ≤ 100000
unfolding most_parts
within_parts d names t w = w.parts

within_nesting : (d : Declared) (names : NamesData) (t : TermData) → IsWithin d names t → nesting (whole d names t) ≤ 4000
unfolding most_nesting
within_nesting d names t w = w.nesting

-- a description is within the limits, and tells its parts, or it is not
abbrev One : Declared → NamesData → TermData → Type 0
One d names t = (IsWithin d names t × (within_limits (whole d names t) ≡ Some (parts_of d names t))) ⊎ ((IsWithin d names t → ⊥) × (within_limits (whole d names t) ≡ None))

one : (d : Declared) (names : NamesData) (t : TermData) → One d names t
one d names t = elim (leb_tells (parts_of d names t) 100000) [
  | inl p ↦ elim (leb_tells (nesting (whole d names t)) 4000) [
    | inl n ↦ inl (within d names t p.1 n.1, rw (p.0, n.0) refl)
    | inr n ↦ inr (λ w. let low = within_nesting d names t w in absurd (omega (arith, n.1)), rw (p.0, n.0) refl)
  ]
  | inr p ↦ inr (λ w. let low = within_parts d names t w in absurd (omega (arith, p.1)), rw (p.0) refl)
]

all_within : (d : Declared) (names : NamesData) (so_far : ℕ) (ts : List TermData) → EachWithin d names ts → so_far + parts_of_all d names ts ≤ 4000000 → AreWithin d names so_far ts
unfolding most_parts_in_all
all_within d names so_far ts e a = record { each = e; all = a }

within_all : (d : Declared) (names : NamesData) (so_far : ℕ) (ts : List TermData) → AreWithin d names so_far ts → so_far + parts_of_all d names ts ≤ 4000000
unfolding most_parts_in_all
within_all d names so_far ts w = w.all

abbrev Told : Declared → NamesData → ℕ → List TermData → Type 0
Told d names so_far ts =
    (AreWithin d names so_far ts × (sum_after d names (Some so_far) ts ≡ Some (so_far + parts_of_all d names ts)))
    ⊎ ((AreWithin d names so_far ts → ⊥) × (sum_after d names (Some so_far) ts ≡ None))

told : (d : Declared) (names : NamesData) (so_far : ℕ) (ts : List TermData) → Told d names so_far ts
told d names so_far [] = elim (leb_tells so_far 4000000) [
  | inl q ↦ let low : so_far ≤ 4000000 = q.1 in
      let same : so_far ≡ so_far + 0 = omega arith in
      inl (all_within d names so_far [] tt (omega arith), few so_far low ∙ ap Some same)
  | inr q ↦ let high : 4000000 < so_far = q.1 in
      inr (λ w. let low = within_all d names so_far [] w in absurd (omega arith), many so_far high)
]
told d names so_far (t ∷ ts) = elim (one d names t) [
  | inl w ↦ later w.0 w.1 (told d names (so_far + parts_of d names t) ts)
  | inr w ↦ inr (λ all. w.0 all.each.0, ap (λ o. sum_after d names (option_map (λ k. so_far + k) o) ts) w.1 ∙ none_stays d names ts)
]
  where
    later : IsWithin d names t → within_limits (whole d names t) ≡ Some (parts_of d names t) → Told d names (so_far + parts_of d names t) ts → Told d names so_far (t ∷ ts)
    later first tells (inl r) =
        let low = within_all d names (so_far + parts_of d names t) ts r.0 in
        let same : (so_far + parts_of d names t) + parts_of_all d names ts ≡ so_far + (parts_of d names t + parts_of_all d names ts) = omega arith in
        inl (all_within d names so_far (t ∷ ts) (first, r.0.each) (omega arith), ap (λ o. sum_after d names (option_map (λ k. so_far + k) o) ts) tells ∙ r.1 ∙ ap Some same)
    later first tells (inr r) =
        inr (
          λ all. let low = within_all d names so_far (t ∷ ts) all in r.0 (all_within d names (so_far + parts_of d names t) ts all.each.1 (omega arith)),
          ap (λ o. sum_after d names (option_map (λ k. so_far + k) o) ts) tells ∙ r.1,
        )

some_none : (n : ℕ) → Some n ≡ None → ⊥
some_none n e = absurd cc

some_same : (n m : ℕ) → Some n ≡ Some m → n ≡ m
some_same n m e = cc

tells : (d : Declared) (names : NamesData) (so_far : ℕ) (ts : List TermData) → Told d names so_far ts → SumTells d names so_far ts
tells d names so_far ts (inl r) = record {
  found = λ n e. (r.0, some_same n (so_far + parts_of_all d names ts) (sym e ∙ r.1));
  given = λ w. r.1;
  none = (λ e. absurd (some_none (so_far + parts_of_all d names ts) (sym r.1 ∙ e)), λ no. absurd (no r.0));
}
tells d names so_far ts (inr r) = record {
  found = λ n e. absurd (some_none n (sym e ∙ r.1));
  given = λ w. absurd (r.0 w);
  none = (λ e. r.0, λ no. r.1);
}

pub limits_law : LimitsLaw
limits_law d names so_far ts = tells d names so_far ts (told d names so_far ts)
