-- Variables by numbers are variables by paths.
use Rattle.std.proofs.Common.{◌≡◌, refl, sym, ap, ◌∙◌, subst, ℕ, suc, ◌<◌, ◌≤◌, true, List, [], ◌∷◌, ◌++◌, length, inl, inr, arith}
use Rattle.std.specs.Prelude.{nat_eq}
use Rattle.std.proofs.lemmas.Bool.{cases_Bool, and_parts, and_from, both_ways, eqb-true, eq-eqb, false_from_ne_true}
use Rattle.std.proofs.lemmas.List.{get_or_append_left}
use Rattle.ale_macro.specs.Slots.{same_path, slot_of, with_variable}
use Rattle.ale_expansion.specs.declared.mark.Mark.{Mark}
use Rattle.ale_expansion.specs.Marks.{same_mark, place_of, with_mark, path_at, paths_of, origins_of}
use Rattle.ale_expansion.specs.Met.{MetData, IsMet, AreBelow, AreDistinct}

pub same_path_itself : (p : List ℕ) → same_path p p ≡ true
same_path_itself [] = refl
same_path_itself (a ∷ p) = and_from (nat_eq a a) (same_path p p) (eq-eqb a a refl) (same_path_itself p)

pub same_path_means : (p q : List ℕ) → same_path p q ≡ true → p ≡ q
same_path_means [] [] e = refl
same_path_means [] (b ∷ q) e = absurd cc
same_path_means (a ∷ p) [] e = absurd cc
same_path_means (a ∷ p) (b ∷ q) e =
    let parts = and_parts (nat_eq a b) (same_path p q) e in
    let head : a ≡ b = eqb-true a b parts.0 in
    let rest : p ≡ q = same_path_means p q parts.1 in
    cc

-- distinct paths are told apart by their numbers
pub told_apart : (paths : List (List ℕ)) → AreDistinct paths → (i j : ℕ) → i < length paths → j < length paths → same_path (path_at paths i) (path_at paths j) ≡ nat_eq i j
told_apart paths distinct i j h k =
    elim (cases_Bool (nat_eq i j)) [
      | inl e ↦
          let same : i ≡ j = eqb-true i j e in
          subst (λ n. same_path (path_at paths i) (path_at paths n) ≡ true) same (same_path_itself (path_at paths i)) ∙ sym e
      | inr e ↦
          false_from_ne_true (same_path (path_at paths i) (path_at paths j)) (λ s.
          both_ways (nat_eq i j) e (eq-eqb i j (distinct i j h k (same_path_means (path_at paths i) (path_at paths j) s)))) ∙ sym e
    ]

pub slot_is : (paths : List (List ℕ)) (ms : List Mark) (m : Mark) → AreDistinct paths → AreBelow (length paths) ms → m.path < length paths → slot_of (origins_of paths ms) (path_at paths m.path, m.number) ≡ place_of ms m
slot_is paths [] m distinct below h = refl
slot_is paths (n ∷ ms) m distinct below h =
    rw (told_apart paths distinct m.path n.path h below.0) (
    elim (cases_Bool (same_mark m n)) [
      | inl e ↦ rw e refl
      | inr e ↦ rw e (ap suc (slot_is paths ms m distinct below.1 h))
    ])

pub with_is : (paths : List (List ℕ)) (ms : List Mark) (m : Mark) → AreDistinct paths → AreBelow (length paths) ms → m.path < length paths → with_variable (origins_of paths ms) (path_at paths m.path, m.number) ≡ origins_of paths (with_mark ms m)
with_is paths [] m distinct below h = refl
with_is paths (n ∷ ms) m distinct below h =
    rw (told_apart paths distinct m.path n.path h below.0) (
    elim (cases_Bool (same_mark m n)) [
      | inl e ↦ rw e refl
      | inr e ↦ rw e (ap (λ vs. (path_at paths n.path, n.number) ∷ vs) (with_is paths ms m distinct below.1 h))
    ])

pub below_with : (n : ℕ) (ms : List Mark) (m : Mark) → AreBelow n ms → m.path < n → AreBelow n (with_mark ms m)
below_with n [] m below h = (h, tt)
below_with n (k ∷ ms) m below h =
    elim (cases_Bool (same_mark m k)) [
      | inl e ↦ rw e below
      | inr e ↦ rw e (below.0, below_with n ms m below.1 h)
    ]

pub below_wider : (n k : ℕ) (ms : List Mark) → n ≤ k → AreBelow n ms → AreBelow k ms
below_wider n k [] h below = tt
below_wider n k (m ∷ ms) h below = (omega (arith, h, below.0), below_wider n k ms h below.1)

-- paths that are added change none of them
pub origins_wider : (paths more : List (List ℕ)) (ms : List Mark) → AreBelow (length paths) ms → origins_of (paths ++ more) ms ≡ origins_of paths ms
origins_wider paths more [] below = refl
origins_wider paths more (m ∷ ms) below =
    rw (get_or_append_left paths more [] m.path below.0) (ap (λ vs. (path_at paths m.path, m.number) ∷ vs) (origins_wider paths more ms below.1))

-- what putting a variable in comes to
pub record SlotLaw (calls : List Mark) (d : MetData) (m : Mark) (k : ℕ) (new : List Mark) : Type 0 where
  pub is : IsMet calls new
  pub slot : k ≡ slot_of d.variables (path_at d.paths m.path, m.number)
  pub added : origins_of (paths_of calls) new ≡ with_variable d.variables (path_at d.paths m.path, m.number)

pub slot_law : (calls slots new : List Mark) (k : ℕ) (d : MetData) (m : Mark) → record { paths = paths_of calls; variables = origins_of (paths_of calls) slots } ≡ d → IsMet calls slots → m.path < length d.paths → k ≡ place_of slots m → new ≡ with_mark slots m → SlotLaw calls d m k new
slot_law calls slots new k d m view is h e f =
    subst (λ (d : MetData). m.path < length d.paths → SlotLaw calls d m k new) view (λ h. rw (e, f) (record {
      is = record { lead = is.lead; distinct = is.distinct; below = below_with (length (paths_of calls)) slots m is.below h };
      slot = sym (slot_is (paths_of calls) slots m is.distinct is.below h);
      added = sym (with_is (paths_of calls) slots m is.distinct is.below h);
    })) h
