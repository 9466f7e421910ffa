-- Names of variables.
use Rattle.std.proofs.Common.{◌≡◌, refl, sym, ap, ◌∙◌, ℕ, zero, suc, ◌<◌, false, List, [], ◌∷◌, ◌++◌, ◌≤◌, length, map, drop, inl, inr, arith}
use Rattle.std.specs.Prelude.{nat_eq, codes}
use Rattle.std.specs.Str.{chars}
use Rattle.std.proofs.lemmas.Bool.{cases_Bool, both_ways, eqb-true, eq-eqb}
use Rattle.ale_expansion.specs.declared.mark.Mark.{Mark}
use Rattle.ale_expansion.specs.Marks.{path_at, origins_of}
use Rattle.ale_expansion.specs.Met.{AreBelow, AreDistinct, no_name, name_at, names_in, mark_name}

pub no_name_is : chars (codes "_") ≡ no_name
unfolding chars
no_name_is = refl

-- a path that has no calls is the first
pub mark_is : (paths : List (List ℕ)) (scope : List (List ℕ)) (m : Mark) → AreDistinct paths → path_at paths 0 ≡ [] → 0 < length paths → m.path < length paths → mark_name scope m ≡ name_at scope (path_at paths m.path) m.number
mark_is paths scope m distinct root there inside =
    elim (cases_Bool (nat_eq m.path 0)) [
      | inl e ↦
          let first : m.path ≡ 0 = eqb-true m.path 0 e in
          rw e (ap (λ p. name_at scope p m.number) (sym (ap (path_at paths) first ∙ root)))
      | inr e ↦ rw e (other e (path_at paths m.path) refl)
    ]
  where
    other : nat_eq m.path 0 ≡ false → (p : List ℕ) → path_at paths m.path ≡ p → no_name ≡ name_at scope p m.number
    other e [] is = absurd (both_ways (nat_eq m.path 0) e (eq-eqb m.path 0 (distinct m.path 0 inside there (is ∙ sym root))))
    other e (k ∷ p) is = refl

pub names_are : (paths : List (List ℕ)) (scope : List (List ℕ)) (ms : List Mark) → AreDistinct paths → path_at paths 0 ≡ [] → 0 < length paths → AreBelow (length paths) ms → map (mark_name scope) ms ≡ names_in scope (origins_of paths ms)
names_are paths scope [] distinct root there below = refl
names_are paths scope (m ∷ ms) distinct root there below =
    rw (mark_is paths scope m distinct root there below.0) (ap (λ ns. name_at scope (path_at paths m.path) m.number ∷ ns) (names_are paths scope ms distinct root there below.1))

-- the names of all once none is left
pub names_done : (names scope : List (List ℕ)) (ms : List Mark) (i : ℕ) → names ++ map (mark_name scope) (drop i ms) ≡ map (mark_name scope) ms → length ms ≤ i → names ≡ map (mark_name scope) ms
names_done names scope ms i e h = sym (none_after names) ∙ (ap (λ us. names ++ map (mark_name scope) us) (sym (none_left ms i h)) ∙ e)
  where
    none_after : (ns : List (List ℕ)) → ns ++ [] ≡ ns
    none_after [] = refl
    none_after (n ∷ ns) = ap (λ us. n ∷ us) (none_after ns)

    none_left : (us : List Mark) (i : ℕ) → length us ≤ i → drop i us ≡ []
    none_left [] zero h = refl
    none_left [] (suc i) h = refl
    none_left (u ∷ us) zero h = absurd (omega (arith, h))
    none_left (u ∷ us) (suc i) h = none_left us i (omega (arith, h))
