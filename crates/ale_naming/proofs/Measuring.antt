-- The third round finds the first declaration with which descriptions are too large.
use Rattle.std.proofs.Common.{◌≡◌, ℕ, suc, ◌+◌, Option, Some, None, List, [], ◌∷◌, ◌++◌, refl, sym, ap, ◌∙◌, subst, arith}
use Rattle.ale_declared.specs.Declarations.{Declared}
use Rattle.ale_declaration.specs.Declarations.{DeclarationData}
use Rattle.ale_vocabulary.specs.declared.error.NameError.{NameError}
use Rattle.ale_vocabulary.specs.declared.error.NameError.TheVariants.{TooBig}
use Rattle.ale_describe.specs.Names.{NamesData}
use Rattle.ale_describe.specs.Limits.{parts_of_all, AreWithin, sum_after}
use Rattle.ale_describe.specs.Laws.{SumTells}
use Rattle.ale_describe.proofs.Limiting.{limits_law}
use Rattle.ale_naming.specs.Places.{Place, places_from}
use Rattle.ale_naming.specs.Faults.{Fault, descriptions_of, parts_in, IsTooBig}
use Rattle.ale_naming.specs.Rounds.{fault_at, too_big, round_three}
use Rattle.ale_naming.proofs.Firsts.{some_none, same_pair, Tells, Finds, finds_none, finds_more}

parts_with : (d : Declared) (names : NamesData) (before : List DeclarationData) (x : DeclarationData) → parts_in d names (before ++ x ∷ []) ≡ parts_in d names before + parts_of_all d names (descriptions_of x)
parts_with d names [] x = omega arith
parts_with d names (b ∷ bs) x = let rest : parts_in d names (bs ++ x ∷ []) ≡ parts_in d names bs + parts_of_all d names (descriptions_of x) = parts_with d names bs x in omega arith

module _ (d : Declared) (names : NamesData) where
  big_tells : (place : Place) (so_far : ℕ) → so_far ≡ parts_in d names place.before →
      Tells (fault_at place.number (too_big (sum_after d names (Some so_far) (descriptions_of place.declaration)))) (IsTooBig d names place)
  big_tells place so_far sum = go (sum_after d names (Some so_far) (descriptions_of place.declaration)) refl
    where
      tells : SumTells d names so_far (descriptions_of place.declaration)
      tells = limits_law d names so_far (descriptions_of place.declaration)

      there : AreWithin d names so_far (descriptions_of place.declaration) → AreWithin d names (parts_in d names place.before) (descriptions_of place.declaration)
      there w = subst (λ n. AreWithin d names n (descriptions_of place.declaration)) sum w

      back : AreWithin d names (parts_in d names place.before) (descriptions_of place.declaration) → AreWithin d names so_far (descriptions_of place.declaration)
      back w = subst (λ n. AreWithin d names n (descriptions_of place.declaration)) (sym sum) w

      go : (o : Option ℕ) → sum_after d names (Some so_far) (descriptions_of place.declaration) ≡ o → Tells (fault_at place.number (too_big o)) (IsTooBig d names place)
      go None e f = (
        λ q. record {
          number = ap (λ (p : Fault). p.0) (sym (same_pair place.number TooBig f q));
          too_big = ap (λ (p : Fault). p.1) (sym (same_pair place.number TooBig f q));
          not_within = λ w. tells.none.0 e (back w);
        },
        λ is. ap (λ (n : ℕ). Some (n, TooBig)) (sym is.number) ∙ ap (λ (x : NameError). Some (f.0, x)) (sym is.too_big),
      )
      go (Some n) e f = (λ q. absurd (some_none f (sym q)), λ is. absurd (is.not_within (there (tells.found n e).0)))

  pub three_finds : (k so_far : ℕ) (before xs : List DeclarationData) → so_far ≡ parts_in d names before → Finds (IsTooBig d names) (round_three d names k so_far xs) (places_from k before xs)
  three_finds k so_far before [] sum = finds_none (IsTooBig d names)
  three_finds k so_far before (x ∷ xs) sum =
      finds_more (IsTooBig d names) (fault_at k (too_big (sum_after d names (Some so_far) (descriptions_of x))))
      (round_three d names (suc k) (so_far + parts_of_all d names (descriptions_of x)) xs)
      (record { number = k; before = before; declaration = x }) (places_from (suc k) (before ++ x ∷ []) xs)
      (big_tells (record { number = k; before = before; declaration = x }) so_far sum)
      (λ none. three_finds (suc k) (so_far + parts_of_all d names (descriptions_of x)) (before ++ x ∷ []) xs (ap (λ n. n + parts_of_all d names (descriptions_of x)) sum ∙ sym (parts_with d names before x)))
