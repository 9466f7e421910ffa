-- The whole sample program fits its signature, and is inside the fragment.
use Rattle.std.proofs.Common.{◌≡◌, sym, subst, ap, refl, ℕ, zero, suc, ◌<◌, Option, Some, None, List, [], ◌∷◌, inl, inr, arith}
use Rattle.std.specs.Prelude.{get_or, codes}
use Rattle.std.proofs.lemmas.Bool.{false≢true}
use Rattle.std.proofs.lemmas.List.{get_or_past}
use Rattle.ale_declared.specs.Lists.{Has}
use Rattle.ale_logic.specs.Descriptions.{of_type, at, none, more, FitsDescription}
use Rattle.ale_logic.specs.Goals.{yes, IsPlain}
use Rattle.ale_logic.specs.Programs.{Clause, Constraint, WordDeclaration, EmptyDeclaration, LexicalRule, Element, Rule, cat, cats, sem_head, ListTypes, goal_of}
use Rattle.ale_logic.specs.Fitting.{FitsClause, FitsConstraint, FitsElement, FitsRule, FitsLexicalRule, FitLists, FitsProgram, IsPlainElement, IsPlainProgram}
use Rattle.ale_logic.specs.Answers.{IsAccepted}
use Rattle.ale_worked.specs.Sample.{sample, sem, np, vp, s, list_types}
use Rattle.ale_worked.specs.Grammars.{clauses, sem_of, fact, content_is_ok, kim_alone, word_of, kim_word, walks_word, unspoken, lengthening, sentence, with_list, meaning, X, one_np, whole}
use Rattle.ale_worked.specs.Premises.{PremisesAreMet}
use Rattle.ale_worked.proofs.Lawful.{sample_is_lawful}

module _ {A : Type 0} (P : A → Type 0) where
  for_none : (x : A) → Has [] x → P x
  for_none x h = absurd h

  for_more : (y : A) (ys : List A) → P y → ((x : A) → Has ys x → P x) → (x : A) → Has (y ∷ ys) x → P x
  for_more y ys here later x (inl e) = subst P (sym e) here
  for_more y ys here later x (inr h) = later x h

  for_one : (y : A) → P y → (x : A) → Has (y ∷ []) x → P x
  for_one y here = for_more y [] here for_none

  for_two : (y z : A) → P y → P z → (x : A) → Has (y ∷ z ∷ []) x → P x
  for_two y z here next = for_more y (z ∷ []) here (for_one z next)

meaning_fits : (t slots v : ℕ) → t < 11 → v < 11 → FitsDescription sample slots (meaning t (of_type v))
meaning_fits t slots v low inside = (low, ((omega arith, inside), tt))

meaning_of_X : (t : ℕ) → t < 11 → FitsDescription sample 1 (meaning t X)
meaning_of_X t low = (low, ((omega arith, omega arith), tt))

fact_fits : (t : ℕ) → t < 11 → FitsClause sample (fact t)
fact_fits t low = record { args = (low, tt); body = tt }

abbrev only_clause : Clause
only_clause = record { args = more (at sem X) (more X none); body = yes; slots = 1 }

-- of each predicate; past the second there are no clauses
abbrev AreClauses : (Clause → Type 0) → List (List Clause) → Type 0
AreClauses P preds = (p : ℕ) (c : Clause) → Has (get_or preds p []) c → P c

are_clauses : (P : Clause → Type 0) → ((c : Clause) → Has sem_of c → P c) → ((c : Clause) → Has (fact 9 ∷ fact 10 ∷ []) c → P c) → AreClauses P clauses
are_clauses P first second zero c h = first c h
are_clauses P first second (suc zero) c h = second c h
are_clauses P first second (suc (suc p)) c h = absurd (subst (λ (cs : List Clause). Has cs c) (get_or_past clauses (suc (suc p)) [] (omega arith)) h)

abbrev AreFitting : List Element → Type 0
AreFitting es = (e : Element) → Has es e → FitsElement sample 1 e

fits : FitsProgram sample whole
fits = record {
  clauses =
      are_clauses (FitsClause sample) (for_one (FitsClause sample) only_clause (record { args = ((omega arith, omega arith), (omega arith, tt)); body = tt }))
      (for_two (FitsClause sample) (fact 9) (fact 10) (fact_fits 9 (omega arith)) (fact_fits 10 (omega arith)));
  constraints =
      for_two (FitsConstraint sample) content_is_ok kim_alone (record { of = omega arith; desc = (omega arith, omega arith); goal = (omega arith, tt) })
      (record { of = omega arith; desc = (omega arith, omega arith); goal = tt });
  rules =
      for_two (FitsRule sample) sentence with_list
      (record {
        mother = meaning_of_X s (omega arith);
        elements = for_two (FitsElement sample 1) (cat (of_type np)) (sem_head (meaning vp X)) (omega arith) (meaning_of_X vp (omega arith));
        daughter = (cat (of_type np), inl refl, tt);
        one_head = omega arith;
      })
      (record {
        mother = meaning_of_X s (omega arith);
        elements = for_two (FitsElement sample 1) (sem_head (meaning vp X)) (cats one_np) (meaning_of_X vp (omega arith)) ((omega arith, omega arith), ((omega arith, omega arith), tt));
        daughter = (cats one_np, inr (inl refl), tt);
        one_head = omega arith;
      });
  words =
      for_two (λ (w : WordDeclaration). FitsDescription sample w.slots w.desc) (word_of kim_word np 9) (word_of walks_word vp 10) (meaning_fits np 0 9 (omega arith) (omega arith))
      (meaning_fits vp 0 10 (omega arith) (omega arith));
  empties = for_one (λ (e : EmptyDeclaration). FitsDescription sample e.slots e.desc) unspoken (meaning_fits np 0 9 (omega arith) (omega arith));
  lex_rules = for_one (FitsLexicalRule sample) (lengthening (codes "s") vp s) (record { input = meaning_of_X vp (omega arith); output = meaning_of_X s (omega arith); goal = tt });
  lists = λ l e. subst (FitLists sample) (some_is l e) (record { e_list = omega arith; ne_list = omega arith; hd = (omega arith, refl); tl = (omega arith, refl) });
}
  where
    or_lists : Option ListTypes → ListTypes
    or_lists None = list_types
    or_lists (Some l) = l

    some_is : (l : ListTypes) → Some list_types ≡ Some l → list_types ≡ l
    some_is l e = ap (λ (o : Option ListTypes). or_lists o) e

plain : IsPlainProgram whole
plain = record {
  clauses = are_clauses (λ (c : Clause). IsPlain c.body) (for_one (λ (c : Clause). IsPlain c.body) only_clause tt) (for_two (λ (c : Clause). IsPlain c.body) (fact 9) (fact 10) tt tt);
  constraints = for_two (λ (c : Constraint). IsPlain (goal_of c.goal)) content_is_ok kim_alone tt tt;
  rules =
      for_two (λ (r : Rule). (e : Element) → Has r.elements e → IsPlainElement e) sentence with_list (for_two IsPlainElement (cat (of_type np)) (sem_head (meaning vp X)) tt tt)
      (for_two IsPlainElement (sem_head (meaning vp X)) (cats one_np) tt tt);
  lex_rules = for_one (λ (r : LexicalRule). IsPlain (goal_of r.goal)) (lengthening (codes "s") vp s) tt;
}

accepted : IsAccepted sample whole
accepted = record { lawful = sample_is_lawful; fits = fits; plain = plain }

pub premises_are_met : PremisesAreMet
premises_are_met = record {
  accepted = accepted;
  grammar = record { lawful = sample_is_lawful; program = fits; words = λ e h. elim h [ inl k ↦ absurd k | inr k ↦ absurd k ] };
  keeps = λ lawful before x e. absurd (false≢true (sym e));
}
