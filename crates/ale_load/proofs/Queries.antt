-- Descriptions that are asked for one after the other: what was found stands before what the others give.
use Rattle.std.proofs.Common.{◌≡◌, ℕ, suc, ◌+◌, List, [], ◌∷◌, ◌++◌, Some, None, Result, Ok, Err, refl, sym, ap, ◌∙◌, append_assoc}
use Rattle.ale_term.specs.Terms.{TermData}
use Rattle.ale_vocabulary.specs.declared.error.NameError.{NameError}
use Rattle.ale_describe.specs.Limits.{parts_of}
use Rattle.ale_command.specs.Commands.{CommandData}
use Rattle.ale_load.specs.Grammars.{LoadedData}
use Rattle.ale_load.specs.Commands.{asked, QueryData, Refused, asked_after, with_query, first_asked, query_with, queries_after}

abbrev pub before : List QueryData → Result (List QueryData) Refused → Result (List QueryData) Refused
before qs (Ok rest) = Ok (qs ++ rest)
before qs (Err r) = Err r

pub before_none : (r : Result (List QueryData) Refused) → before [] r ≡ r
before_none (Ok qs) = refl
before_none (Err r) = refl

before_more : (qs : List QueryData) (q : QueryData) (r : Result (List QueryData) Refused) → before qs (with_query q r) ≡ before (qs ++ q ∷ []) r
before_more qs q (Ok rest) = ap (λ z. let r : Result (List QueryData) Refused = Ok z in r) (sym (append_assoc qs (q ∷ []) rest))
before_more qs q (Err r) = refl

module _ (l : LoadedData) (k so_far : ℕ) (qs : List QueryData) (c : CommandData) (cs : List CommandData) where
  -- nothing is asked
  pub none_asked : asked c ≡ None → before qs (queries_after l k so_far (c ∷ cs)) ≡ before qs (queries_after l (suc k) so_far cs)
  none_asked e = ap (λ o. before qs (query_with l k so_far o (λ n. queries_after l (suc k) n cs))) e

  asked_is : (t : TermData) (r : Result QueryData NameError) → asked c ≡ Some t → asked_after l so_far t ≡ r →
      before qs (queries_after l k so_far (c ∷ cs)) ≡ before qs (first_asked k r (queries_after l (suc k) (so_far + parts_of l.signature_of l.names t) cs))
  asked_is t r e f =
      ap (λ o. before qs (query_with l k so_far o (λ n. queries_after l (suc k) n cs))) e
      ∙ ap (λ z. before qs (first_asked k z (queries_after l (suc k) (so_far + parts_of l.signature_of l.names t) cs))) f

  -- a query is found
  pub one_found : (t : TermData) (q : QueryData) (n : ℕ) → asked c ≡ Some t → asked_after l so_far t ≡ Ok q → n ≡ so_far + parts_of l.signature_of l.names t →
      before qs (queries_after l k so_far (c ∷ cs)) ≡ before (qs ++ q ∷ []) (queries_after l (suc k) n cs)
  one_found t q n e f same =
      asked_is t (Ok q) e f ∙ before_more qs q (queries_after l (suc k) (so_far + parts_of l.signature_of l.names t) cs)
      ∙ ap (λ z. before (qs ++ q ∷ []) (queries_after l (suc k) z cs)) (sym same)

  -- it is refused
  pub one_refused : (t : TermData) (x : NameError) → asked c ≡ Some t → asked_after l so_far t ≡ Err x → before qs (queries_after l k so_far (c ∷ cs)) ≡ Err (k, x)
  one_refused t x e f = asked_is t (Err x) e f
