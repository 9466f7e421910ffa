-- The queries that commands ask for are what the function gives; they speak of what is known.
use Rattle.std.proofs.Common.{◌≡◌, ℕ, suc, ◌+◌, List, [], ◌∷◌, Option, Some, None, Result, Ok, Err, Bool, true, false, refl, sym, ap, ◌∙◌, subst}
use Rattle.std.specs.Prelude.{◌&&◌}
use Rattle.std.proofs.lemmas.List.{length-map}
use Rattle.ale_hierarchy.specs.Order.{hierarchy}
use Rattle.ale_logic.specs.Descriptions.{FitsDescription}
use Rattle.ale_term.specs.Terms.{TermData}
use Rattle.ale_vocabulary.specs.First.{AllRight, first_of}
use Rattle.ale_vocabulary.specs.Knowing.{IsUnknown, unknown_in}
use Rattle.ale_vocabulary.specs.Laws.{FirstIsFound}
use Rattle.ale_vocabulary.specs.Mentions.{mentions}
use Rattle.ale_vocabulary.specs.declared.error.NameError.{NameError}
use Rattle.ale_describe.specs.Scopes.{new_scope, name_of_slot}
use Rattle.ale_describe.specs.Describing.{described}
use Rattle.ale_describe.specs.Laws.{DescribeLaw, LimitsLaw}
use Rattle.ale_describe.specs.PlainLaws.{PlainLaw}
use Rattle.ale_describe.proofs.Knowing.{known_term}
use Rattle.ale_describe.specs.Limits.{parts_of, sum_after}
use Rattle.ale_stage.specs.Stages.{stage, since, is_built, goal_is_built, command_is_built}
use Rattle.ale_command.specs.Commands.{CommandData, mgsat, query, lex, rec, gen, code}
use Rattle.ale_load.specs.Reading.{first_without}
use Rattle.ale_load.specs.Grammars.{LoadedData, FitsLoaded}
use Rattle.ale_load.specs.Commands.{asked, QueryData, query_of, Refused, FitsQuery, AllFit, IsAsked, is_query, is_unknown, is_too_big, AreAsked, none_left, one_more, later_refused, one_refused, within_limits, known, asked_after, with_query, first_asked, query_with, queries_after}
use Rattle.ale_load.proofs.Plain.{both_of, all_with, plain_term}

-- what one description asks for
module _ (firsts : FirstIsFound) (limits : LimitsLaw) (l : LoadedData) (so_far : ℕ) (t : TermData) where
  pub one_given : (r : Result QueryData NameError) → IsAsked l so_far t r → asked_after l so_far t ≡ r
  one_given r (is_query right within) =
      ap (known l so_far t) ((firsts l.signature_of l.names.vocabulary (mentions t)).none.1 right)
      ∙ ap (within_limits l t) ((limits l.signature_of l.names so_far (t ∷ [])).given within)
  one_given r (is_unknown e first) = ap (known l so_far t) (((firsts l.signature_of l.names.vocabulary (mentions t)).first e).1 first)
  one_given r (is_too_big right not_within) =
      ap (known l so_far t) ((firsts l.signature_of l.names.vocabulary (mentions t)).none.1 right)
      ∙ ap (within_limits l t) ((limits l.signature_of l.names so_far (t ∷ [])).none.1 not_within)

  limits_made : (o : Option ℕ) → sum_after l.signature_of l.names (Some so_far) (t ∷ []) ≡ o → AllRight (IsUnknown l.signature_of l.names.vocabulary) (mentions t) →
      IsAsked l so_far t (within_limits l t o)
  limits_made (Some n) e right = is_query right ((limits l.signature_of l.names so_far (t ∷ [])).found n e).0
  limits_made None e right = is_too_big right ((limits l.signature_of l.names so_far (t ∷ [])).none.0 e)

  known_made : (o : Option NameError) → first_of (unknown_in l.signature_of l.names.vocabulary) (mentions t) ≡ o → IsAsked l so_far t (known l so_far t o)
  known_made (Some e) is = is_unknown e (((firsts l.signature_of l.names.vocabulary (mentions t)).first e).0 is)
  known_made None is =
      limits_made (sum_after l.signature_of l.names (Some so_far) (t ∷ [])) refl ((firsts l.signature_of l.names.vocabulary (mentions t)).none.0 is)

  pub one_made : IsAsked l so_far t (asked_after l so_far t)
  one_made = known_made (first_of (unknown_in l.signature_of l.names.vocabulary) (mentions t)) refl

-- goals, words, sentences and listings are built at a later stage
not_yet : (b : Bool) (n : ℕ) → since n ≡ false → (b && since n) ≡ true → ⊥
not_yet b n off h = let e : true ≡ false = sym (both_of b (since n) h).1 ∙ off in absurd cc

no_query : since 5 ≡ false
unfolding stage
no_query = refl

no_word : since 8 ≡ false
unfolding stage
no_word = refl

no_sentence : since 9 ≡ false
unfolding stage
no_sentence = refl

no_generation : since 10 ≡ false
unfolding stage
no_generation = refl

no_listing : since 12 ≡ false
unfolding stage
no_listing = refl

-- a command that is built asks for a description that is built
pub record AsksBuilt (c : CommandData) : Type 0 where
  pub term : TermData
  pub asks : asked c ≡ Some term
  pub built : is_built term ≡ true

pub asks_built : (c : CommandData) → command_is_built c ≡ true → AsksBuilt c
asks_built (mgsat t) h = record { term = t; asks = refl; built = (both_of (is_built t) (since 2) h).0 }
asks_built (query g) h = absurd (not_yet (goal_is_built g) 5 no_query h)
asks_built (lex w) h = absurd (not_yet true 8 no_word h)
asks_built (rec ws) h = absurd (not_yet true 9 no_sentence h)
asks_built (gen t) h = absurd (not_yet (is_built t) 10 no_generation h)
asks_built (code p n) h = absurd (not_yet true 12 no_listing h)

module _ (firsts : FirstIsFound) (limits : LimitsLaw) (l : LoadedData) where
  -- what the first command asks for
  first_is : (k so_far : ℕ) (c : CommandData) (cs : List CommandData) (t : TermData) (r : Result QueryData NameError) (later : Result (List QueryData) Refused) →
      asked c ≡ Some t → asked_after l so_far t ≡ r → queries_after l (suc k) (so_far + parts_of l.signature_of l.names t) cs ≡ later →
      queries_after l k so_far (c ∷ cs) ≡ first_asked k r later
  first_is k so_far c cs t r later e f g =
      ap (λ o. query_with l k so_far o (λ n. queries_after l (suc k) n cs)) e
      ∙ ap (λ q. first_asked k q (queries_after l (suc k) (so_far + parts_of l.signature_of l.names t) cs)) f
      ∙ ap (first_asked k r) g

  pub asked_given : (k so_far : ℕ) (cs : List CommandData) (r : Result (List QueryData) Refused) → AreAsked l k so_far cs r → queries_after l k so_far cs ≡ r
  asked_given k so_far cs r (none_left j n) = refl
  asked_given k so_far cs r (one_more j n c rest t q qs e is later) =
      first_is j n c rest t (Ok q) (Ok qs) e (one_given firsts limits l n t (Ok q) is)
      (asked_given (suc j) (n + parts_of l.signature_of l.names t) rest (Ok qs) later)
  asked_given k so_far cs r (later_refused j n c rest t q x e is later) =
      first_is j n c rest t (Ok q) (Err x) e (one_given firsts limits l n t (Ok q) is)
      (asked_given (suc j) (n + parts_of l.signature_of l.names t) rest (Err x) later)
  asked_given k so_far cs r (one_refused j n c rest t x e is) =
      first_is j n c rest t (Err x) (queries_after l (suc j) (n + parts_of l.signature_of l.names t) rest) e (one_given firsts limits l n t (Err x) is) refl

  with_later : (k so_far : ℕ) (c : CommandData) (cs : List CommandData) (t : TermData) → asked c ≡ Some t → (q : QueryData) → IsAsked l so_far t (Ok q) →
      (later : Result (List QueryData) Refused) → AreAsked l (suc k) (so_far + parts_of l.signature_of l.names t) cs later → AreAsked l k so_far (c ∷ cs) (with_query q later)
  with_later k so_far c cs t e q is (Ok qs) are = one_more k so_far c cs t q qs e is are
  with_later k so_far c cs t e q is (Err x) are = later_refused k so_far c cs t q x e is are

  first_made : (k so_far : ℕ) (c : CommandData) (cs : List CommandData) (t : TermData) → asked c ≡ Some t → (r : Result QueryData NameError) → IsAsked l so_far t r →
      (later : Result (List QueryData) Refused) → AreAsked l (suc k) (so_far + parts_of l.signature_of l.names t) cs later → AreAsked l k so_far (c ∷ cs) (first_asked k r later)
  first_made k so_far c cs t e (Ok q) is later are = with_later k so_far c cs t e q is later are
  first_made k so_far c cs t e (Err x) is later are = one_refused k so_far c cs t x e is

  -- of commands that are all built
  pub asked_made : (k so_far : ℕ) (cs : List CommandData) → first_without command_is_built k cs ≡ None → AreAsked l k so_far cs (queries_after l k so_far cs)
  asked_made k so_far [] h = none_left k so_far
  asked_made k so_far (c ∷ cs) h =
      let a = all_with command_is_built k c cs h in
      let b = asks_built c a.0 in
      let n = so_far + parts_of l.signature_of l.names b.term in
      subst (AreAsked l k so_far (c ∷ cs))
      (sym (first_is k so_far c cs b.term (asked_after l so_far b.term) (queries_after l (suc k) n cs) b.asks refl refl))
      (first_made k so_far c cs b.term b.asks (asked_after l so_far b.term) (one_made firsts limits l so_far b.term) (queries_after l (suc k) n cs) (asked_made (suc k) n cs a.1))

-- they speak of types, features and variables that are there
module _ (describes : DescribeLaw) (plains : PlainLaw) (l : LoadedData) (fits : FitsLoaded l) where
  query_fits : (t : TermData) → AllRight (IsUnknown l.signature_of l.names.vocabulary) (mentions t) → is_built t ≡ true → FitsQuery (hierarchy l.signature_of) (query_of l t)
  query_fits t right built =
      let is = known_term l.signature_of l.names.vocabulary t right in
      let scope = (described l.signature_of l.names new_scope t).1 in
      record {
        fits = subst (λ n. FitsDescription (hierarchy l.signature_of) n (described l.signature_of l.names new_scope t).0)
            (sym (length-map scope.slots (name_of_slot scope.written)))
            (describes.descriptions l.signature_of l.names new_scope t fits.names is).fits;
        plain = plains.descriptions l.signature_of l.names new_scope t (record { library = fits.names.library; keys = fits.names.keys; bodies = fits.plain }) is (plain_term t built);
      }

  one_fits : (so_far : ℕ) (t : TermData) (r : Result QueryData NameError) (q : QueryData) → IsAsked l so_far t r → r ≡ Ok q → is_built t ≡ true → FitsQuery (hierarchy l.signature_of) q
  one_fits so_far t r q (is_query right within) e built = let f : query_of l t ≡ q = cc in subst (FitsQuery (hierarchy l.signature_of)) f (query_fits t right built)
  one_fits so_far t r q (is_unknown x first) e built = absurd cc
  one_fits so_far t r q (is_too_big right not_within) e built = absurd cc

  -- the one description that a command asks for is built
  built_asked : (c : CommandData) (t : TermData) → command_is_built c ≡ true → asked c ≡ Some t → is_built t ≡ true
  built_asked c t h e =
      let b = asks_built c h in
      let same : Some b.term ≡ Some t = sym b.asks ∙ e in
      let f : b.term ≡ t = cc in subst (λ z. is_built z ≡ true) f b.built

  pub asked_fit : (k so_far : ℕ) (cs : List CommandData) (r : Result (List QueryData) Refused) (qs : List QueryData) → first_without command_is_built k cs ≡ None →
      AreAsked l k so_far cs r → r ≡ Ok qs → AllFit (hierarchy l.signature_of) qs
  asked_fit k so_far cs r qs h (none_left j n) e = let f : [] ≡ qs = cc in subst (AllFit (hierarchy l.signature_of)) f tt
  asked_fit k so_far cs r qs h (one_more j n c rest t q us asks is later) e =
      let f : q ∷ us ≡ qs = cc in
      let a = all_with command_is_built j c rest h in
      subst (AllFit (hierarchy l.signature_of)) f
      (one_fits n t (Ok q) q is refl (built_asked c t a.0 asks), asked_fit (suc j) (n + parts_of l.signature_of l.names t) rest (Ok us) us a.1 later refl)
  asked_fit k so_far cs r qs h (later_refused j n c rest t q x asks is later) e = absurd cc
  asked_fit k so_far cs r qs h (one_refused j n c rest t x asks is) e = absurd cc
