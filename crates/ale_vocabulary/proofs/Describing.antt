-- The first fault of descriptions, form by form.
use Rattle.std.proofs.Common.{◌≡◌, ℕ, suc, ◌+◌, ◌<◌, Option, Some, None, List, [], ◌∷◌, ◌++◌, map, length, get_or, drop, drop-cons, add-one, refl, sym, ap, ◌∙◌}
use Rattle.ale_declared.specs.Declarations.{Declared}
use Rattle.ale_declared.specs.Names.{is_named}
use Rattle.ale_term.specs.declared.term.Term.{Term}
use Rattle.ale_term.specs.declared.term.Term.TheVariants as v
use Rattle.ale_term.specs.Terms.{TermData, terms_of, term_data}
use Rattle.ale_term.proofs.Terms.{term_macro, term_meet}
use Rattle.ale_vocabulary.specs.declared.error.NameError.{NameError}
use Rattle.ale_vocabulary.specs.declared.error.NameError.TheVariants.{UnknownFeature}
use Rattle.ale_vocabulary.specs.First.{first_of, or_else}
use Rattle.ale_vocabulary.specs.Keys.{key}
use Rattle.ale_vocabulary.specs.Knowing.{unless, unknown_in}
use Rattle.ale_vocabulary.specs.Mentions.{Mention, macro_call, feature, how_many, mentions, mentions_of_all}
use Rattle.ale_vocabulary.specs.Vocabularies.{VocabularyData}
use Rattle.ale_vocabulary.proofs.Firsts.{first_append, first_map}

how_many_terms : (ts : List Term) → how_many (terms_of (map term_data ts)) ≡ length ts
how_many_terms [] = refl
how_many_terms (t ∷ ts) = ap suc (how_many_terms ts)

-- a macro's name before its arguments
macro_first : (f : Mention → Option NameError) (n : List ℕ) (ts : List Term) →
    first_of f (mentions (term_data (v.Macro n ts))) ≡ or_else (f (macro_call n (length ts))) (first_of f (mentions_of_all (terms_of (map term_data ts))))
macro_first f n ts =
    ap (λ (t : TermData). first_of f (mentions t)) (term_macro n ts)
    ∙ ap (λ (k : ℕ). or_else (f (macro_call n k)) (first_of f (mentions_of_all (terms_of (map term_data ts))))) (how_many_terms ts)

macro_as : (f : Mention → Option NameError) (t : Term) (n : List ℕ) (ts : List Term) (k : ℕ) (o : Option NameError) → t ≡ v.Macro n ts → k ≡ length ts →
    o ≡ f (macro_call n k) → first_of f (mentions (term_data t)) ≡ or_else o (first_of f (mentions_of_all (terms_of (map term_data ts))))
macro_as f t n ts k o is count told =
    ap (λ (u : Term). first_of f (mentions (term_data u))) is ∙ macro_first f n ts
    ∙ ap (λ (z : Option NameError). or_else z (first_of f (mentions_of_all (terms_of (map term_data ts))))) (ap (λ (j : ℕ). f (macro_call n j)) (sym count) ∙ sym told)

pub macro_stops : (f : Mention → Option NameError) (t : Term) (n : List ℕ) (ts : List Term) (k : ℕ) (o : Option NameError) (e : NameError) → t ≡ v.Macro n ts → k ≡ length ts →
    o ≡ f (macro_call n k) → o ≡ Some e → Some e ≡ first_of f (mentions (term_data t))
macro_stops f t n ts k o e is count told some =
    sym (macro_as f t n ts k o is count told ∙ ap (λ (z : Option NameError). or_else z (first_of f (mentions_of_all (terms_of (map term_data ts))))) some)

pub macro_goes : (f : Mention → Option NameError) (t : Term) (n : List ℕ) (ts us : List Term) (k : ℕ) (o : Option NameError) → t ≡ v.Macro n ts → k ≡ length ts →
    o ≡ f (macro_call n k) → o ≡ None → us ≡ ts → first_of f (mentions_of_all (terms_of (map term_data us))) ≡ first_of f (mentions (term_data t))
macro_goes f t n ts us k o is count told missing same =
    ap (λ (zs : List Term). first_of f (mentions_of_all (terms_of (map term_data zs)))) same
    ∙ sym (macro_as f t n ts k o is count told ∙ ap (λ (z : Option NameError). or_else z (first_of f (mentions_of_all (terms_of (map term_data ts))))) missing)

-- the features of two paths
pub meet_first : (d : Declared) (w : VocabularyData) (t : Term) (p q : List (List ℕ)) → t ≡ v.Meet p q →
    or_else (first_of (λ (g : List ℕ). unless (is_named g d.features) (UnknownFeature g)) p) (first_of (λ (g : List ℕ). unless (is_named g d.features) (UnknownFeature g)) q) ≡ first_of (unknown_in d w) (mentions (term_data t))
meet_first d w t p q is =
    let f : Mention → Option NameError = unknown_in d w in
    sym
    (ap (λ (u : Term). first_of f (mentions (term_data u))) is
    ∙ ap (λ (u : TermData). first_of f (mentions u)) (term_meet p q)
    ∙ first_append f (map feature p) (map feature q)
    ∙ ap (λ (o : Option NameError). or_else o (first_of f (map feature q))) (first_map f feature p)
    ∙ ap (or_else (first_of (λ (g : List ℕ). f (feature g)) p)) (first_map f feature q))

-- Things one after the other.
module _ {A : Type 0} (f : Mention → Option NameError) (one : A → List Mention) (every : List A → List Mention) (parts : (x : A) (xs : List A) → every (x ∷ xs) ≡ one x ++ every xs) where
  each_first : (xs : List A) (i : ℕ) (x : A) → i < length xs → x ≡ get_or xs i x → first_of f (every (drop i xs)) ≡ or_else (first_of f (one x)) (first_of f (every (drop (i + 1) xs)))
  each_first xs i x below at =
      let front : drop i xs ≡ x ∷ drop (i + 1) xs = rw (add-one, drop-cons xs i x) (ap (λ (y : A). y ∷ drop (suc i) xs) (sym at)) in
      ap (λ (ys : List A). first_of f (every ys)) front
      ∙ ap (first_of f) (parts x (drop (i + 1) xs))
      ∙ first_append f (one x) (every (drop (i + 1) xs))

  pub each_stops : (xs : List A) (i : ℕ) (x : A) (o whole : Option NameError) (e : NameError) → i < length xs → x ≡ get_or xs i x → o ≡ first_of f (one x) → o ≡ Some e →
      first_of f (every (drop i xs)) ≡ whole → Some e ≡ whole
  each_stops xs i x o whole e below at told some so_far =
      sym (ap (λ (z : Option NameError). or_else z (first_of f (every (drop (i + 1) xs)))) (sym told ∙ some)) ∙ sym (each_first xs i x below at) ∙ so_far

  pub each_goes : (xs : List A) (i : ℕ) (x : A) (o whole : Option NameError) → i < length xs → x ≡ get_or xs i x → o ≡ first_of f (one x) → o ≡ None →
      first_of f (every (drop i xs)) ≡ whole → first_of f (every (drop (i + 1) xs)) ≡ whole
  each_goes xs i x o whole below at told missing so_far =
      sym (ap (λ (z : Option NameError). or_else z (first_of f (every (drop (i + 1) xs)))) (sym told ∙ missing)) ∙ sym (each_first xs i x below at) ∙ so_far

-- descriptions one after the other
abbrev pub mentions_of_term : Term → List Mention
mentions_of_term t = mentions (term_data t)

abbrev pub mentions_of_terms : List Term → List Mention
mentions_of_terms ts = mentions_of_all (terms_of (map term_data ts))

pub term_parts : (x : Term) (xs : List Term) → mentions_of_terms (x ∷ xs) ≡ mentions_of_term x ++ mentions_of_terms xs
term_parts x xs = refl
