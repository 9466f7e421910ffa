-- Templates made one after another: those made and those that are left give all.
use Rattle.std.proofs.Common.{◌≡◌, ℕ, suc, ◌+◌, ◌<◌, ◌≤◌, List, [], ◌∷◌, ◌++◌, map, drop, get_or, length, refl, sym, ap, ◌∙◌, subst, add-one, drop-cons}
use Rattle.std.proofs.Math.ListN.{drop_of_length-le}
use Rattle.std.proofs.lemmas.List.{map-append}
use Rattle.ale_relation.specs.Has.{Has}
use Rattle.ale_declared.specs.Declarations.{Declared}
use Rattle.ale_declared.specs.Names.{number}
use Rattle.ale_term.specs.declared.term.Term.{Term}
use Rattle.ale_term.specs.declared.term.Term.TheVariants as written
use Rattle.ale_term.specs.Terms as terms
use Rattle.ale_term.specs.Terms.{TermsData, macro, terms_of, term_data}
use Rattle.ale_term.proofs.Terms.{term_macro}
use Rattle.ale_vocabulary.specs.Keys.{key}
use Rattle.ale_vocabulary.specs.Mentions as mentions
use Rattle.ale_vocabulary.specs.Vocabularies.{VocabularyData}
use Rattle.ale_macro.specs.declared.template.Template.{Template}
use Rattle.ale_macro.specs.Templates.{TemplateData, TemplatesData, none, more, call, how_many, templates_of, template_data}
use Rattle.ale_macro.specs.declared.template.Template.TheVariants as of
use Rattle.ale_macro.specs.Codes.{data_call}
use Rattle.ale_describe.specs.Known.{IsKnownTerm, AreKnownTerms, HaveAll}
use Rattle.ale_describe.specs.Templating.{templated, all_templated}
use Rattle.ale_describe.specs.Variables.{anonymous}

-- as many as in the list
pub how_many_terms : (terms : List Term) → mentions.how_many (terms_of (map term_data terms)) ≡ length terms
how_many_terms [] = refl
how_many_terms (t ∷ ts) = ap suc (how_many_terms ts)

pub ruleset length_rules = (how_many_terms)

-- these before the others
abbrev pub prepended : List TemplateData → TemplatesData → TemplatesData
prepended [] ts = ts
prepended (x ∷ xs) ts = more x (prepended xs ts)

prepended_none : (xs : List TemplateData) → prepended xs none ≡ templates_of xs
prepended_none [] = refl
prepended_none (x ∷ xs) = ap (more x) (prepended_none xs)

prepended_push : (xs : List TemplateData) (x : TemplateData) (ts : TemplatesData) → prepended (xs ++ x ∷ []) ts ≡ prepended xs (more x ts)
prepended_push [] x ts = refl
prepended_push (y ∷ ys) x ts = ap (more y) (prepended_push ys x ts)

-- templates, and the variables after them
abbrev pub Made : Type 0
Made = TemplatesData × List (List ℕ)

abbrev pub behind : List TemplateData → Made → Made
behind xs p = (prepended xs p.0, p.1)

-- what the terms from place i on give
abbrev pub left : Declared → VocabularyData → List (List ℕ) → List Term → ℕ → Made
left d v vs terms i = all_templated d v vs (terms_of (map term_data (drop i terms)))

pub front : {A : Type 0} (xs : List A) (i : ℕ) (x : A) → i < length xs → x ≡ get_or xs i x → drop i xs ≡ x ∷ drop (i + 1) xs
front xs i x low is = drop-cons xs i x low ∙ ap (λ z. z ∷ drop (suc i) xs) (sym is) ∙ ap (λ j. x ∷ drop j xs) (sym (add-one i))

-- the first of them and then the others
abbrev step : Declared → VocabularyData → List Term → ℕ → TemplateData × List (List ℕ) → Made
step d v terms i p = (more p.0 (left d v p.1 terms i).0, (left d v p.1 terms i).1)

here : (d : Declared) (v : VocabularyData) (vs : List (List ℕ)) (terms : List Term) (i : ℕ) (t : Term) → i < length terms → t ≡ get_or terms i t →
    left d v vs terms i ≡ step d v terms (i + 1) (templated d v vs (term_data t))
here d v vs terms i t low is = ap (λ z. all_templated d v vs (terms_of (map term_data z))) (front terms i t low is)

pub one_more : (d : Declared) (v : VocabularyData) (vs us : List (List ℕ)) (terms : List Term) (i : ℕ) (t : Term) (made made' : List Template) (x : Template) (whole : Made) →
    i < length terms → t ≡ get_or terms i t → behind (map template_data made) (left d v vs terms i) ≡ whole →
    (template_data x, us) ≡ templated d v vs (term_data t) → made' ≡ made ++ x ∷ [] →
    behind (map template_data made') (left d v us terms (i + 1)) ≡ whole
one_more d v vs us terms i t made made' x whole low is so_far gives push =
    ap (λ z. behind z (left d v us terms (i + 1))) (ap (map template_data) push ∙ map-append template_data made (x ∷ []))
    ∙ ap (λ z. (z, (left d v us terms (i + 1)).1)) (prepended_push (map template_data made) (template_data x) (left d v us terms (i + 1)).0)
    ∙ ap (λ p. behind (map template_data made) (step d v terms (i + 1) p)) gives
    ∙ ap (behind (map template_data made)) (sym (here d v vs terms i t low is))
    ∙ so_far

pub all_done : (d : Declared) (v : VocabularyData) (vs : List (List ℕ)) (terms : List Term) (i : ℕ) (made : List Template) (whole : Made) →
    length terms ≤ i → behind (map template_data made) (left d v vs terms i) ≡ whole → (templates_of (map template_data made), vs) ≡ whole
all_done d v vs terms i made whole out so_far =
    ap (λ z. (z, vs)) (sym (prepended_none (map template_data made)))
    ∙ ap (λ z. behind (map template_data made) (all_templated d v vs (terms_of (map term_data z)))) (sym (drop_of_length-le terms out))
    ∙ so_far

-- what is known of those that are left
pub known_here : (d : Declared) (v : VocabularyData) (terms : List Term) (i : ℕ) (t : Term) → i < length terms → t ≡ get_or terms i t →
    AreKnownTerms d v (terms_of (map term_data (drop i terms))) → IsKnownTerm d v (term_data t) × AreKnownTerms d v (terms_of (map term_data (drop (i + 1) terms)))
known_here d v terms i t low is known = subst (λ z. AreKnownTerms d v (terms_of (map term_data z))) (front terms i t low is) known

pub names_here : (names xs : List (List ℕ)) (i : ℕ) (x : List ℕ) → i < length xs → x ≡ get_or xs i x → HaveAll names (drop i xs) → HaveAll names (x ∷ drop (i + 1) xs)
names_here names xs i x low is known = subst (HaveAll names) (front xs i x low is) known

-- as many templates as descriptions
pub as_many : (d : Declared) (v : VocabularyData) (vs : List (List ℕ)) (ts : TermsData) → how_many (all_templated d v vs ts).0 ≡ mentions.how_many ts
as_many d v vs terms.none = refl
as_many d v vs (terms.more t ts) = ap suc (as_many d v (templated d v vs t).1 ts)

-- a macro call
pub macro_known : (d : Declared) (v : VocabularyData) (term : Term) (n : List ℕ) (ts : List Term) (arity : ℕ) → term ≡ written.Macro n ts → arity ≡ length ts →
    IsKnownTerm d v (term_data term) → Has v.macros (key n arity)
macro_known d v term n ts arity is count known =
    let k : IsKnownTerm d v (macro n (terms_of (map term_data ts))) = subst (IsKnownTerm d v) (ap term_data is ∙ term_macro n ts) known in
    subst (λ a. Has v.macros (key n a)) (how_many_terms ts ∙ sym count) k.0

pub macro_made : (d : Declared) (v : VocabularyData) (vs us ws : List (List ℕ)) (term : Term) (n : List ℕ) (ts : List Term) (arity place called : ℕ) (args : List Template) →
    term ≡ written.Macro n ts → arity ≡ length ts → place ≡ length vs → called ≡ number v.macros (key n arity) → us ≡ vs ++ anonymous ∷ [] →
    (templates_of (map template_data args), ws) ≡ all_templated d v us (terms_of (map term_data ts)) →
    (template_data (of.Call place called args), ws) ≡ templated d v vs (term_data term)
macro_made d v vs us ws term n ts arity place called args is count at_place number_is after made =
    ap (λ z. (z, ws)) (data_call place called args)
    ∙ ap (λ p. (call place called p.0, p.1)) made
    ∙ ap (λ z. (call place called (all_templated d v z (terms_of (map term_data ts))).0, (all_templated d v z (terms_of (map term_data ts))).1)) after
    ∙ ap (λ z. (call z called (args_of vs).0, (args_of vs).1)) at_place
    ∙ ap (λ z. (call (length vs) z (args_of vs).0, (args_of vs).1)) (number_is ∙ ap (λ a. number v.macros (key n a)) (count ∙ sym (how_many_terms ts)))
    ∙ ap (templated d v vs) (sym (ap term_data is ∙ term_macro n ts))
  where
    args_of : List (List ℕ) → Made
    args_of zs = all_templated d v (zs ++ anonymous ∷ []) (terms_of (map term_data ts))
