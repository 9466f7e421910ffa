-- Sums of parts, one description after another.
use Rattle.std.proofs.Common.{◌≡◌, ℕ, ◌+◌, ◌<◌, ◌≤◌, Option, Some, None, List, [], ◌∷◌, ◌++◌, length, get_or, drop, map, refl, sym, ap, subst, ◌∙◌, inl, inr, arith}
use Rattle.std.specs.Option.{option_map}
use Rattle.std.proofs.Math.ListN.{drop_of_length-le}
use Rattle.std.proofs.lemmas.Bool.{le-leb}
use Rattle.std.proofs.lemmas.Bool.Decides.{leb_tells}
use Rattle.ale_declared.specs.Declarations.{Declared}
use Rattle.ale_term.specs.declared.term.Term.{Term}
use Rattle.ale_term.specs.Terms.{TermData, term_data}
use Rattle.ale_term.specs.declared.goal_term.GoalTerm.{GoalTerm}
use Rattle.ale_term.specs.Goals.{goal_data, goals_of}
use Rattle.ale_vocabulary.specs.Vocabularies.{VocabularyData}
use Rattle.ale_macro.specs.Templates.{TemplateData}
use Rattle.ale_macro.specs.Calls.{CallsKnown}
use Rattle.ale_macro.specs.Expansions.{within_limits}
use Rattle.ale_macro.specs.Expanding.{LibraryData, expansion}
use Rattle.ale_describe.specs.Known.{IsKnownTerm}
use Rattle.ale_describe.specs.Names.{NamesData, HaveKeys}
use Rattle.ale_describe.specs.Templating.{templated}
use Rattle.ale_describe.specs.Limits.{whole, with_parts, if_within_all, sum_after, descriptions_in, descriptions_in_all}
use Rattle.ale_describe.proofs.Loops.{front}
use Rattle.ale_describe.proofs.Knowing.{calls_known}

pub few : (n : ℕ) → n ≤ 4000000 → if_within_all (Some n) ≡ Some n
few n h = rw (le-leb n 4000000 h) refl

pub many : (n : ℕ) → 4000000 < n → if_within_all (Some n) ≡ None
many n h = elim (leb_tells n 4000000) [ inl q ↦ absurd (omega (arith, q.1)) | inr q ↦ rw (q.0) refl ]

pub none_stays : (d : Declared) (names : NamesData) (ts : List TermData) → sum_after d names None ts ≡ None
none_stays d names [] = refl
none_stays d names (t ∷ ts) = none_stays d names ts

pub too_many : (d : Declared) (names : NamesData) (n : ℕ) (ts : List TermData) → 4000000 < n → sum_after d names (Some n) ts ≡ None
too_many d names n [] h = many n h
too_many d names n (t ∷ ts) h = go (within_limits (whole d names t)) (λ k. too_many d names (n + k) ts (omega arith))
  where
    go : (o : Option ℕ) → ((k : ℕ) → sum_after d names (Some (n + k)) ts ≡ None) → sum_after d names (option_map (λ k. n + k) o) ts ≡ None
    go None later = none_stays d names ts
    go (Some k) later = later k

-- the limit of all may be looked at anywhere
looked_at : (d : Declared) (names : NamesData) (o : Option ℕ) (ts : List TermData) → sum_after d names (if_within_all o) ts ≡ sum_after d names o ts
looked_at d names None ts = refl
looked_at d names (Some n) ts = elim (leb_tells n 4000000) [
  | inl q ↦ ap (λ z. sum_after d names z ts) (few n q.1)
  | inr q ↦ ap (λ z. sum_after d names z ts) (many n q.1) ∙ none_stays d names ts ∙ sym (too_many d names n ts q.1)
]

pub sum_append : (d : Declared) (names : NamesData) (o : Option ℕ) (ts us : List TermData) → sum_after d names o (ts ++ us) ≡ sum_after d names (sum_after d names o ts) us
sum_append d names o [] us = sym (looked_at d names o us)
sum_append d names o (t ∷ ts) us = sum_append d names (with_parts d names o t) ts us

pub ruleset sum_rules = (sum_append)

-- two descriptions
sum_two : (d : Declared) (names : NamesData) (o : Option ℕ) (t : TermData) (us : List TermData) → sum_after d names o (t ∷ us) ≡ sum_after d names (sum_after d names o (t ∷ [])) us
sum_two d names o t us = sum_append d names o (t ∷ []) us

pub two_sums : (d : Declared) (names : NamesData) (o between more : Option ℕ) (t u : TermData) → between ≡ sum_after d names o (t ∷ []) → more ≡ sum_after d names between (u ∷ []) →
    more ≡ sum_after d names o (t ∷ u ∷ [])
two_sums d names o between more t u first second = second ∙ ap (λ z. sum_after d names z (u ∷ [])) first ∙ sym (sum_two d names o t (u ∷ []))

-- one description, by its template
pub measurable : (d : Declared) (names : NamesData) (t : TermData) (v : VocabularyData) (l : LibraryData) (vs us : List (List ℕ)) (x : TemplateData) → v ≡ names.vocabulary → l ≡ names.library →
    HaveKeys names.vocabulary.macros names.library.macros → IsKnownTerm d names.vocabulary t → (x, us) ≡ templated d v vs t → CallsKnown l.macros x
measurable d names t v l vs us x same_v same_l keys known made =
    subst (λ (z : LibraryData). CallsKnown z.macros x) (sym same_l)
    (subst (CallsKnown names.library.macros) (sym (ap (λ p. p.0) (made ∙ ap (λ w. templated d w vs t) same_v)))
    (calls_known d names.vocabulary names.library.macros vs t keys known))

pub one_sum : (d : Declared) (names : NamesData) (n : ℕ) (t : TermData) (v : VocabularyData) (l : LibraryData) (vs us : List (List ℕ)) (x : TemplateData) (parts sum : Option ℕ) →
    v ≡ names.vocabulary → l ≡ names.library → vs ≡ [] → (x, us) ≡ templated d v vs t → parts ≡ within_limits (expansion l x) → sum ≡ if_within_all (option_map (λ k. n + k) parts) →
    sum ≡ sum_after d names (Some n) (t ∷ [])
one_sum d names n t v l vs us x parts sum same_v same_l none made measured added =
    added
    ∙ ap (λ o. if_within_all (option_map (λ k. n + k) o)) measured
    ∙ ap (λ (z : LibraryData). if_within_all (option_map (λ k. n + k) (within_limits (expansion z x)))) same_l
    ∙ ap (λ p. if_within_all (option_map (λ k. n + k) (within_limits (expansion names.library p.0)))) made
    ∙ ap (λ w. if_within_all (option_map (λ k. n + k) (within_limits (expansion names.library (templated d w vs t).0)))) same_v
    ∙ ap (λ z. if_within_all (option_map (λ k. n + k) (within_limits (expansion names.library (templated d names.vocabulary z t).0)))) none

-- those from place i on
pub each_step : (d : Declared) (names : NamesData) (s : Option ℕ) (terms : List Term) (i : ℕ) (t : Term) (o whole : Option ℕ) → i < length terms → t ≡ get_or terms i t →
    sum_after d names s (map term_data (drop i terms)) ≡ whole → o ≡ sum_after d names s (term_data t ∷ []) →
    sum_after d names o (map term_data (drop (i + 1) terms)) ≡ whole
each_step d names s terms i t o whole low is so_far gives =
    ap (λ z. sum_after d names z (map term_data (drop (i + 1) terms))) gives
    ∙ sym (sum_two d names s (term_data t) (map term_data (drop (i + 1) terms)))
    ∙ sym (ap (λ z. sum_after d names s (map term_data z)) (front terms i t low is))
    ∙ so_far

pub each_end : (d : Declared) (names : NamesData) (s : Option ℕ) (terms : List Term) (i : ℕ) (whole : Option ℕ) → length terms ≤ i →
    sum_after d names s (map term_data (drop i terms)) ≡ whole → if_within_all s ≡ whole
each_end d names s terms i whole out so_far = sym (ap (λ z. sum_after d names s (map term_data z)) (drop_of_length-le terms out)) ∙ so_far

-- the same of goals
abbrev pub goals_sum : Declared → NamesData → Option ℕ → List GoalTerm → Option ℕ
goals_sum d names o goals = sum_after d names o (descriptions_in_all (goals_of (map goal_data goals)))

pub goals_step : (d : Declared) (names : NamesData) (s : Option ℕ) (goals : List GoalTerm) (i : ℕ) (g : GoalTerm) (o whole : Option ℕ) → i < length goals → g ≡ get_or goals i g →
    goals_sum d names s (drop i goals) ≡ whole → o ≡ sum_after d names s (descriptions_in (goal_data g)) →
    goals_sum d names o (drop (i + 1) goals) ≡ whole
goals_step d names s goals i g o whole low is so_far gives =
    ap (λ z. goals_sum d names z (drop (i + 1) goals)) gives
    ∙ sym (sum_append d names s (descriptions_in (goal_data g)) (descriptions_in_all (goals_of (map goal_data (drop (i + 1) goals)))))
    ∙ sym (ap (goals_sum d names s) (front goals i g low is))
    ∙ so_far

pub goals_end : (d : Declared) (names : NamesData) (s : Option ℕ) (goals : List GoalTerm) (i : ℕ) (whole : Option ℕ) → length goals ≤ i →
    goals_sum d names s (drop i goals) ≡ whole → if_within_all s ≡ whole
goals_end d names s goals i whole out so_far = sym (ap (goals_sum d names s) (drop_of_length-le goals out)) ∙ so_far
