-- Descriptions and goals described one after another: those found and those that are left give all.
use Rattle.std.proofs.Common.{◌≡◌, ℕ, suc, ◌+◌, ◌<◌, ◌≤◌, List, [], ◌∷◌, ◌++◌, map, drop, get_or, length, refl, sym, ap, ◌∙◌, subst}
use Rattle.std.proofs.Math.ListN.{drop_of_length-le}
use Rattle.std.proofs.lemmas.List.{map-append}
use Rattle.ale_declared.specs.Declarations.{Declared}
use Rattle.ale_term.specs.declared.term.Term.{Term}
use Rattle.ale_term.specs.Terms.{term_data}
use Rattle.ale_term.specs.declared.goal_term.GoalTerm.{GoalTerm}
use Rattle.ale_term.specs.Goals as written
use Rattle.ale_vocabulary.specs.Vocabularies.{VocabularyData}
use Rattle.ale_logic.specs.declared.desc.Desc.{Desc}
use Rattle.ale_logic.specs.Descriptions.{Description, Descriptions, none, more, descriptions_of, description}
use Rattle.ale_logic.specs.Goals as plain
use Rattle.ale_logic.specs.Goals.{Goals, no_goal, and_goal}
use Rattle.ale_program.specs.declared.goal.Goal.{Goal}
use Rattle.ale_program.specs.Goals.{goal_data, goals_of}
use Rattle.ale_describe.specs.Known.{IsKnownTerm, AreKnownEach, IsKnownGoal, AreKnownGoals}
use Rattle.ale_describe.specs.Names.{NamesData}
use Rattle.ale_describe.specs.Scopes.{ScopeData}
use Rattle.ale_describe.specs.Describing.{described, each_described, goal_described, goals_described}
use Rattle.ale_describe.proofs.Loops.{front}

pub length_mapped : (terms : List Term) → length (map term_data terms) ≡ length terms
length_mapped [] = refl
length_mapped (t ∷ ts) = ap suc (length_mapped ts)

pub ruleset map_rules = (length_mapped)

-- descriptions

abbrev pub before : List Description → Descriptions → Descriptions
before [] ds = ds
before (x ∷ xs) ds = more x (before xs ds)

before_none : (xs : List Description) → before xs none ≡ descriptions_of xs
before_none [] = refl
before_none (x ∷ xs) = ap (more x) (before_none xs)

before_push : (xs : List Description) (x : Description) (ds : Descriptions) → before (xs ++ x ∷ []) ds ≡ before xs (more x ds)
before_push [] x ds = refl
before_push (y ∷ ys) x ds = ap (more y) (before_push ys x ds)

abbrev pub Found : Type 0
Found = Descriptions × ScopeData

abbrev pub found_before : List Description → Found → Found
found_before xs p = (before xs p.0, p.1)

abbrev pub each_left : Declared → NamesData → ScopeData → List Term → ℕ → Found
each_left d names scope terms i = each_described d names scope (map term_data (drop i terms))

abbrev step : Declared → NamesData → List Term → ℕ → Description × ScopeData → Found
step d names terms i p = (more p.0 (each_left d names p.1 terms i).0, (each_left d names p.1 terms i).1)

pub one_found : (d : Declared) (names : NamesData) (s u : ScopeData) (terms : List Term) (i : ℕ) (t : Term) (found found' : List Desc) (x : Desc) (whole : Found) →
    i < length terms → t ≡ get_or terms i t → found_before (map description found) (each_left d names s terms i) ≡ whole →
    (description x, u) ≡ described d names s (term_data t) → found' ≡ found ++ x ∷ [] →
    found_before (map description found') (each_left d names u terms (i + 1)) ≡ whole
one_found d names s u terms i t found found' x whole low is so_far gives push =
    ap (λ z. found_before z (each_left d names u terms (i + 1))) (ap (map description) push ∙ map-append description found (x ∷ []))
    ∙ ap (λ z. (z, (each_left d names u terms (i + 1)).1)) (before_push (map description found) (description x) (each_left d names u terms (i + 1)).0)
    ∙ ap (λ p. found_before (map description found) (step d names terms (i + 1) p)) gives
    ∙ ap (found_before (map description found)) (sym (ap (λ z. each_described d names s (map term_data z)) (front terms i t low is)))
    ∙ so_far

pub each_done : (d : Declared) (names : NamesData) (s : ScopeData) (terms : List Term) (i : ℕ) (found : List Desc) (whole : Found) →
    length terms ≤ i → found_before (map description found) (each_left d names s terms i) ≡ whole → (descriptions_of (map description found), s) ≡ whole
each_done d names s terms i found whole out so_far =
    ap (λ z. (z, s)) (sym (before_none (map description found)))
    ∙ ap (λ z. found_before (map description found) (each_described d names s (map term_data z))) (sym (drop_of_length-le terms out))
    ∙ so_far

pub each_known_here : (d : Declared) (v : VocabularyData) (terms : List Term) (i : ℕ) (t : Term) → i < length terms → t ≡ get_or terms i t →
    AreKnownEach d v (map term_data (drop i terms)) → IsKnownTerm d v (term_data t) × AreKnownEach d v (map term_data (drop (i + 1) terms))
each_known_here d v terms i t low is known = subst (λ z. AreKnownEach d v (map term_data z)) (front terms i t low is) known

-- goals

abbrev pub goals_before : List plain.Goal → Goals → Goals
goals_before [] gs = gs
goals_before (x ∷ xs) gs = and_goal x (goals_before xs gs)

goals_before_none : (xs : List plain.Goal) → goals_before xs no_goal ≡ goals_of xs
goals_before_none [] = refl
goals_before_none (x ∷ xs) = ap (and_goal x) (goals_before_none xs)

goals_before_push : (xs : List plain.Goal) (x : plain.Goal) (gs : Goals) → goals_before (xs ++ x ∷ []) gs ≡ goals_before xs (and_goal x gs)
goals_before_push [] x gs = refl
goals_before_push (y ∷ ys) x gs = ap (and_goal y) (goals_before_push ys x gs)

abbrev pub FoundGoals : Type 0
FoundGoals = Goals × ScopeData

abbrev pub goals_found_before : List plain.Goal → FoundGoals → FoundGoals
goals_found_before xs p = (goals_before xs p.0, p.1)

abbrev pub goals_left : Declared → NamesData → ScopeData → List GoalTerm → ℕ → FoundGoals
goals_left d names scope goals i = goals_described d names scope (written.goals_of (map written.goal_data (drop i goals)))

abbrev goal_step : Declared → NamesData → List GoalTerm → ℕ → plain.Goal × ScopeData → FoundGoals
goal_step d names goals i p = (and_goal p.0 (goals_left d names p.1 goals i).0, (goals_left d names p.1 goals i).1)

pub one_goal_found : (d : Declared) (names : NamesData) (s u : ScopeData) (goals : List GoalTerm) (i : ℕ) (g : GoalTerm) (found found' : List Goal) (x : Goal) (whole : FoundGoals) →
    i < length goals → g ≡ get_or goals i g → goals_found_before (map goal_data found) (goals_left d names s goals i) ≡ whole →
    (goal_data x, u) ≡ goal_described d names s (written.goal_data g) → found' ≡ found ++ x ∷ [] →
    goals_found_before (map goal_data found') (goals_left d names u goals (i + 1)) ≡ whole
one_goal_found d names s u goals i g found found' x whole low is so_far gives push =
    ap (λ z. goals_found_before z (goals_left d names u goals (i + 1))) (ap (map goal_data) push ∙ map-append goal_data found (x ∷ []))
    ∙ ap (λ z. (z, (goals_left d names u goals (i + 1)).1)) (goals_before_push (map goal_data found) (goal_data x) (goals_left d names u goals (i + 1)).0)
    ∙ ap (λ p. goals_found_before (map goal_data found) (goal_step d names goals (i + 1) p)) gives
    ∙ ap (goals_found_before (map goal_data found)) (sym (ap (λ z. goals_described d names s (written.goals_of (map written.goal_data z))) (front goals i g low is)))
    ∙ so_far

pub goals_done : (d : Declared) (names : NamesData) (s : ScopeData) (goals : List GoalTerm) (i : ℕ) (found : List Goal) (whole : FoundGoals) →
    length goals ≤ i → goals_found_before (map goal_data found) (goals_left d names s goals i) ≡ whole → (goals_of (map goal_data found), s) ≡ whole
goals_done d names s goals i found whole out so_far =
    ap (λ z. (z, s)) (sym (goals_before_none (map goal_data found)))
    ∙ ap (λ z. goals_found_before (map goal_data found) (goals_described d names s (written.goals_of (map written.goal_data z)))) (sym (drop_of_length-le goals out))
    ∙ so_far

pub goals_known_here : (d : Declared) (v : VocabularyData) (goals : List GoalTerm) (i : ℕ) (g : GoalTerm) → i < length goals → g ≡ get_or goals i g →
    AreKnownGoals d v (written.goals_of (map written.goal_data (drop i goals))) → IsKnownGoal d v (written.goal_data g) × AreKnownGoals d v (written.goals_of (map written.goal_data (drop (i + 1) goals)))
goals_known_here d v goals i g low is known = subst (λ z. AreKnownGoals d v (written.goals_of (map written.goal_data z))) (front goals i g low is) known
