-- The first fault of goals and of elements of rules.
use Rattle.std.proofs.Common.{◌≡◌, ℕ, Option, None, List, ◌∷◌, ◌++◌, map, length, refl, sym, ap, ◌∙◌}
use Rattle.std.proofs.lemmas.List.{length-map}
use Rattle.ale_term.specs.declared.term.Term.{Term}
use Rattle.ale_term.specs.declared.goal_term.GoalTerm.{GoalTerm}
use Rattle.ale_term.specs.declared.goal_term.GoalTerm.TheVariants as w
use Rattle.ale_term.specs.Terms.{terms_of, term_data}
use Rattle.ale_term.specs.Goals.{GoalData, goal_data, goals_of}
use Rattle.ale_term.proofs.Terms.{goal_call}
use Rattle.ale_declaration.specs.declared.declaration.Part.{Part}
use Rattle.ale_declaration.specs.Declarations.{element_data}
use Rattle.ale_vocabulary.specs.declared.error.NameError.{NameError}
use Rattle.ale_vocabulary.specs.First.{first_of, or_else}
use Rattle.ale_vocabulary.specs.Keys.{key}
use Rattle.ale_vocabulary.specs.Mentions.{Mention, predicate, mentions_of_all, mentions_of_each, mentions_of_goal, mentions_of_goals, mentions_of_element, mentions_of_elements}
use Rattle.ale_vocabulary.proofs.Firsts.{each_of_all}

-- a predicate's name before its arguments
call_first : (f : Mention → Option NameError) (p : List ℕ) (ts : List Term) →
    first_of f (mentions_of_goal (goal_data (w.Call p ts))) ≡ or_else (f (predicate p (length ts))) (first_of f (mentions_of_all (terms_of (map term_data ts))))
call_first f p ts =
    ap (λ (g : GoalData). first_of f (mentions_of_goal g)) (goal_call p ts)
    ∙ ap (λ (k : ℕ). or_else (f (predicate p k)) (first_of f (mentions_of_each (map term_data ts)))) (length-map ts term_data)
    ∙ ap (λ (ms : List Mention). or_else (f (predicate p (length ts))) (first_of f ms)) (each_of_all (map term_data ts))

pub call_goes : (f : Mention → Option NameError) (g : GoalTerm) (p : List ℕ) (ts us : List Term) (k : ℕ) (o : Option NameError) → g ≡ w.Call p ts → k ≡ length ts →
    o ≡ f (predicate p k) → o ≡ None → us ≡ ts → first_of f (mentions_of_all (terms_of (map term_data us))) ≡ first_of f (mentions_of_goal (goal_data g))
call_goes f g p ts us k o is count told missing same =
    ap (λ (zs : List Term). first_of f (mentions_of_all (terms_of (map term_data zs)))) same
    ∙ sym
    (ap (λ (h : GoalTerm). first_of f (mentions_of_goal (goal_data h))) is ∙ call_first f p ts
    ∙ ap (λ (z : Option NameError). or_else z (first_of f (mentions_of_all (terms_of (map term_data ts))))) (ap (λ (j : ℕ). f (predicate p j)) (sym count) ∙ sym told ∙ missing))

-- goals one after the other
abbrev pub mentions_of_proved : GoalTerm → List Mention
mentions_of_proved g = mentions_of_goal (goal_data g)

abbrev pub mentions_of_all_proved : List GoalTerm → List Mention
mentions_of_all_proved gs = mentions_of_goals (goals_of (map goal_data gs))

pub goal_parts : (g : GoalTerm) (gs : List GoalTerm) → mentions_of_all_proved (g ∷ gs) ≡ mentions_of_proved g ++ mentions_of_all_proved gs
goal_parts g gs = refl

-- elements one after the other
abbrev pub mentions_of_part : Part → List Mention
mentions_of_part p = mentions_of_element (element_data p)

abbrev pub mentions_of_parts : List Part → List Mention
mentions_of_parts ps = mentions_of_elements (map element_data ps)

pub element_parts : (p : Part) (ps : List Part) → mentions_of_parts (p ∷ ps) ≡ mentions_of_part p ++ mentions_of_parts ps
element_parts p ps = refl
