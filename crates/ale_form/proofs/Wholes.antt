-- What is read where nothing stands behind it is what the lexemes are.
use Rattle.std.proofs.Common.{◌≡◌, ◌↔◌, ℕ, Option, Some, List, [], ◌∷◌, ◌++◌, refl, sym, ap, ◌∙◌, subst}
use Rattle.std.proofs.lemmas.List.{append-nil}
use Rattle.ale_term.specs.declared.lexeme.Lexeme.{Lexeme}
use Rattle.ale_term.specs.Terms.{TermData}
use Rattle.ale_term.specs.Goals.{GoalData}
use Rattle.ale_term.specs.Grammar.{IsPath, IsDescription, IsGoal}
use Rattle.ale_term.specs.Follows.{EndsSimple, EndsDescription, EndsGoal}
use Rattle.ale_term.specs.Reading.{◌>>=◌, path_at, description_at, goal_at}
use Rattle.ale_term.proofs.Fronts.{IsSound, bind_some, sound_path}
use Rattle.ale_term.proofs.Full.{full_path, description_read}
use Rattle.ale_term.proofs.FullGoals.{goal_read}
use Rattle.ale_term.proofs.Sound.{sound_description}
use Rattle.ale_term.proofs.SoundGoals.{sound_whole_goal}
use Rattle.ale_form.specs.Whole.{ended, whole, path_of, description_of, goal_of}

-- nothing is left
pub nothing_left : (ls : List Lexeme) (u : Unit {0}) → ended ls ≡ Some u → ls ≡ []
nothing_left [] u e = refl
nothing_left (l ∷ ls) u e = cc

-- what is read and ends is all
pub sound_whole : {A : Type 0} (One : List Lexeme → A → Type 0) (one : List Lexeme → Option (A × List Lexeme)) → IsSound One one →
    (ls : List Lexeme) (a : A) → whole (one ls) ≡ Some a → One ls a
sound_whole {A} One one sound ls a e =
    let x = bind_some (one ls) (λ x. ended x.1 >>= λ end. Some x.0) a e in
    let u = bind_some (ended x.0.1) (λ end. Some x.0.0) a (x.2) in
    let q : x.0.0 ≡ a = cc (u.2) in
    let f = sound ls (x.0) (x.1) in
    let all : ls ≡ f.0 = f.1 ∙ ap (λ rest. f.0 ++ rest) (nothing_left (x.0.1) (u.0) (u.1)) ∙ append-nil (f.0) in
    subst (One ls) q (subst (λ zs. One zs x.0.0) (sym all) (f.2))

-- what is read whatever follows is read where nothing does
pub full_whole : {A : Type 0} (one : List Lexeme → Option (A × List Lexeme)) (ls : List Lexeme) (a : A) →
    one (ls ++ []) ≡ Some (a, []) → whole (one ls) ≡ Some a
full_whole {A} one ls a e =
    let read : one ls ≡ Some (a, []) = ap one (sym (append-nil ls)) ∙ e in rw read refl

simple_ends : EndsSimple []
simple_ends = record { no_colon = refl; no_round = refl }

description_ends : EndsDescription []
description_ends = record { conjunction = record { part = record { simple = simple_ends; no_same_path = refl }; no_comma = refl }; no_semicolon = refl }

goal_ends : EndsGoal []
goal_ends = record { conjunction = record { part = record { simple = simple_ends; no_equals = refl }; no_comma = refl }; no_then = refl; no_semicolon = refl }

pub description_reads : (ls : List Lexeme) (t : TermData) → IsDescription ls t ↔ description_of ls ≡ Some t
description_reads ls t =
    (λ d. full_whole description_at ls t (description_read d [] description_ends), sound_whole IsDescription description_at sound_description ls t)

pub goal_reads : (ls : List Lexeme) (g : GoalData) → IsGoal ls g ↔ goal_of ls ≡ Some g
goal_reads ls g = (λ d. full_whole goal_at ls g (goal_read d [] goal_ends), sound_whole IsGoal goal_at sound_whole_goal ls g)

pub path_reads : (ls : List Lexeme) (ns : List (List ℕ)) → IsPath ls ns ↔ path_of ls ≡ Some ns
path_reads ls ns = (λ d. full_whole path_at ls ns (full_path d []), sound_whole IsPath path_at sound_path ls ns)
