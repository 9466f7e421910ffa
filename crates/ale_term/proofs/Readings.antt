-- What a call that reads exactly answers, in the words of the grammar; and that lexemes have one reading.
use Rattle.std.proofs.Common.{◌≡◌, ℕ, Option, Some, None, Result, Ok, Err, List, [], IfOk, refl, sym, ap, ◌∙◌}
use Rattle.ale_term.specs.declared.error.ReadError.{ReadError}
use Rattle.ale_term.specs.declared.lexeme.Lexeme.{Lexeme}
use Rattle.ale_term.specs.Results.{Gives}
use Rattle.ale_term.specs.Terms.{TermData}
use Rattle.ale_term.specs.Goals.{GoalData}
use Rattle.ale_term.specs.Grammar.{IsDescription, IsPart, IsCall, IsGoal, IsGoalPart}
use Rattle.ale_term.specs.Follows.{EndsSimple, EndsPart, EndsDescription, EndsGoalPart, EndsGoal}
use Rattle.ale_term.proofs.Full.{description_read, element_read, call_read}
use Rattle.ale_term.proofs.FullGoals.{goal_read, goal_element_read}

-- what is answered is so, where each thing that is read is so
pub found : {A B : Type 0} (view : A → B) (result : Result A ReadError) (read : Option B) (Is : B → Type 0) →
    Gives view result read → ((b : B) → read ≡ Some b → Is b) → IfOk result (λ a. Is (view a))
found view (Ok a) read Is given sound = sound (view a) given
found view (Err e) read Is given sound = tt

-- nothing follows where the lexemes end
simple_ends : EndsSimple []
simple_ends = record { no_colon = refl; no_round = refl }

part_ends : EndsPart []
part_ends = record { simple = simple_ends; no_same_path = refl }

description_ends : EndsDescription []
description_ends = record { conjunction = record { part = part_ends; no_comma = refl }; no_semicolon = refl }

goal_part_ends : EndsGoalPart []
goal_part_ends = record { simple = simple_ends; no_equals = refl }

goal_ends : EndsGoal []
goal_ends = record { conjunction = record { part = goal_part_ends; no_comma = refl }; no_then = refl; no_semicolon = refl }

-- what was read, or something else
abbrev read_or : {A : Type 0} → A → Option (A × List Lexeme) → A
read_or a None = a
read_or a (Some p) = p.0

same_read : {A : Type 0} (a b : A) (o : Option (A × List Lexeme)) (rest : List Lexeme) → o ≡ Some (a, rest) → o ≡ Some (b, rest) → a ≡ b
same_read a b o rest e f = sym (ap (read_or a) e) ∙ ap (read_or a) f

pub one_description : {xs : List Lexeme} {t u : TermData} → IsDescription xs t → IsDescription xs u → t ≡ u
one_description {xs} {t} {u} d e = same_read t u _ [] (description_read d [] description_ends) (description_read e [] description_ends)

pub one_element : {xs : List Lexeme} {t u : TermData} → IsPart xs t → IsPart xs u → t ≡ u
one_element {xs} {t} {u} d e = same_read t u _ [] (element_read d [] part_ends) (element_read e [] part_ends)

pub one_call : {xs : List Lexeme} {m n : List ℕ} {ts us : List TermData} → IsCall xs m ts → IsCall xs n us → (m ≡ n) × (ts ≡ us)
one_call {xs} {m} {n} {ts} {us} d e =
    let first : List ℕ × List TermData = (m, ts) in
    let second : List ℕ × List TermData = (n, us) in
    let q : first ≡ second = same_read first second _ [] (call_read d [] refl) (call_read e [] refl) in
    (ap (λ c. c.0) q, ap (λ c. c.1) q)

pub one_goal : {xs : List Lexeme} {g h : GoalData} → IsGoal xs g → IsGoal xs h → g ≡ h
one_goal {xs} {g} {h} d e = same_read g h _ [] (goal_read d [] goal_ends) (goal_read e [] goal_ends)

pub one_goal_element : {xs : List Lexeme} {g h : GoalData} → IsGoalPart xs g → IsGoalPart xs h → g ≡ h
one_goal_element {xs} {g} {h} d e = same_read g h _ [] (goal_element_read d [] goal_part_ends) (goal_element_read e [] goal_part_ends)
