-- How the search up to its first answer goes on with each visit.
use Rattle.std.proofs.Common.{◌≡◌, false, eqb, ℕ, zero, suc, ◌-◌, ◌<◌, ◌≤◌, List, [], ◌∷◌, ◌++◌, length, drop, inl, inr, refl, sym, ap, ◌∙◌, subst, arith}
use Rattle.ale_declared.specs.Lists.{Has}
use Rattle.ale_hierarchy.specs.Hierarchy.{IsLawful}
use Rattle.ale_hierarchy.specs.Order.{hierarchy}
use Rattle.ale_graph.proofs.Lists.{has_either}
use Rattle.ale_engine.specs.Engine.{Visit, answers, goes, moved, last, or_on, next_answer, found, ended, spent}
use Rattle.ale_logic.specs.Fitting.{FitsProgram}
use Rattle.ale_logic.specs.Runs.{AreStates}
use Rattle.ale_logic.specs.States.{State}
use Rattle.ale_logic.specs.Steps.{IsGrammar, StepLaws}
use Rattle.ale_logic.specs.Visits.{Answer, visit}
use Rattle.ale_logic.specs.WellFormed.{IsState}
use Rattle.ale_logic.specs.Words.{Grammar}
use Rattle.ale_program.specs.declared.parts.Parts.{Parts}
use Rattle.ale_program.specs.Views.{program}
use Rattle.ale_visit.specs.declared.state.State as stack
use Rattle.ale_visit.specs.Views.{grammar, state_of}
use Rattle.ale_search.specs.Waiting.{waiting_of}
use Rattle.ale_search.proofs.Stacked.{first_waiting}

-- the grammar of a program that fits a lawful signature
pub is_grammar : (p : Parts) → IsLawful (hierarchy p.signature) → FitsProgram (hierarchy p.signature) (program p) → IsGrammar (grammar p)
is_grammar p law fits = record { lawful = law; program = fits; words = λ e has. elim has [ inl q ↦ absurd q | inr q ↦ absurd q ] }

-- what comes of what waits is what comes of the first states, and each that waits is a state
pub record Underway (gr : Grammar) (budget : ℕ) (first : List State) (left : ℕ) (waiting : List State) : Type 0 where
  pub same : next_answer (visit gr) left waiting ≡ next_answer (visit gr) budget first
  pub states : AreStates gr waiting
  pub low : left ≤ budget

pub at_first : (gr : Grammar) (budget : ℕ) (first : List State) → AreStates gr first → Underway gr budget first budget first
at_first gr budget first states = record { same = refl; states = states; low = omega arith }

-- the last of the stack waits first
pub popped : (gr : Grammar) (budget : ℕ) (first : List State) (left : ℕ) (ws below : List stack.State) (x : stack.State) → ws ≡ below ++ x ∷ [] → Underway gr budget first left (waiting_of ws) → Underway gr budget first left (state_of x ∷ waiting_of below)
popped gr budget first left ws below x e u = subst (Underway gr budget first left) (ap waiting_of e ∙ first_waiting below x) u

counted : (left : ℕ) → 0 < left → suc (left - 1) ≡ left
counted left some = omega arith

-- one visit of the first
one : (gr : Grammar) (left : ℕ) (st : State) (rest : List State) (v : Visit State Answer) → v ≡ visit gr (length rest) st → or_on (next_answer (visit gr) left) left (moved rest v) (moved rest v).found ≡ next_answer (visit gr) (suc left) (st ∷ rest)
one gr left st rest v e = ap (λ z. or_on (next_answer (visit gr) left) left (moved rest z) (moved rest z).found) e

so_on : (gr : Grammar) (budget : ℕ) (first : List State) (left : ℕ) (st : State) (rest : List State) (v : Visit State Answer) → 0 < left → Underway gr budget first left (st ∷ rest) → v ≡ visit gr (length rest) st → or_on (next_answer (visit gr) (left - 1)) (left - 1) (moved rest v) (moved rest v).found ≡ next_answer (visit gr) budget first
so_on gr budget first left st rest v some u e =
    one gr (left - 1) st rest v e ∙ ap (λ n. next_answer (visit gr) n (st ∷ rest)) (counted left some) ∙ u.same

-- at an answer
pub answered : (gr : Grammar) (budget : ℕ) (first : List State) (left : ℕ) (st : State) (rest : List State) (a : Answer) → 0 < left → Underway gr budget first left (st ∷ rest) → answers a ≡ visit gr (length rest) st → found a rest (left - 1) ≡ next_answer (visit gr) budget first
answered gr budget first left st rest a some u e = so_on gr budget first left st rest (answers a) some u e

-- what is left of a list was in it
has_dropped : {A : Type 0} (n : ℕ) (xs : List A) (x : A) → Has (drop n xs) x → Has xs x
has_dropped zero xs x has = has
has_dropped (suc n) [] x has = has
has_dropped (suc n) (y ∷ xs) x has = inr (has_dropped n xs x has)

-- the states that a visit puts in place of one
kids_are : StepLaws → (gr : Grammar) → IsGrammar gr → (waiting : ℕ) (st : State) (n : ℕ) (ks : List State) → IsState gr.signature st → goes n ks ≡ visit gr waiting st → (kid : State) → Has ks kid → IsState gr.signature kid
kids_are steps gr is waiting st n ks state e kid has = ((steps gr waiting st is state).kids_are_states kid (record { stay = n; kids = ks; goes_on = e; has = has })).is

-- after a state that goes on, where the last n of those that wait stay
pub gone : StepLaws → (gr : Grammar) → IsGrammar gr → (budget : ℕ) (first : List State) (left : ℕ) (st : State) (rest : List State) (n : ℕ) (ks : List State) → 0 < left → Underway gr budget first left (st ∷ rest) → goes n ks ≡ visit gr (length rest) st → Underway gr budget first (left - 1) (ks ++ last n rest)
gone steps gr is budget first left st rest n ks some u e = record {
  same = so_on gr budget first left st rest (goes n ks) some u e;
  states = λ x p. elim (has_either ks (last n rest) x p) [
    | inl q ↦ kids_are steps gr is (length rest) st n ks (u.states st (inl refl)) e x q
    | inr q ↦ u.states x (inr (has_dropped (length rest - n) rest x q))
  ];
  low = let l = u.low in omega arith;
}

-- where nothing waits
pub at_end : (gr : Grammar) (budget : ℕ) (first : List State) (left : ℕ) (waiting : List State) → length waiting ≡ 0 → Underway gr budget first left waiting → ended left ≡ next_answer (visit gr) budget first
at_end gr budget first left [] none u = u.same
at_end gr budget first left (x ∷ xs) none u = absurd (omega arith)

pub not_none : (n : ℕ) → eqb n 0 ≡ false → 0 < n
not_none zero differs = absurd cc
not_none (suc n) differs = omega arith

-- where something waits and no visit is left
pub at_budget : (gr : Grammar) (budget : ℕ) (first : List State) (left : ℕ) (waiting : List State) → 0 < length waiting → left ≡ 0 → Underway gr budget first left waiting → spent waiting ≡ next_answer (visit gr) budget first
at_budget gr budget first left [] some none u = absurd (omega arith)
at_budget gr budget first left (x ∷ xs) some none u = sym (ap (λ n. next_answer (visit gr) n (x ∷ xs)) none) ∙ u.same

pub one_state : (gr : Grammar) (st : State) → IsState gr.signature st → AreStates gr (st ∷ [])
one_state gr st is x has = elim has [ inl e ↦ subst (IsState gr.signature) (sym e) is | inr q ↦ absurd q ]
