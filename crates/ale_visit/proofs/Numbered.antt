-- Kids of a choice, one after another.
use Rattle.std.proofs.Common.{◌≡◌, ℕ, zero, suc, ◌+◌, ◌<◌, List, [], ◌∷◌, ◌++◌, map, take, get_or, length, refl, sym, ap, ◌∙◌, add-one, arith}
use Rattle.std.proofs.Math.Seq.{take-suc}
use Rattle.std.proofs.lemmas.List.{map-append}
use Rattle.ale_logic.specs.declared.desc.Desc.{Desc}
use Rattle.ale_logic.specs.Descriptions.{description, descriptions_of}
use Rattle.ale_logic.specs.DescriptionKids.{alternatives}
use Rattle.ale_logic.specs.GoalKids.{goal_alternatives, by_clause, clause_kids}
use Rattle.ale_logic.specs.States as plain
use Rattle.ale_logic.specs.States.{holds, on, derive, doing, chosen, numbered}
use Rattle.ale_program.specs.declared.goal.Goal.{Goal}
use Rattle.ale_program.specs.declared.clause.Clause.{Clause}
use Rattle.ale_program.specs.Goals.{goal_data, goals_of}
use Rattle.ale_program.specs.Views.{clause_data}
use Rattle.ale_visit.specs.declared.state.State.{State}
use Rattle.ale_visit.specs.Views.{state_of, states_of}

-- one more, with the next number
more : {A : Type 0} (f : A → plain.State) (k : ℕ) (ds : List A) (d : A) → numbered k (map f (ds ++ d ∷ [])) ≡ numbered k (map f ds) ++ chosen (k + length ds) (f d) ∷ []
more f k [] d = ap (λ (i : ℕ). chosen i (f d) ∷ []) (omega arith)
more f k (x ∷ ds) d =
    let number : suc k + length ds ≡ k + suc (length ds) = omega arith in
    ap (λ z. chosen k (f x) ∷ z) (more f (suc k) ds d) ∙ ap (λ (i : ℕ). chosen k (f x) ∷ (numbered (suc k) (map f ds) ++ chosen i (f d) ∷ [])) number

-- one more state is that of one more choice
pub one_more : {A : Type 0} (f : A → plain.State) (ds : List A) (d : A) (kids : List State) (kid : State) → states_of kids ≡ numbered 0 (map f ds) → state_of kid ≡ chosen (length ds) (f d) → states_of (kids ++ kid ∷ []) ≡ numbered 0 (map f (ds ++ d ∷ []))
one_more f ds d kids kid so is =
    let number : 0 + length ds ≡ length ds = omega arith in
    map-append state_of kids (kid ∷ [])
    ∙ ap (λ z. z ++ state_of kid ∷ []) so
    ∙ ap (λ z. numbered 0 (map f ds) ++ z ∷ []) is
    ∙ ap (λ (i : ℕ). numbered 0 (map f ds) ++ chosen i (f d) ∷ []) (sym number)
    ∙ sym (more f 0 ds d)

-- the first k and the next are the first k + 1
pub up_to : {A : Type 0} (ds : List A) (k : ℕ) (d : A) → k < length ds → d ≡ get_or ds k d → take k ds ++ d ∷ [] ≡ take (k + 1) ds
up_to ds k d low is = ap (λ z. take k ds ++ z ∷ []) is ∙ sym (take-suc ds k d low) ∙ ap (λ i. take i ds) (sym (add-one k))

-- the state for a description, for a goal, for a clause
abbrev pub by_desc : plain.State → ℕ → ℕ → Desc → plain.State
by_desc st e n d = doing (on n (holds e (description d))) st

abbrev pub by_goal : plain.State → ℕ → ℕ → Goal → plain.State
by_goal st e c g = doing (derive e c (goal_data g)) st

abbrev pub with_clause : plain.State → ℕ → List ℕ → Clause → plain.State
with_clause st waiting ns c = by_clause waiting ns (clause_data c) st

pub those : (st : plain.State) (e n : ℕ) (ds : List Desc) → map (by_desc st e n) ds ≡ alternatives e n (descriptions_of (map description ds)) st
those st e n [] = refl
those st e n (d ∷ ds) = ap (λ z. by_desc st e n d ∷ z) (those st e n ds)

pub those_goals : (st : plain.State) (e c : ℕ) (gs : List Goal) → map (by_goal st e c) gs ≡ goal_alternatives e c (goals_of (map goal_data gs)) st
those_goals st e c [] = refl
those_goals st e c (g ∷ gs) = ap (λ z. by_goal st e c g ∷ z) (those_goals st e c gs)

pub those_clauses : (st : plain.State) (waiting : ℕ) (ns : List ℕ) (cs : List Clause) → map (with_clause st waiting ns) cs ≡ clause_kids waiting ns (map clause_data cs) st
those_clauses st waiting ns [] = refl
those_clauses st waiting ns (c ∷ cs) = ap (λ z. with_clause st waiting ns c ∷ z) (those_clauses st waiting ns cs)
