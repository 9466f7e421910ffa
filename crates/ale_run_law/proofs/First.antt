-- The starts of a description, a goal and a generation are states; and what is known of an answer of a search that
-- starts with one state.
use Rattle.std.proofs.Common.{◌≡◌, ℕ, zero, suc, ◌+◌, ◌<◌, [], ◌∷◌, length, get_or, replicate, inl, inr, refl, sym, subst, arith, Option, Some, None}
use Rattle.std.proofs.lemmas.List.{length-replicate}
use Rattle.ale_declared.specs.Lists.{Has, sum_over}
use Rattle.ale_hierarchy.specs.Hierarchy.{Hierarchy, IsLawful}
use Rattle.ale_graph.specs.Structures.{Structure, IsStructure, count, type_of}
use Rattle.ale_graph.specs.Morphisms.{IsMorphismAside}
use Rattle.ale_graph.specs.Closure.{node_of}
use Rattle.ale_logic.specs.Descriptions.{Description, FitsDescription}
use Rattle.ale_logic.specs.Goals.{Goal, FitsGoal}
use Rattle.ale_logic.specs.Models.{MeetsAt}
use Rattle.ale_logic.specs.Words.{Grammar}
use Rattle.ale_logic.specs.States.{bound, State}
use Rattle.ale_logic.specs.Starts.{start, start_goal, start_gen}
use Rattle.ale_logic.specs.StartLaws.{IsStart, IsQuietStart}
use Rattle.ale_logic.specs.Visits.{Answer}
use Rattle.ale_logic.specs.WellFormed.{IsState, times_sought, times_found}
use Rattle.ale_logic.specs.Steps.{IsBrought, IsInFragment}
use Rattle.ale_logic.specs.Runs.{AreStates, AreInFragment, FreeSense, IsInto, Returns, IsAnswer, ComesFrom}

abbrev unbound : Option ℕ
unbound = None

none_there : (slots v : ℕ) → get_or (replicate slots unbound) v None ≡ unbound
none_there zero v = refl
none_there (suc slots) zero = refl
none_there (suc slots) (suc v) = none_there slots v

-- no variable of a first environment is bound
pub none_bound : (slots e v n : ℕ) → bound (replicate slots None ∷ []) e v ≡ Some n → ⊥
none_bound slots zero v n b = let none : get_or (replicate slots unbound) v None ≡ unbound = none_there slots v in absurd cc
none_bound slots (suc e) v n b = absurd cc

first_length : (slots : ℕ) → slots ≡ length (replicate slots unbound)
first_length slots = sym (length-replicate slots unbound)

pub description_starts : (h : Hierarchy) (slots : ℕ) (d : Description) → FitsDescription h slots d → IsQuietStart h (start slots d)
description_starts h slots d fit = record {
  is = record {
    is = record {
      some_node = omega arith;
      facts = λ x k. absurd k;
      below = λ e v n b. absurd (none_bound slots e v n b);
      items = ((omega arith, (omega arith, subst (λ k. FitsDescription h k d) (first_length slots) fit)), tt);
      rest = λ e k. absurd k;
      imposed = λ n k has. absurd has;
      said = λ g ps has. absurd has;
    };
    once = λ g low. absurd (omega arith);
  };
  quiet = (tt, tt);
}

pub goal_starts : (h : Hierarchy) (slots : ℕ) (g : Goal) → FitsGoal h slots g → IsQuietStart h (start_goal slots g)
goal_starts h slots goal fit = record {
  is = record {
    is = record {
      some_node = omega arith;
      facts = λ x k. absurd k;
      below = λ e v n b. absurd (none_bound slots e v n b);
      items = ((omega arith, subst (λ k. FitsGoal h k goal) (first_length slots) fit), tt);
      rest = λ e k. absurd k;
      imposed = λ n k has. absurd has;
      said = λ g ps has. absurd has;
    };
    once = λ g low. absurd (omega arith);
  };
  quiet = (tt, tt);
}

pub generation_starts : (h : Hierarchy) (slots : ℕ) (d : Description) → FitsDescription h slots d → IsStart h (start_gen slots d)
generation_starts h slots d fit = record {
  is = record {
    some_node = omega arith;
    facts = λ x k. absurd k;
    below = λ e v n b. absurd (none_bound slots e v n b);
    items = ((omega arith, (omega arith, subst (λ k. FitsDescription h k d) (first_length slots) fit)), ((omega arith, omega arith), tt));
    rest = λ e k. absurd k;
    imposed = λ n k has. absurd has;
    said = λ g ps has. absurd has;
  };
  once = λ g low. one g low;
}
  where
    one : (g : ℕ) → g < 1 → sum_over (times_sought g) (start_gen slots d).agenda + sum_over (times_found g) [] ≡ 1
    one zero low = refl
    one (suc g) low = absurd (omega arith)

-- the map by which a structure goes into itself
pub stands : (h : Hierarchy) → IsLawful h → (s : Structure) → IsStructure h s → IsMorphismAside h s s (λ n. n)
stands h law s str = record {
  into = λ n low. low;
  types = λ n low. law.along_self (type_of s n);
  values = λ n f m e. e;
  differs = str.apart;
}

-- an answer of a search that starts with this state alone
pub record Came (gr : Grammar) (st : State) (a : Answer) : Type 0 where
  pub is : IsAnswer gr st a
  pub back : IsInFragment gr st → (s : Structure) (map : ℕ → ℕ) → IsInto gr a s map → (free : FreeSense s a) → Returns gr s st a map free

pub only_state : (gr : Grammar) (st : State) → IsState gr.signature st → AreStates gr (st ∷ [])
only_state gr st is x (inl e) = subst (IsState gr.signature) (sym e) is
only_state gr st is x (inr k) = absurd k

pub only_inside : (gr : Grammar) (st : State) → IsInFragment gr st → AreInFragment gr (st ∷ [])
only_inside gr st is x (inl e) = subst (IsInFragment gr) (sym e) is
only_inside gr st is x (inr k) = absurd k

pub came_from : (gr : Grammar) (st : State) (a : Answer) → ComesFrom gr (st ∷ []) a → Came gr st a
came_from gr st a c = elim c.has [
  | inl e ↦ record {
    is = subst (λ z. IsAnswer gr z a) e c.is;
    back = λ inside s map into free. subst (λ z. Returns gr s z a map free) e (c.back (subst (IsInFragment gr) (sym e) inside) s map into free);
  }
  | inr k ↦ absurd k
]

-- node 0 of a state is a node of the answer's graph
pub root_inside : (gr : Grammar) (st : State) (a : Answer) → Came gr st a → (n : ℕ) → n < st.next → node_of a.closed n < count a.closed.graph
root_inside gr st a c n low = let next = c.is.next in let longer = c.is.longer in c.is.nodes n (omega arith)

-- one node for each variable that is not bound, where nothing was said
abbrev pub free_at : (s : Structure) (a : Answer) → (node : ℕ → ℕ → ℕ) → ((e v : ℕ) → node e v < count s) → a.state.said ≡ [] → FreeSense s a
free_at s a node inside none = record {
  node = node;
  inside = inside;
  words = λ g. [];
  is_said = λ g ps has. absurd (subst (λ xs. Has xs (g, ps)) none has);
}

-- what was imposed is met, where what was given is and no word was used
pub all_met : (gr : Grammar) → ((s : Structure) (n k : ℕ) → IsBrought gr s n k → ⊥) → (s : Structure) (st : State) (a : Answer) (map : ℕ → ℕ) (free : FreeSense s a) → Returns gr s st a map free →
    ((n k : ℕ) → Has st.imposed (n, k) → MeetsAt gr.signature gr.program s k (map (node_of a.closed n))) → (n k : ℕ) → Has a.state.imposed (n, k) → MeetsAt gr.signature gr.program s k (map (node_of a.closed n))
all_met gr wordless s st a map free r given n k has = elim (r.accounted (n, k) has) [
  | inl first ↦ given n k first
  | inr later ↦ elim later [
    | inl met ↦ subst (MeetsAt gr.signature gr.program s k) (r.node n) met
    | inr brought ↦ absurd (wordless s _ k brought)
  ]
]
