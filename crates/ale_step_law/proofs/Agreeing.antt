-- What is satisfied in one sense is satisfied in each that agrees with it on the state.
use Rattle.std.proofs.Common.{◌≡◌, ℕ, ◌<◌, List, [], ◌∷◌, ◌++◌, length, map, inl, inr, refl, sym, ap, ◌∙◌, subst, Option, Some, None}
use Rattle.ale_hierarchy.specs.Hierarchy.{Above}
use Rattle.ale_graph.specs.declared.fact.Fact.{Fact}
use Rattle.ale_graph.specs.declared.fact.Fact.TheVariants.{OfType, Value, Same, Differ}
use Rattle.ale_graph.specs.Structures.{Structure, count, type_of, value_of}
use Rattle.ale_graph.specs.Facts.{HoldsFact, FitsFact}
use Rattle.ale_logic.specs.Descriptions.{Description, LeadsTo, EndTogether, HoldsAt}
use Rattle.ale_logic.specs.Programs.{Word, Element, member, tail}
use Rattle.ale_logic.specs.Spelling.{spell}
use Rattle.ale_logic.specs.ListNodes.{IsEmptyList, IsNonEmptyList}
use Rattle.ale_logic.specs.Derivations.{Derivable, Callable}
use Rattle.ale_logic.specs.Words.{Grammar, HasEntry, HasEmpty}
use Rattle.ale_logic.specs.Headed.{Headed, HeadedList, IsChain}
use Rattle.ale_logic.specs.States.{Demand, holds, ends_with, leads, generates, generates_all, Target, Piece, word, phrase, Item, on, take, derive, called, cuts, stop, split, pivot, connect, State}
use Rattle.ale_logic.specs.Satisfaction.{Sense, HoldsEnd, HoldsDemand, IsConnected, HasPivot, HoldsItem, HoldItems, Satisfies, Agrees}
use Rattle.ale_logic.specs.WellFormed.{Scope, scope_of, FitsEnd, FitsDemand, AreBelow, FitPieces, FitsTarget, FitsItem, FitItems, IsState}
use Rattle.ale_step_law.proofs.EnvLists.{bound_inside}

pub agrees_self : (st : State) (x : Sense) → Agrees st x x
agrees_self st x = record { node = λ n p. refl; var = λ e p. refl; words = λ g p. refl }

-- both senses are one on what there is to speak of
pub record AgreeOn (c : Scope) (y x : Sense) : Type 0 where
  pub node : (n : ℕ) → n < c.next → y.node n ≡ x.node n
  pub var : (e : ℕ) → e < length c.envs → y.var e ≡ x.var e
  pub words : (g : ℕ) → g < c.phrases → y.words g ≡ x.words g

module _ (gr : Grammar) (s : Structure) (c : Scope) (y x : Sense) (same : AgreeOn c y x) where
  fact_agrees : (f : Fact) → FitsFact gr.signature c.next f → HoldsFact gr.signature s x.node f → HoldsFact gr.signature s y.node f
  fact_agrees (OfType n t) fit p = subst (λ z. Above gr.signature t (type_of s z)) (sym (same.node n fit.0)) p
  fact_agrees (Value n f m) fit p = ap (λ z. value_of s z f) (same.node n fit.0) ∙ p ∙ ap Some (sym (same.node m fit.2))
  fact_agrees (Same a b) fit p = same.node a fit.0 ∙ p ∙ sym (same.node b fit.1)
  fact_agrees (Differ a b) fit p = λ e. p (sym (same.node a fit.0) ∙ e ∙ same.node b fit.1)

  pub spell_agrees : (g : ℕ) (ps : List Piece) → FitPieces c g ps → spell y.words ps ≡ spell x.words ps
  spell_agrees g [] fit = refl
  spell_agrees g (word w ∷ ps) fit = ap (λ z. w ∷ z) (spell_agrees g ps fit)
  spell_agrees g (phrase q ∷ ps) fit = ap (λ z. z ++ spell y.words ps) (same.words q fit.1) ∙ ap (λ z. x.words q ++ z) (spell_agrees g ps fit.2)

  map_agrees : (ns : List ℕ) → AreBelow c.next ns → map y.node ns ≡ map x.node ns
  map_agrees [] fit = refl
  map_agrees (n ∷ ns) fit = ap (λ z. z ∷ map y.node ns) (same.node n fit.0) ∙ ap (λ z. x.node n ∷ z) (map_agrees ns fit.1)

  end_agrees : (o : Option (ℕ × Description)) → FitsEnd gr.signature c o → HoldsEnd gr s x o → HoldsEnd gr s y o
  end_agrees None fit p = tt
  end_agrees (Some end) fit p =
      subst (λ z. HoldsAt gr.signature s z end.1 (y.node end.0)) (sym (same.var 0 fit.1.0)) (subst (HoldsAt gr.signature s (x.var 0) end.1) (sym (same.node end.0 fit.0)) p)

  demand_agrees : (d : Demand) → FitsDemand gr.signature c d → (m : ℕ) → HoldsDemand gr s x d m → HoldsDemand gr s y d m
  demand_agrees (holds e d) fit m p = subst (λ z. HoldsAt gr.signature s z d m) (sym (same.var e fit.0)) p
  demand_agrees (ends_with q b r) fit m p = subst (λ z. EndTogether s m q z r) (sym (same.node b fit.1)) p
  demand_agrees (leads q a) fit m p = subst (LeadsTo s m q) (sym (same.node a fit.1)) p
  demand_agrees (generates g) fit m p = subst (Headed gr.signature gr.program s (HasEntry gr s) (HasEmpty gr s) m) (sym (same.words g fit)) p
  demand_agrees (generates_all g) fit m p = subst (HeadedList gr.signature gr.program s (HasEntry gr s) (HasEmpty gr s) m) (sym (same.words g fit)) p

  pub connected_agrees : (p : ℕ) (us : List Word) (t : Target) → FitsTarget c t → IsConnected gr s x p us t → IsConnected gr s y p us t
  connected_agrees p us t fit k = record {
    steps = k.steps;
    few = k.few;
    chain = subst (λ z. IsChain gr.signature gr.program s (HasEntry gr s) (HasEmpty gr s) p us z (y.words t.phrase) k.steps) (sym (same.node t.node fit.0))
        (subst (λ z. IsChain gr.signature gr.program s (HasEntry gr s) (HasEmpty gr s) p us (x.node t.node) z k.steps) (sym (same.words t.phrase fit.1)) k.chain);
  }

  pivot_agrees : (sem : ℕ) (t : Target) → FitsTarget c t → HasPivot gr s x sem t → HasPivot gr s y sem t
  pivot_agrees sem t fit p = record { pivot = p.pivot; words = p.words; is = p.is; connected = connected_agrees p.pivot p.words t fit p.connected }

  item_agrees : (i : Item) → FitsItem gr.signature c i → HoldsItem gr s x i → HoldsItem gr s y i
  item_agrees (on n d) fit p = subst (HoldsDemand gr s y d) (sym (same.node n fit.0)) (demand_agrees d fit.1 (x.node n) p)
  item_agrees (take n f d) fit p = (p.0, subst (λ z. value_of s z f ≡ Some p.0) (sym (same.node n fit.0)) p.1, demand_agrees d fit.2 p.0 p.2)
  item_agrees (derive e k g) fit p = subst (λ z. Derivable gr.signature gr.program s z g) (sym (same.var e fit.0)) p
  item_agrees (called q ns) fit p = subst (Callable gr.signature gr.program s q) (sym (map_agrees ns fit)) p
  item_agrees (cuts k) fit p = p
  item_agrees stop fit p = p
  item_agrees (split n o) fit p = p
  item_agrees (pivot sem t) fit p = subst (λ z. HasPivot gr s y z t) (sym (same.node sem fit.0)) (pivot_agrees (x.node sem) t fit.1 p)
  item_agrees (connect q us t) fit p =
      subst (λ z. IsConnected gr s y z (spell y.words us) t) (sym (same.node q fit.0))
      (subst (λ z. IsConnected gr s y (x.node q) z t) (sym (spell_agrees t.phrase us fit.2)) (connected_agrees (x.node q) (spell x.words us) t fit.1 p))

  items_agree : (is : List Item) → FitItems gr.signature c is → (rest remain : List Element) → HoldItems gr s x is rest remain → HoldItems gr s y is rest remain
  items_agree [] fit rest remain p = p
  items_agree (split n o ∷ is) fit rest remain (inl p) =
      inl (subst (IsEmptyList gr.signature gr.program s) (sym (same.node n fit.0.0)) p.0, end_agrees o fit.0.1 p.1, items_agree is fit.1 rest remain p.2)
  items_agree (split n o ∷ is) fit rest remain (inr p) =
      inr (subst (IsNonEmptyList gr.signature gr.program s) (sym (same.node n fit.0.0)) p.0, items_agree is fit.1 (member n ∷ tail n ∷ rest) remain p.1)
  items_agree (on n d ∷ is) fit rest remain p = (item_agrees (on n d) fit.0 p.0, items_agree is fit.1 rest remain p.1)
  items_agree (take n f d ∷ is) fit rest remain p = (item_agrees (take n f d) fit.0 p.0, items_agree is fit.1 rest remain p.1)
  items_agree (derive e k g ∷ is) fit rest remain p = (item_agrees (derive e k g) fit.0 p.0, items_agree is fit.1 rest remain p.1)
  items_agree (called q ns ∷ is) fit rest remain p = (item_agrees (called q ns) fit.0 p.0, items_agree is fit.1 rest remain p.1)
  items_agree (cuts k ∷ is) fit rest remain p = absurd p
  items_agree (stop ∷ is) fit rest remain p = absurd p
  items_agree (pivot sem t ∷ is) fit rest remain p = (item_agrees (pivot sem t) fit.0 p.0, items_agree is fit.1 rest remain p.1)
  items_agree (connect q us t ∷ is) fit rest remain p = (item_agrees (connect q us t) fit.0 p.0, items_agree is fit.1 rest remain p.1)

pub agree_on : (st : State) (y x : Sense) → Agrees st y x → AgreeOn (scope_of st) y x
agree_on st y x a = record { node = a.node; var = a.var; words = a.words }

pub sat_agrees : (gr : Grammar) (s : Structure) (st : State) (y x : Sense) (remain : List Element) → Agrees st y x → IsState gr.signature st → ((e v : ℕ) → y.var e v < count s) → Satisfies gr s x st remain → Satisfies gr s y st remain
sat_agrees gr s st y x remain a is inside sat = record {
  fulfils = record {
    into = λ n low. subst (λ z. z < count s) (sym (a.node n low)) (sat.fulfils.into n low);
    holds = λ f p. fact_agrees gr s (scope_of st) y x same f (is.facts f p) (sat.fulfils.holds f p);
  };
  nodes = inside;
  is_bound = λ e v n b. ap (λ z. z v) (a.var e (bound_inside st.envs e v n b)) ∙ sat.is_bound e v n b ∙ sym (a.node n (is.below e v n b));
  is_said = λ g ps p. a.words g (is.said g ps p).0 ∙ sat.is_said g ps p ∙ sym (spell_agrees gr s (scope_of st) y x same g ps (is.said g ps p).1);
  items = items_agree gr s (scope_of st) y x same st.agenda is.items st.rest remain sat.items;
}
  where
    same : AgreeOn (scope_of st) y x
    same = agree_on st y x a
