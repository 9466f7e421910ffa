-- Whole searches from single visits: an answer comes from a state that waits, and what satisfies a state that waits
-- is reached in the end.
use Rattle.std.proofs.Common.{◌≡◌, ℕ, zero, suc, ◌-◌, ◌<◌, ◌≤◌, true, List, [], ◌∷◌, ◌++◌, length, drop, append_assoc, inl, inr, refl, sym, ap, ◌∙◌, subst, arith, Option, Some, None}
use Rattle.std.proofs.lemmas.List.{append-nil}
use Rattle.ale_declared.specs.Lists.{Has}
use Rattle.ale_graph.specs.Structures.{Structure, IsStructure, count}
use Rattle.ale_graph.specs.Morphisms.{IsMorphismAside}
use Rattle.ale_graph.specs.Facts.{Fulfils}
use Rattle.ale_graph.specs.Closure.{node_of}
use Rattle.ale_graph.proofs.Lists.{has_left, has_right, has_either}
use Rattle.ale_engine.specs.Engine.{Visit, answers, goes, last, moved, waiting_after, answers_in, is_nothing}
use Rattle.ale_logic.specs.Programs.{Element}
use Rattle.ale_logic.specs.Models.{MeetsConstraint, IsModel}
use Rattle.ale_logic.specs.Words.{Grammar}
use Rattle.ale_logic.specs.States.{bound, State}
use Rattle.ale_logic.specs.Visits.{Answer, visit}
use Rattle.ale_logic.specs.Satisfaction.{Sense, HoldItems, Satisfies, Agrees}
use Rattle.ale_logic.specs.WellFormed.{IsState}
use Rattle.ale_logic.specs.Steps.{IsGrammar, IsAccounted, SatisfiesBefore, IsKid, IsAnswerOf, IsVisitKid, IsInFragment, StepLaw, StepLaws, LogicLaw, LogicLaws}
use Rattle.ale_logic.specs.Runs.{AreStates, MeetsPairs, IsReached, FreeSense, Returns, IsAnswer, AreInFragment, ComesFrom, RunLaws}

last_has : {A : Type 0} (n : ℕ) (xs : List A) (x : A) → Has (last n xs) x → Has xs x
last_has n xs x k = dropped (length xs - n) xs k
  where
    dropped : (m : ℕ) (ys : List _) → Has (drop m ys) x → Has ys x
    dropped zero ys k = k
    dropped (suc m) [] k = k
    dropped (suc m) (y ∷ ys) k = inr (dropped m ys k)

last_all : {A : Type 0} (n : ℕ) (xs : List A) → n ≡ length xs → last n xs ≡ xs
last_all n xs e = let none : length xs - n ≡ 0 = omega arith in ap (λ m. drop m xs) none

agrees_through : (st mid : State) (x y z : Sense) → st.next ≤ mid.next → length st.envs ≤ length mid.envs → st.phrases ≤ mid.phrases → Agrees mid x y → Agrees st y z → Agrees st x z
agrees_through st mid x y z next envs phrases a b = record {
  node = λ n low. a.node n (omega arith) ∙ b.node n low;
  var = λ e low. a.var e (omega arith) ∙ b.var e low;
  words = λ g low. a.words g (omega arith) ∙ b.words g low;
}

module _ (steps : StepLaws) (logic : LogicLaws) (gr : Grammar) (grammar : IsGrammar gr) where
  -- an answer is one of its own state
  model_where : (st : State) (a : Answer) → IsState gr.signature a.state → IsAnswerOf gr st a → MeetsPairs gr a.closed.graph (node_of a.closed) a.state.imposed → IsModel gr.signature gr.program a.closed.graph
  model_where st a is k met = record {
    structure = k.closure.structure;
    some_node =
        let node = k.closure.fulfils.into 0 (let some = is.some_node in let longer = k.closure.longer in omega arith) in
        omega arith;
    meets = λ n number c low at above.
        let i = k.all_imposed n number c low at above in
        subst (MeetsConstraint gr.signature gr.program a.closed.graph c) i.2 (met i.0 number i.1 c at);
  }

  of_itself : (st : State) (a : Answer) → IsState gr.signature a.state → IsAnswerOf gr st a → IsAnswer gr a.state a
  of_itself st a is k = record {
    is = is;
    next = omega arith;
    envs = omega arith;
    lengths = λ e low. refl;
    phrases = omega arith;
    imposed = ([], sym (append-nil a.state.imposed));
    nothing = k.nothing;
    closure = k.closure;
    longer = k.closure.longer;
    nodes = k.closure.fulfils.into;
    structure = k.closure.structure;
    all_imposed = k.all_imposed;
    model = model_where st a is k;
    said = λ quiet. refl;
    once = λ once. once;
  }

  -- where an answer's graph goes, its own state is satisfied
  returns_itself : (st : State) (a : Answer) → IsState gr.signature a.state → IsAnswerOf gr st a → (s : Structure) (map : ℕ → ℕ) → IsMorphismAside gr.signature a.closed.graph s map → (free : FreeSense s a) → Returns gr s a.state a map free
  returns_itself st a is k s map m free = record {
    sense = sense;
    node = λ n. refl;
    words = λ g. refl;
    bound_to = λ e v n b. ap (choose e v) b;
    unbound = λ e v b. ap (choose e v) b;
    satisfies = record {
      fulfils = given;
      nodes = λ e v. inside e v (bound a.state.envs e v) refl;
      is_bound = λ e v n b. ap (choose e v) b;
      is_said = free.is_said;
      items = subst (λ agenda. HoldItems gr s sense agenda a.state.rest a.state.rest) (sym k.nothing) refl;
    };
    accounted = λ p has. inl has;
  }
    where
      choose : ℕ → ℕ → Option ℕ → ℕ
      choose e v None = free.node e v
      choose e v (Some n) = map (node_of a.closed n)

      sense : Sense
      sense = record { node = λ n. map (node_of a.closed n); var = λ e v. choose e v (bound a.state.envs e v); words = free.words }

      carried : Fulfils gr.signature s (λ n. map (node_of a.closed n)) a.closed.facts a.closed.next
      carried = k.closure.carried s map m

      given : Fulfils gr.signature s (λ n. map (node_of a.closed n)) a.state.facts a.state.next
      given = record {
        into = λ n low. carried.into n (let longer = k.closure.longer in omega arith);
        holds = λ x has. carried.holds x (subst (λ fs. Has fs x) (sym k.closure.front.1) (has_left a.state.facts k.closure.front.0 x has));
      }

      inside : (e v : ℕ) (o : Option ℕ) → bound a.state.envs e v ≡ o → choose e v o < count s
      inside e v None b = free.inside e v
      inside e v (Some n) b = given.into n (is.below e v n b)

  -- what is accounted for by a kid is accounted for by the state, as the kid's own pairs are
  accounted_before : (s : Structure) (x : Sense) (st kid : State) (remain : List Element) → SatisfiesBefore gr s x st remain kid.imposed → (p : ℕ × ℕ) → IsAccounted gr s x kid.imposed p → IsAccounted gr s x st.imposed p
  accounted_before s x st kid remain before p (inl has) = before.accounted p has
  accounted_before s x st kid remain before p (inr met) = inr met

  -- an answer of a kid is one of the state
  before : (st kid : State) (a : Answer) → IsKid gr st kid → IsAnswer gr kid a → IsAnswer gr st a
  before st kid a k of = record {
    is = of.is;
    next = let one = k.next in let two = of.next in omega arith;
    envs = let one = k.envs in let two = of.envs in omega arith;
    lengths = λ e low. of.lengths e (let one = k.envs in omega arith) ∙ k.lengths e low;
    phrases = let one = k.phrases in let two = of.phrases in omega arith;
    imposed = (
      k.imposed.0 ++ of.imposed.0,
      of.imposed.1 ∙ ap (λ ps. ps ++ of.imposed.0) k.imposed.1 ∙ append_assoc st.imposed k.imposed.0 of.imposed.0,
    );
    nothing = of.nothing;
    closure = of.closure;
    longer = of.longer;
    nodes = of.nodes;
    structure = of.structure;
    all_imposed = of.all_imposed;
    model = of.model;
    said = λ quiet. let q = k.quiet quiet in of.said q.0 ∙ q.1;
    once = λ once. of.once (k.once once);
  }

  inner : (st : State) (waiting : ℕ) → IsState gr.signature st → IsInFragment gr st → LogicLaw gr waiting st
  inner st waiting is inside = logic gr waiting st grammar is inside

  kid_inside : (st kid : State) (waiting : ℕ) → IsState gr.signature st → IsVisitKid gr waiting st kid → IsInFragment gr st → IsInFragment gr kid
  kid_inside st kid waiting is e inside = record { program = inside.program; items = (inner st waiting is inside).plain kid e }

  kid_returns : (st kid : State) (waiting : ℕ) → IsState gr.signature st → IsVisitKid gr waiting st kid → IsInFragment gr st →
      (a : Answer) (s : Structure) (map : ℕ → ℕ) (free : FreeSense s a) → Returns gr s kid a map free → Returns gr s st a map free
  kid_returns st kid waiting is e inside a s map free r =
      let down = (inner st waiting is inside).down kid e s r.sense a.state.rest r.satisfies in
      record {
        sense = r.sense;
        node = r.node;
        words = r.words;
        bound_to = r.bound_to;
        unbound = r.unbound;
        satisfies = down.satisfies;
        accounted = λ p there. accounted_before s r.sense st kid a.state.rest down p (r.accounted p there);
      }

  comes : (budget : ℕ) (sts : List State) → AreStates gr sts → (a : Answer) → Has (answers_in (visit gr) budget sts) a → ComesFrom gr sts a
  comes zero sts states a has = absurd has
  comes (suc left) [] states a has = let none = comes left [] (λ st k. absurd k) a has in absurd none.has
  comes (suc left) (st ∷ waiting) states a has = go (λ sts k. comes left sts k a) (visit gr (length waiting) st) refl has
    where
      Later : Type 0
      Later = (sts : List State) → AreStates gr sts → Has (answers_in (visit gr) left sts) a → ComesFrom gr sts a

      is : IsState gr.signature st
      is = states st (inl refl)

      law : StepLaw gr (length waiting) st
      law = steps gr (length waiting) st grammar is

      others : AreStates gr waiting
      others y k = states y (inr k)

      here : (b : Answer) → answers b ≡ visit gr (length waiting) st → ComesFrom gr (st ∷ waiting) b
      here b e =
          let k = law.answer b e in
          let own : IsState gr.signature b.state = subst (IsState gr.signature) (sym k.state) is in
          record {
            state = st;
            has = inl refl;
            is = subst (λ z. IsAnswer gr z b) k.state (of_itself st b own k);
            back = λ inside s map into free. subst (λ z. Returns gr s z b map free) k.state (returns_itself st b own k s map into.is free);
          }

      kids : (n : ℕ) (ks : List State) → goes n ks ≡ visit gr (length waiting) st → AreStates gr (ks ++ last n waiting)
      kids n ks e y k = elim (has_either ks (last n waiting) y k) [
        | inl there ↦ (law.kids_are_states y (record { stay = n; kids = ks; goes_on = e; has = there })).is
        | inr there ↦ others y (last_has n waiting y there)
      ]

      through : (n : ℕ) (ks : List State) → goes n ks ≡ visit gr (length waiting) st → ComesFrom gr (ks ++ last n waiting) a → ComesFrom gr (st ∷ waiting) a
      through n ks e c = elim (has_either ks (last n waiting) c.state c.has) [
        | inl there ↦
            let kid : IsVisitKid gr (length waiting) st c.state = record { stay = n; kids = ks; goes_on = e; has = there } in
            record {
              state = st;
              has = inl refl;
              is = before st c.state a (law.kids_are_states c.state kid) c.is;
              back = λ inside s map into free. kid_returns st c.state (length waiting) is kid inside a s map free (c.back (kid_inside st c.state (length waiting) is kid inside) s map into free);
            }
        | inr there ↦ record {
          state = c.state;
          has = inr (last_has n waiting c.state there);
          is = c.is;
          back = c.back;
        }
      ]

      later_one : ComesFrom gr waiting a → ComesFrom gr (st ∷ waiting) a
      later_one c = record { state = c.state; has = inr c.has; is = c.is; back = c.back }

      go : Later → (v : Visit State Answer) → v ≡ visit gr (length waiting) st → Has ((moved waiting v).found ++ answers_in (visit gr) left (moved waiting v).waiting) a → ComesFrom gr (st ∷ waiting) a
      go later (answers b) e (inl same) = subst (ComesFrom gr (st ∷ waiting)) (sym same) (here b e)
      go later (answers b) e (inr there) = later_one (later waiting others there)
      go later (goes n ks) e there = through n ks e (later (ks ++ last n waiting) (kids n ks e) there)

  -- a structure that satisfies an answer's own state is where the answer's graph goes
  reaches_itself : (st : State) (a : Answer) → IsState gr.signature a.state → IsAnswerOf gr st a → (s : Structure) → IsStructure gr.signature s → (x : Sense) (remain : List Element) → Satisfies gr s x a.state remain → (found : List Answer) → Has found a → IsReached gr s a.state x remain found
  reaches_itself st a is k s str x remain sat found has =
      let u = k.closure.universal s x.node str sat.fulfils in
      let m = u.morphism in
      record {
        answer = a;
        has = has;
        rest = sym (subst (λ agenda. HoldItems gr s x agenda a.state.rest remain) k.nothing sat.items);
        map = m.map;
        is = m.is;
        sense = x;
        agrees = record { node = λ n low. refl; var = λ e low. refl; words = λ g low. refl };
        satisfies = sat;
        lands = m.agrees;
        is_bound = λ e v n b. sat.is_bound e v n b ∙ sym (m.agrees n (is.below e v n b));
      }

  more_found : (s : Structure) (st : State) (x : Sense) (remain : List Element) (xs ys : List Answer) → IsReached gr s st x remain ys → IsReached gr s st x remain (xs ++ ys)
  more_found s st x remain xs ys r = record {
    answer = r.answer;
    has = has_right xs ys r.answer r.has;
    rest = r.rest;
    map = r.map;
    is = r.is;
    sense = r.sense;
    agrees = r.agrees;
    satisfies = r.satisfies;
    lands = r.lands;
    is_bound = r.is_bound;
  }

  -- what reaches a kid reaches the state
  kid_reached : (s : Structure) (st kid : State) (x y : Sense) (remain : List Element) (found : List Answer) → IsKid gr st kid → Agrees st y x → IsReached gr s kid y remain found → IsReached gr s st x remain found
  kid_reached s st kid x y remain found k agrees r = record {
    answer = r.answer;
    has = r.has;
    rest = r.rest;
    map = r.map;
    is = r.is;
    sense = r.sense;
    agrees = agrees_through st kid r.sense y x k.next k.envs k.phrases r.agrees agrees;
    satisfies = r.satisfies;
    lands = r.lands;
    is_bound = r.is_bound;
  }

  module _ (s : Structure) (model : IsModel gr.signature gr.program s) (remain : List Element) where
    reached : (budget : ℕ) (sts : List State) → AreStates gr sts → AreInFragment gr sts → is_nothing (waiting_after (visit gr) budget sts) ≡ true → (y : State) → Has sts y → (x : Sense) → Satisfies gr s x y remain → IsReached gr s y x remain (answers_in (visit gr) budget sts)
    reached zero [] states inside fin y has x sat = absurd has
    reached zero (st ∷ waiting) states inside fin y has x sat = absurd cc
    reached (suc left) [] states inside fin y has x sat = absurd has
    reached (suc left) (st ∷ waiting) states inside fin y has x sat = go (reached left) (visit gr (length waiting) st) refl fin
      where
        Later : Type 0
        Later = (sts : List State) → AreStates gr sts → AreInFragment gr sts → is_nothing (waiting_after (visit gr) left sts) ≡ true → (z : State) → Has sts z → (u : Sense) → Satisfies gr s u z remain → IsReached gr s z u remain (answers_in (visit gr) left sts)

        is : IsState gr.signature st
        is = states st (inl refl)

        law : StepLaw gr (length waiting) st
        law = steps gr (length waiting) st grammar is

        kids : (n : ℕ) (ks : List State) → goes n ks ≡ visit gr (length waiting) st → AreStates gr (ks ++ last n waiting)
        kids n ks e z k = elim (has_either ks (last n waiting) z k) [
          | inl there ↦ (law.kids_are_states z (record { stay = n; kids = ks; goes_on = e; has = there })).is
          | inr there ↦ states z (inr (last_has n waiting z there))
        ]

        after_visit : (n : ℕ) (ks : List State) → goes n ks ≡ visit gr (length waiting) st → AreInFragment gr (ks ++ last n waiting)
        after_visit n ks e z k = elim (has_either ks (last n waiting) z k) [
          | inl there ↦ kid_inside st z (length waiting) is (record { stay = n; kids = ks; goes_on = e; has = there }) (inside st (inl refl))
          | inr there ↦ inside z (inr (last_has n waiting z there))
        ]

        go : Later → (v : Visit State Answer) → v ≡ visit gr (length waiting) st → is_nothing (waiting_after (visit gr) left (moved waiting v).waiting) ≡ true →
            IsReached gr s y x remain ((moved waiting v).found ++ answers_in (visit gr) left (moved waiting v).waiting)
        go later (answers b) e fin = elim has [
          | inl same ↦
              let k = law.answer b e in
              let own : IsState gr.signature b.state = subst (IsState gr.signature) (sym k.state) is in
              let equal : y ≡ b.state = same ∙ sym k.state in
              subst (λ z. IsReached gr s z x remain (b ∷ answers_in (visit gr) left waiting)) (sym equal)
              (reaches_itself st b own k s model.structure x remain (subst (λ z. Satisfies gr s x z remain) equal sat) (b ∷ answers_in (visit gr) left waiting) (inl refl))
          | inr there ↦ more_found s y x remain (b ∷ []) (answers_in (visit gr) left waiting)
              (later waiting (λ z k. states z (inr k)) (λ z k. inside z (inr k)) fin y there x sat)
        ]
        go later (goes n ks) e fin = elim has [
          | inl same ↦
              let up = law.up n ks e s x remain (record { model = model; satisfies = subst (λ z. Satisfies gr s x z remain) same sat }) in
              let kid = law.kids_are_states up.state (record { stay = n; kids = ks; goes_on = e; has = up.has }) in
              subst (λ z. IsReached gr s z x remain (answers_in (visit gr) left (ks ++ last n waiting))) (sym same)
              (kid_reached s st up.state x up.sense remain (answers_in (visit gr) left (ks ++ last n waiting)) kid up.agrees
              (later (ks ++ last n waiting) (kids n ks e) (after_visit n ks e) fin up.state (has_left ks (last n waiting) up.state up.has) up.sense up.satisfies))
          | inr there ↦
              let all : last n waiting ≡ waiting = last_all n waiting ((inner st (length waiting) is (inside st (inl refl))).all_stay n ks e) in
              later (ks ++ last n waiting) (kids n ks e) (after_visit n ks e) fin y (has_right ks (last n waiting) y (subst (λ zs. Has zs y) (sym all) there)) x sat
        ]

pub run_law : StepLaws → LogicLaws → RunLaws
run_law steps logic gr first budget grammar states = record {
  comes = comes steps logic gr grammar budget first states;
  reached = λ inside fin s st x remain k. reached steps logic gr grammar s k.is.model remain budget first states inside fin st k.has x k.is.satisfies;
}
