-- What satisfies a state that went on by a word satisfies the state, and the other way round, in the same sense or, where
-- something is new, in one that goes on.
use Rattle.std.proofs.Common.{◌≡◌, ℕ, ◌+◌, ◌-◌, ◌<◌, ◌≤◌, Bool, true, false, cond, eqb, List, [], ◌∷◌, ◌++◌, length, ◌⊎◌, inl, inr, refl, sym, subst, arith, replicate, None}
use Rattle.ale_graph.specs.declared.fact.Fact.{Fact}
use Rattle.ale_graph.specs.Structures.{Structure, count}
use Rattle.ale_graph.specs.Facts.{HoldsFact}
use Rattle.ale_graph.proofs.Lists.{has_left, has_right}
use Rattle.ale_logic.specs.Descriptions.{IsAssignment}
use Rattle.ale_logic.specs.Programs.{Word, Element}
use Rattle.ale_logic.specs.Spelling.{spell}
use Rattle.ale_logic.specs.Words.{Grammar}
use Rattle.ale_logic.specs.States.{Piece, Item, on, take, derive, called, cuts, stop, split, pivot, connect, env_at, bound, State, told, doing, doing_all, grown, with_env, bind, imposing, with_phrases, say, chosen}
use Rattle.ale_logic.specs.Satisfaction.{Sense, HoldsItem, HoldItems, Satisfies, Agrees}
use Rattle.ale_logic.specs.WellFormed.{Each, IsState}
use Rattle.ale_step_law.proofs.EnvLists.{bind_same, bind_before, bind_cases, bound_old, bound_back}
use Rattle.ale_step_law.proofs.Growing.{one_more}
use Rattle.ale_step_law.proofs.Senses.{shift, shift_old, shift_new, with_nodes, with_words, with_assignment, var_old}
use Rattle.ale_step_law.proofs.Agreeing.{sat_agrees}

-- an item whose meaning does not bear on the elements that remain
abbrev pub IsWhole : Item → Type 0
IsWhole (split n o) = ⊥
IsWhole (on n d) = Unit {0}
IsWhole (take n f d) = Unit {0}
IsWhole (derive e k g) = Unit {0}
IsWhole (called p ns) = Unit {0}
IsWhole (cuts k) = Unit {0}
IsWhole stop = Unit {0}
IsWhole (pivot sem t) = Unit {0}
IsWhole (connect p us t) = Unit {0}

pub each_both : (P : Item → Type 0) (is js : List Item) → Each P is → Each P js → Each P (is ++ js)
each_both P [] js p q = q
each_both P (i ∷ is) js p q = (p.0, each_both P is js p.1 q)

pub each_split : (P : Item → Type 0) (is js : List Item) → Each P (is ++ js) → Each P is × Each P js
each_split P [] js p = (tt, p)
each_split P (i ∷ is) js p = let r = each_split P is js p.1 in ((p.0, r.0), r.1)

module _ (gr : Grammar) (s : Structure) (remain : List Element) where
  pub hold : (x : Sense) (i : Item) (is : List Item) (rest : List Element) → IsWhole i → HoldsItem gr s x i → HoldItems gr s x is rest remain → HoldItems gr s x (i ∷ is) rest remain
  hold x (split n o) is rest w p q = absurd w
  hold x (on n d) is rest w p q = (p, q)
  hold x (take n f d) is rest w p q = (p, q)
  hold x (derive e k g) is rest w p q = (p, q)
  hold x (called r ns) is rest w p q = (p, q)
  hold x (cuts k) is rest w p q = p
  hold x stop is rest w p q = p
  hold x (pivot sem t) is rest w p q = (p, q)
  hold x (connect r us t) is rest w p q = (p, q)

  pub unhold : (x : Sense) (i : Item) (is : List Item) (rest : List Element) → IsWhole i → HoldItems gr s x (i ∷ is) rest remain → HoldsItem gr s x i × HoldItems gr s x is rest remain
  unhold x (split n o) is rest w p = absurd w
  unhold x (on n d) is rest w p = p
  unhold x (take n f d) is rest w p = p
  unhold x (derive e k g) is rest w p = p
  unhold x (called r ns) is rest w p = p
  unhold x (cuts k) is rest w p = absurd p
  unhold x stop is rest w p = absurd p
  unhold x (pivot sem t) is rest w p = p
  unhold x (connect r us t) is rest w p = p

  -- downwards
  pub told_down : (x : Sense) (f : Fact) (st : State) → Satisfies gr s x (told f st) remain → HoldsFact gr.signature s x.node f × Satisfies gr s x st remain
  told_down x f st p = (
    p.fulfils.holds f (has_right st.facts (f ∷ []) f (inl refl)),
    record {
      fulfils = record { into = p.fulfils.into; holds = λ y q. p.fulfils.holds y (has_left st.facts (f ∷ []) y q) };
      nodes = p.nodes;
      is_bound = p.is_bound;
      is_said = p.is_said;
      items = p.items;
    },
  )

  pub doing_down : (x : Sense) (i : Item) (st : State) → IsWhole i → Satisfies gr s x (doing i st) remain → HoldsItem gr s x i × Satisfies gr s x st remain
  doing_down x i st w p =
      let r = unhold x i st.agenda st.rest w p.items in
      (r.0, record { fulfils = p.fulfils; nodes = p.nodes; is_bound = p.is_bound; is_said = p.is_said; items = r.1 })

  pub doing_all_down : (x : Sense) (is : List Item) (st : State) → Each IsWhole is → Satisfies gr s x (doing_all is st) remain → Each (HoldsItem gr s x) is × Satisfies gr s x st remain
  doing_all_down x [] st w p = (tt, record { fulfils = p.fulfils; nodes = p.nodes; is_bound = p.is_bound; is_said = p.is_said; items = p.items })
  doing_all_down x (i ∷ is) st w p =
      let r = doing_down x i (doing_all is st) w.0 (record { fulfils = p.fulfils; nodes = p.nodes; is_bound = p.is_bound; is_said = p.is_said; items = p.items }) in
      let q = doing_all_down x is st w.1 r.1 in
      ((r.0, q.0), q.1)

  pub grown_down : (x : Sense) (k : ℕ) (st : State) → Satisfies gr s x (grown k st) remain → Satisfies gr s x st remain
  grown_down x k st p = record {
    fulfils = record { into = λ a low. p.fulfils.into a (omega arith); holds = p.fulfils.holds };
    nodes = p.nodes;
    is_bound = p.is_bound;
    is_said = p.is_said;
    items = p.items;
  }

  pub env_down : (x : Sense) (slots : ℕ) (st : State) → Satisfies gr s x (with_env slots st) remain → Satisfies gr s x st remain
  env_down x slots st p = record {
    fulfils = p.fulfils;
    nodes = p.nodes;
    is_bound = λ e v n b. p.is_bound e v n (bound_old st.envs (replicate slots None) e v n b);
    is_said = p.is_said;
    items = p.items;
  }

  pub bind_down : (x : Sense) (e v n : ℕ) (st : State) → e < length st.envs → v < length (env_at st.envs e) → bound st.envs e v ≡ None → Satisfies gr s x (bind e v n st) remain → (x.var e v ≡ x.node n) × Satisfies gr s x st remain
  bind_down x e v n st low inside free p = (
    p.is_bound e v n (bind_same st.envs e v n low inside),
    record {
      fulfils = p.fulfils;
      nodes = p.nodes;
      is_bound = λ d w m b. p.is_bound d w m (bind_before st.envs e v n d w m low free b);
      is_said = p.is_said;
      items = p.items;
    },
  )

  pub imposing_down : (x : Sense) (n k : ℕ) (st : State) → Satisfies gr s x (imposing n k st) remain → Satisfies gr s x st remain
  imposing_down x n k st p = record { fulfils = p.fulfils; nodes = p.nodes; is_bound = p.is_bound; is_said = p.is_said; items = p.items }

  pub phrases_down : (x : Sense) (k : ℕ) (st : State) → Satisfies gr s x (with_phrases k st) remain → Satisfies gr s x st remain
  phrases_down x k st p = record { fulfils = p.fulfils; nodes = p.nodes; is_bound = p.is_bound; is_said = p.is_said; items = p.items }

  pub chosen_down : (x : Sense) (k : ℕ) (st : State) → Satisfies gr s x (chosen k st) remain → Satisfies gr s x st remain
  chosen_down x k st p = record { fulfils = p.fulfils; nodes = p.nodes; is_bound = p.is_bound; is_said = p.is_said; items = p.items }

  pub say_down : (x : Sense) (g : ℕ) (us : List Piece) (st : State) → Satisfies gr s x (say g us st) remain → (x.words g ≡ spell x.words us) × Satisfies gr s x st remain
  say_down x g us st p = (
    p.is_said g us (has_right st.said ((g, us) ∷ []) (g, us) (inl refl)),
    record {
      fulfils = p.fulfils;
      nodes = p.nodes;
      is_bound = p.is_bound;
      is_said = λ f ps q. p.is_said f ps (has_left st.said ((g, us) ∷ []) (f, ps) q);
      items = p.items;
    },
  )

  -- upwards, in the same sense
  pub told_up : (x : Sense) (f : Fact) (st : State) → HoldsFact gr.signature s x.node f → Satisfies gr s x st remain → Satisfies gr s x (told f st) remain
  told_up x f st e p = record {
    fulfils = record { into = p.fulfils.into; holds = one_more (HoldsFact gr.signature s x.node) st.facts f p.fulfils.holds e };
    nodes = p.nodes;
    is_bound = p.is_bound;
    is_said = p.is_said;
    items = p.items;
  }

  pub doing_up : (x : Sense) (i : Item) (st : State) → IsWhole i → HoldsItem gr s x i → Satisfies gr s x st remain → Satisfies gr s x (doing i st) remain
  doing_up x i st w e p = record { fulfils = p.fulfils; nodes = p.nodes; is_bound = p.is_bound; is_said = p.is_said; items = hold x i st.agenda st.rest w e p.items }

  pub doing_all_up : (x : Sense) (is : List Item) (st : State) → Each IsWhole is → Each (HoldsItem gr s x) is → Satisfies gr s x st remain → Satisfies gr s x (doing_all is st) remain
  doing_all_up x [] st w e p = record { fulfils = p.fulfils; nodes = p.nodes; is_bound = p.is_bound; is_said = p.is_said; items = p.items }
  doing_all_up x (i ∷ is) st w e p =
      let r = doing_up x i (doing_all is st) w.0 e.0 (doing_all_up x is st w.1 e.1 p) in
      record { fulfils = r.fulfils; nodes = r.nodes; is_bound = r.is_bound; is_said = r.is_said; items = r.items }

  pub bind_up : (x : Sense) (e v n : ℕ) (st : State) → e < length st.envs → v < length (env_at st.envs e) → x.var e v ≡ x.node n → Satisfies gr s x st remain → Satisfies gr s x (bind e v n st) remain
  bind_up x e v n st low inside is p = record {
    fulfils = p.fulfils;
    nodes = p.nodes;
    is_bound = λ d w m b. bind_cases st.envs e v n d w m (λ d w m. x.var d w ≡ x.node m) low inside is (p.is_bound d w m) b;
    is_said = p.is_said;
    items = p.items;
  }

  pub imposing_up : (x : Sense) (n k : ℕ) (st : State) → Satisfies gr s x st remain → Satisfies gr s x (imposing n k st) remain
  imposing_up x n k st p = record { fulfils = p.fulfils; nodes = p.nodes; is_bound = p.is_bound; is_said = p.is_said; items = p.items }

  pub phrases_up : (x : Sense) (k : ℕ) (st : State) → Satisfies gr s x st remain → Satisfies gr s x (with_phrases k st) remain
  phrases_up x k st p = record { fulfils = p.fulfils; nodes = p.nodes; is_bound = p.is_bound; is_said = p.is_said; items = p.items }

  pub chosen_up : (x : Sense) (k : ℕ) (st : State) → Satisfies gr s x st remain → Satisfies gr s x (chosen k st) remain
  chosen_up x k st p = record { fulfils = p.fulfils; nodes = p.nodes; is_bound = p.is_bound; is_said = p.is_said; items = p.items }

  pub say_up : (x : Sense) (g : ℕ) (us : List Piece) (st : State) → x.words g ≡ spell x.words us → Satisfies gr s x st remain → Satisfies gr s x (say g us st) remain
  say_up x g us st e p = record {
    fulfils = p.fulfils;
    nodes = p.nodes;
    is_bound = p.is_bound;
    is_said = λ f ps q. one_more (λ z. x.words z.0 ≡ spell x.words z.1) st.said (g, us) (λ z r. p.is_said z.0 z.1 r) e (f, ps) q;
    items = p.items;
  }

  -- upwards, in a sense that goes on
  pub agrees_nodes : (x : Sense) (st : State) (f : ℕ → ℕ) → Agrees st (with_nodes x st.next f) x
  agrees_nodes x st f = record { node = λ n low. shift_old x.node st.next f n low; var = λ e low. refl; words = λ g low. refl }

  pub agrees_words : (x : Sense) (st : State) (f : ℕ → List Word) → Agrees st (with_words x st.phrases f) x
  agrees_words x st f = record { node = λ n low. refl; var = λ e low. refl; words = λ g low. shift_old x.words st.phrases f g low }

  pub agrees_assignment : (x : Sense) (st : State) (assign : ℕ → ℕ) → Agrees st (with_assignment x (length st.envs) assign) x
  agrees_assignment x st assign = record { node = λ n low. refl; var = λ e low. var_old x (length st.envs) assign e low; words = λ g low. refl }

  pub grown_up : (x : Sense) (k : ℕ) (f : ℕ → ℕ) (st : State) → IsState gr.signature st → ((i : ℕ) → i < k → f i < count s) → Satisfies gr s x st remain → Satisfies gr s (with_nodes x st.next f) (grown k st) remain
  grown_up x k f st is inside p = record {
    fulfils = record { into = λ a low. into a low (grind arith); holds = q.fulfils.holds };
    nodes = q.nodes;
    is_bound = q.is_bound;
    is_said = q.is_said;
    items = q.items;
  }
    where
      q : Satisfies gr s (with_nodes x st.next f) st remain
      q = sat_agrees gr s st (with_nodes x st.next f) x remain (agrees_nodes x st f) is p.nodes p

      into : (a : ℕ) → a < st.next + k → (a < st.next) ⊎ (st.next ≤ a) → shift x.node st.next f a < count s
      into a low (inl old) = q.fulfils.into a old
      into a low (inr new) =
          let part : a - st.next < k = omega arith in
          let e : st.next + (a - st.next) ≡ a = omega arith in
          subst (λ z. shift x.node st.next f z < count s) e (subst (λ z. z < count s) (sym (shift_new x.node st.next f (a - st.next))) (inside (a - st.next) part))

  pub env_up : (x : Sense) (slots : ℕ) (assign : ℕ → ℕ) (st : State) → IsState gr.signature st → IsAssignment s assign → Satisfies gr s x st remain → Satisfies gr s (with_assignment x (length st.envs) assign) (with_env slots st) remain
  env_up x slots assign st is inside p = record {
    fulfils = q.fulfils;
    nodes = q.nodes;
    is_bound = λ e v n b. q.is_bound e v n (bound_back st.envs slots e v n b);
    is_said = q.is_said;
    items = q.items;
  }
    where
      nodes : (b : Bool) (e v : ℕ) → (cond {A = ℕ → ℕ} b assign (x.var e)) v < count s
      nodes true e v = inside v
      nodes false e v = p.nodes e v

      q : Satisfies gr s (with_assignment x (length st.envs) assign) st remain
      q = sat_agrees gr s st (with_assignment x (length st.envs) assign) x remain (agrees_assignment x st assign) is (λ e v. nodes (eqb e (length st.envs)) e v) p

  pub words_up : (x : Sense) (k : ℕ) (f : ℕ → List Word) (st : State) → IsState gr.signature st → Satisfies gr s x st remain → Satisfies gr s (with_words x st.phrases f) (with_phrases k st) remain
  words_up x k f st is p = phrases_up (with_words x st.phrases f) k st (sat_agrees gr s st (with_words x st.phrases f) x remain (agrees_words x st f) is p.nodes p)
