-- Downwards, where words are found: nodes, lists, pivots from entries, empties and rules, and connections.
use Rattle.std.proofs.Common.{◌≡◌, ℕ, suc, ◌+◌, ◌<◌, Bool, true, false, ltb, cond, List, [], ◌∷◌, ◌++◌, length, ◌⊎◌, inl, inr, refl, sym, ap, ◌∙◌, subst, arith, Option, Some, None}
use Rattle.std.proofs.lemmas.Bool.{ltb-true}
use Rattle.std.proofs.lemmas.List.{append-nil, append_assoc}
use Rattle.ale_declared.specs.Lists.{Has}
use Rattle.ale_graph.specs.declared.fact.Fact.TheVariants.{OfType, Same}
use Rattle.ale_graph.specs.Structures.{Structure, count}
use Rattle.ale_graph.specs.Morphisms.{IsMorphismAside}
use Rattle.ale_graph.proofs.Lists.{has_either, has_map}
use Rattle.ale_logic.specs.Descriptions.{Description, HoldsAt, IsAssignment}
use Rattle.ale_logic.specs.Programs.{Word, Element, cat, cats, derived, sem_head, member, tail, Rule, ListTypes}
use Rattle.ale_logic.specs.Fitting.{FitsElement, FitsRule}
use Rattle.ale_logic.specs.Spelling.{spell}
use Rattle.ale_logic.specs.ListNodes.{IsEmptyListOf, IsNonEmptyListOf, hd_of, tl_of}
use Rattle.ale_logic.specs.Words.{Entry, IsEntry, Grammar, HasEntry, HasEmpty, StandsAt}
use Rattle.ale_logic.specs.Headed.{semantic_head, Means, HeadedList, IsChain, Spells}
use Rattle.ale_logic.specs.Headed.Headed.{by_pivot}
use Rattle.ale_logic.specs.Headed.IsPivot.{word_pivot, empty_pivot, rule_pivot}
use Rattle.ale_logic.specs.Headed.IsChain.{arrived, upward}
use Rattle.ale_logic.specs.Headed.Spells.{spelled, spells_head, spells_cat, spells_cats, spells_goal}
use Rattle.ale_logic.specs.Headed.HeadedList.{list_end, list_on}
use Rattle.ale_logic.specs.States.{holds, generates, generates_all, Target, Piece, word, phrase, Item, on, take, called, pivot, connect, State, told, doing, doing_all, grown, with_env, with_phrases, say}
use Rattle.ale_logic.specs.Putting.{moved, putting}
use Rattle.ale_logic.specs.GenerationKids.{daughters, element_items, element_pieces, by_rule, pivot_rule, pivot_rules, one_up, upward_rule, upward_rules, by_entry, entry_kids, empty_kids, generate_kids, pivot_kids, connect_kids, list_kids}
use Rattle.ale_logic.specs.Satisfaction.{Sense, HoldsItem, Satisfies, IsConnected}
use Rattle.ale_logic.specs.WellFormed.{Each}
use Rattle.ale_logic.specs.Steps.{IsBrought, IsAccounted}
use Rattle.ale_step_law.proofs.Carrying.{IsWhole, told_down, doing_down, doing_all_down, grown_down, env_down, phrases_down, say_down, doing_up}
use Rattle.ale_step_law.proofs.PutFits.{put_down}
use Rattle.ale_step_law.proofs.Every.{Every, every_none, every_more, every_one, every_both}
use Rattle.ale_step_law.proofs.Down.{IsBack, back}

pub spell_append : (words : ℕ → List Word) (ps qs : List Piece) → spell words (ps ++ qs) ≡ spell words ps ++ spell words qs
spell_append words [] qs = refl
spell_append words (word w ∷ ps) qs = ap (λ z. w ∷ z) (spell_append words ps qs)
spell_append words (phrase g ∷ ps) qs = ap (λ z. words g ++ z) (spell_append words ps qs) ∙ sym (append_assoc (words g) (spell words ps) (spell words qs))

pub whole_elements : (e c n g : ℕ) (es : List Element) → Each IsWhole (element_items e c n g es)
whole_elements e c n g [] = tt
whole_elements e c n g (cat d ∷ es) = (tt, (tt, whole_elements e c (suc n) (suc g) es))
whole_elements e c n g (cats d ∷ es) = (tt, (tt, whole_elements e c (suc n) (suc g) es))
whole_elements e c n g (derived goal ∷ es) = (tt, whole_elements e c n g es)
whole_elements e c n g (sem_head d ∷ es) = whole_elements e c n g es
whole_elements e c n g (member m ∷ es) = whole_elements e c n g es
whole_elements e c n g (tail m ∷ es) = whole_elements e c n g es

-- the elements spell their pieces
elements_down : (gr : Grammar) (s : Structure) (x : Sense) (us : List Piece) (slots e c n g : ℕ) (es : List Element) → ((y : Element) → Has es y → FitsElement gr.signature slots y) →
    Each (HoldsItem gr s x) (element_items e c n g es) → Spells gr.signature gr.program s (HasEntry gr s) (HasEmpty gr s) (x.var e) (spell x.words us) es (spell x.words (element_pieces us g es))
elements_down gr s x us slots e c n g [] fit p = spelled (x.var e) (spell x.words us)
elements_down gr s x us slots e c n g (cat d ∷ es) fit p =
    spells_cat (x.var e) (spell x.words us) d es (x.node n) (x.words g) (spell x.words (element_pieces us (suc g) es)) p.0 p.1.0
    (elements_down gr s x us slots e c (suc n) (suc g) es (λ y k. fit y (inr k)) p.1.1)
elements_down gr s x us slots e c n g (cats d ∷ es) fit p =
    spells_cats (x.var e) (spell x.words us) d es (x.node n) (x.words g) (spell x.words (element_pieces us (suc g) es)) p.0 p.1.0
    (elements_down gr s x us slots e c (suc n) (suc g) es (λ y k. fit y (inr k)) p.1.1)
elements_down gr s x us slots e c n g (derived goal ∷ es) fit p =
    spells_goal (x.var e) (spell x.words us) goal es (spell x.words (element_pieces us g es)) p.0 (elements_down gr s x us slots e c n g es (λ y k. fit y (inr k)) p.1)
elements_down gr s x us slots e c n g (sem_head d ∷ es) fit p =
    subst (Spells gr.signature gr.program s (HasEntry gr s) (HasEmpty gr s) (x.var e) (spell x.words us) (sem_head d ∷ es)) (sym (spell_append x.words us (element_pieces us g es)))
    (spells_head (x.var e) (spell x.words us) d es (spell x.words (element_pieces us g es)) (elements_down gr s x us slots e c n g es (λ y k. fit y (inr k)) p))
elements_down gr s x us slots e c n g (member m ∷ es) fit p = absurd (fit (member m) (inl refl))
elements_down gr s x us slots e c n g (tail m ∷ es) fit p = absurd (fit (tail m) (inl refl))

module _ (gr : Grammar) (s : Structure) (x : Sense) (remain : List Element) (st : State) where
  -- what a rule's kid says
  record IsByRule (before : ℕ → ℕ → List Item) (us : List Piece) (target : Target) (r : Rule) : Type 0 where
    pub inside : x.node st.next < count s
    pub assigns : IsAssignment s (x.var (length st.envs))
    pub mother : HoldsAt gr.signature s (x.var (length st.envs)) r.mother (x.node st.next)
    pub first : Each (HoldsItem gr s x) (before (length st.envs) st.next)
    pub spells : Spells gr.signature gr.program s (HasEntry gr s) (HasEmpty gr s) (x.var (length st.envs)) (spell x.words us) r.elements (spell x.words (element_pieces us st.phrases r.elements))
    pub connects : IsConnected gr s x (x.node st.next) (spell x.words (element_pieces us st.phrases r.elements)) target
    pub sat : Satisfies gr s x st remain

  rule_down : (waiting : ℕ) (before : ℕ → ℕ → List Item) (us : List Piece) (target : Target) (r : Rule) → FitsRule gr.signature r → Each IsWhole (before (length st.envs) st.next) → Satisfies gr s x (by_rule waiting before us target r st) remain → IsByRule before us target r
  rule_down waiting before us target r fit whole sat =
      let e : ℕ = length st.envs in
      let k : ℕ = daughters r.elements in
      let last : State = with_phrases k (grown (suc k) (with_env r.slots st)) in
      let third : State = doing (connect st.next (element_pieces us st.phrases r.elements) target) last in
      let second : State = doing_all (element_items e waiting (suc st.next) st.phrases r.elements) third in
      let a = doing_all_down gr s remain x (on st.next (holds e r.mother) ∷ before e st.next) second (tt, whole) sat in
      let b = doing_all_down gr s remain x (element_items e waiting (suc st.next) st.phrases r.elements) third (whole_elements e waiting (suc st.next) st.phrases r.elements) a.1 in
      let c = doing_down gr s remain x (connect st.next (element_pieces us st.phrases r.elements) target) last tt b.1 in
      let d = phrases_down gr s remain x k (grown (suc k) (with_env r.slots st)) c.1 in
      record {
        inside = d.fulfils.into st.next (omega arith);
        assigns = d.nodes e;
        mother = a.0.0;
        first = a.0.1;
        spells = elements_down gr s x us r.slots e waiting (suc st.next) st.phrases r.elements fit.elements b.0;
        connects = c.0;
        sat = env_down gr s remain x r.slots st (grown_down gr s remain x (suc k) (with_env r.slots st) d);
      }

  -- words for a node
  pub generate_back : (sems : Option ℕ) → gr.program.semantics ≡ sems → (n g : ℕ) → n < st.next → Every (IsBack gr s x remain st (on n (generates g))) (generate_kids sems n g st)
  generate_back None are n g low = every_none (IsBack gr s x remain st (on n (generates g)))
  generate_back (Some sem) are n g low =
      every_one (IsBack gr s x remain st (on n (generates g))) (doing_all (called sem (n ∷ st.next ∷ []) ∷ pivot st.next (record { node = n; phrase = g; steps = 0 }) ∷ []) (grown 1 st)) go
    where
      go : IsBack gr s x remain st (on n (generates g)) (doing_all (called sem (n ∷ st.next ∷ []) ∷ pivot st.next (record { node = n; phrase = g; steps = 0 }) ∷ []) (grown 1 st))
      go sat =
          let r = doing_all_down gr s remain x (called sem (n ∷ st.next ∷ []) ∷ pivot st.next (record { node = n; phrase = g; steps = 0 }) ∷ []) (grown 1 st) (tt, (tt, tt)) sat in
          let p = r.0.1.0 in
          let few = p.connected.few in
          let q = grown_down gr s remain x 1 st r.1 in
          back gr s x remain st (on n (generates g)) tt
          (by_pivot (x.node n) (x.node st.next) p.pivot p.connected.steps p.words (x.words g) (q.fulfils.into n low) (r.1.fulfils.into st.next (omega arith)) (sem, are, r.0.0) p.is (omega arith) p.connected.chain) q

  -- words for a list
  pub list_back : (lists : Option ListTypes) → gr.program.lists ≡ lists → (n g : ℕ) → n < st.next → Every (IsBack gr s x remain st (on n (generates_all g))) (list_kids lists n g st)
  list_back None are n g low = every_none (IsBack gr s x remain st (on n (generates_all g)))
  list_back (Some l) are n g low =
      every_more (IsBack gr s x remain st (on n (generates_all g))) (told (OfType n l.e_list) (say g [] st)) (longer ∷ []) ends (every_one (IsBack gr s x remain st (on n (generates_all g))) longer goes_on)
    where
      items : List Item
      items = take n l.hd (generates st.phrases) ∷ take n l.tl (generates_all (suc st.phrases)) ∷ []

      third : State
      third = with_phrases 2 st

      second : State
      second = say g (phrase st.phrases ∷ phrase (suc st.phrases) ∷ []) third

      longer : State
      longer = doing_all items (told (OfType n l.ne_list) second)

      ends : IsBack gr s x remain st (on n (generates_all g)) (told (OfType n l.e_list) (say g [] st))
      ends sat =
          let r = told_down gr s remain x (OfType n l.e_list) (say g [] st) sat in
          let q = say_down gr s remain x g [] st r.1 in
          back gr s x remain st (on n (generates_all g)) tt
          (subst (HeadedList gr.signature gr.program s (HasEntry gr s) (HasEmpty gr s) (x.node n)) (sym q.0)
          (list_end (x.node n) (q.1.fulfils.into n low) (subst (λ z. IsEmptyListOf gr.signature z s (x.node n)) (sym are) r.0))) q.1

      goes_on : IsBack gr s x remain st (on n (generates_all g)) longer
      goes_on sat =
          let r = doing_all_down gr s remain x items (told (OfType n l.ne_list) second) (tt, (tt, tt)) sat in
          let q = told_down gr s remain x (OfType n l.ne_list) second r.1 in
          let t = say_down gr s remain x g (phrase st.phrases ∷ phrase (suc st.phrases) ∷ []) third q.1 in
          let u = phrases_down gr s remain x 2 st t.1 in
          let hd = r.0.0 in
          let tl = r.0.1.0 in
          let words : x.words g ≡ x.words st.phrases ++ x.words (suc st.phrases) = t.0 ∙ ap (λ z. x.words st.phrases ++ z) (append-nil (x.words (suc st.phrases))) in
          back gr s x remain st (on n (generates_all g)) tt
          (subst (HeadedList gr.signature gr.program s (HasEntry gr s) (HasEmpty gr s) (x.node n)) (sym words)
          (list_on (x.node n) hd.0 tl.0 (x.words st.phrases) (x.words (suc st.phrases)) (u.fulfils.into n low)
          (record {
            is_list = subst (λ z. IsNonEmptyListOf gr.signature z s (x.node n)) (sym are) q.0;
            hd_is = subst (λ z. hd_of z s (x.node n) ≡ Some hd.0) (sym are) hd.1;
            tl_is = subst (λ z. tl_of z s (x.node n) ≡ Some tl.0) (sym are) tl.1;
          }) hd.2 tl.2)) u

  -- a pivot from an entry or an empty
  record IsByEntry (sm : ℕ) (target : Target) (pieces : List Piece) (entry : Entry) : Type 0 where
    pub inside : x.node (st.next + entry.root) < count s
    pub stands : StandsAt gr.signature s entry (x.node (st.next + entry.root))
    pub means : Means gr.signature gr.program s (x.node (st.next + entry.root)) (x.node sm)
    pub connects : IsConnected gr s x (x.node (st.next + entry.root)) (spell x.words pieces) target
    pub sat : Satisfies gr s x st remain
    pub accounted : (p : ℕ × ℕ) → Has (st.imposed ++ moved st.next entry.kept.imposed) p → IsAccounted gr s x st.imposed p

  entry_down : (sem : ℕ) → gr.program.semantics ≡ Some sem → (sm : ℕ) (target : Target) (pieces : List Piece) (entry : Entry) → Has gr.words.entries entry ⊎ Has gr.words.empties entry → IsEntry gr.signature entry → Satisfies gr s x (by_entry sem sm target pieces entry st) remain → IsByEntry sm target pieces entry
  entry_down sem are sm target pieces entry has is sat =
      let p : ℕ = st.next + entry.root in
      let r = doing_all_down gr s remain x (called sem (p ∷ sm ∷ []) ∷ connect p pieces target ∷ []) (putting entry.kept st) (tt, (tt, tt)) sat in
      let q = put_down gr s remain x entry.kept st r.1 in
      let low = is.root_below in
      record {
        inside = r.1.fulfils.into p (omega arith);
        stands = record { map = λ n. x.node (st.next + n); is = q.0; root_to = refl };
        means = (sem, are, r.0.0);
        connects = r.0.1.0;
        sat = q.1;
        accounted = λ k there. go q.0 k (has_either st.imposed (moved st.next entry.kept.imposed) k there);
      }
    where
      go : IsMorphismAside gr.signature entry.kept.graph s (λ n. x.node (st.next + n)) → (k : ℕ × ℕ) → Has st.imposed k ⊎ Has (moved st.next entry.kept.imposed) k → IsAccounted gr s x st.imposed k
      go m k (inl there) = inl there
      go m k (inr there) =
          let f = has_map (λ (p : ℕ × ℕ). (st.next + p.0, p.1)) entry.kept.imposed k there in
          let brought : IsBrought gr s (x.node (st.next + f.0.0)) f.0.1 = record { entry = entry; has = has; map = λ n. x.node (st.next + n); is = m; node = f.0.0; imposed = f.1; to = refl } in
          subst (IsAccounted gr s x st.imposed) (sym f.2) (inr (inr brought))

  entries_back : (sem : ℕ) → gr.program.semantics ≡ Some sem → (sm : ℕ) (target : Target) (entries : List Entry) → ((e : Entry) → Has entries e → Has gr.words.entries e × IsEntry gr.signature e) → Every (IsBack gr s x remain st (pivot sm target)) (entry_kids sem sm target entries st)
  entries_back sem are sm target [] within = every_none (IsBack gr s x remain st (pivot sm target))
  entries_back sem are sm target (e ∷ es) within =
      every_more (IsBack gr s x remain st (pivot sm target)) (by_entry sem sm target (word e.word ∷ []) e st) (entry_kids sem sm target es st) go (entries_back sem are sm target es (λ d k. within d (inr k)))
    where
      go : IsBack gr s x remain st (pivot sm target) (by_entry sem sm target (word e.word ∷ []) e st)
      go sat =
          let r = entry_down sem are sm target (word e.word ∷ []) e (inl (within e (inl refl)).0) (within e (inl refl)).1 sat in
          record {
            satisfies = doing_up gr s remain x (pivot sm target) st tt
                (record {
                  pivot = x.node (st.next + e.root);
                  words = e.word ∷ [];
                  is = word_pivot (x.node (st.next + e.root)) (x.node sm) e.word r.inside (e, (within e (inl refl)).0, refl, r.stands) r.means;
                  connected = r.connects;
                }) r.sat;
            accounted = r.accounted;
          }

  empties_back : (sem : ℕ) → gr.program.semantics ≡ Some sem → (sm : ℕ) (target : Target) (entries : List Entry) → ((e : Entry) → Has entries e → Has gr.words.empties e × IsEntry gr.signature e) → Every (IsBack gr s x remain st (pivot sm target)) (empty_kids sem sm target entries st)
  empties_back sem are sm target [] within = every_none (IsBack gr s x remain st (pivot sm target))
  empties_back sem are sm target (e ∷ es) within =
      every_more (IsBack gr s x remain st (pivot sm target)) (by_entry sem sm target [] e st) (empty_kids sem sm target es st) go (empties_back sem are sm target es (λ d k. within d (inr k)))
    where
      go : IsBack gr s x remain st (pivot sm target) (by_entry sem sm target [] e st)
      go sat =
          let r = entry_down sem are sm target [] e (inr (within e (inl refl)).0) (within e (inl refl)).1 sat in
          record {
            satisfies = doing_up gr s remain x (pivot sm target) st tt
                (record {
                  pivot = x.node (st.next + e.root);
                  words = [];
                  is = empty_pivot (x.node (st.next + e.root)) (x.node sm) r.inside (e, (within e (inl refl)).0, r.stands) r.means;
                  connected = r.connects;
                }) r.sat;
            accounted = r.accounted;
          }

  -- a pivot from a rule without a head
  pivot_rules_back : (waiting sem : ℕ) → gr.program.semantics ≡ Some sem → (sm : ℕ) (target : Target) (rules : List Rule) → ((r : Rule) → Has rules r → Has gr.program.rules r × FitsRule gr.signature r) → Every (IsBack gr s x remain st (pivot sm target)) (pivot_rules waiting sem sm target rules st)
  pivot_rules_back waiting sem are sm target [] within = every_none (IsBack gr s x remain st (pivot sm target))
  pivot_rules_back waiting sem are sm target (r ∷ rs) within = go (semantic_head r.elements) refl (pivot_rules_back waiting sem are sm target rs (λ q k. within q (inr k)))
    where
      before : ℕ → ℕ → List Item
      before e p = called sem (p ∷ sm ∷ []) ∷ []

      here : semantic_head r.elements ≡ None → IsBack gr s x remain st (pivot sm target) (by_rule waiting before [] target r st)
      here none sat =
          let has = within r (inl refl) in
          let p = rule_down waiting before [] target r has.1 (tt, tt) sat in
          back gr s x remain st (pivot sm target) tt
          (record {
            pivot = x.node st.next;
            words = spell x.words (element_pieces [] st.phrases r.elements);
            is = rule_pivot (x.node st.next) (x.node sm) (spell x.words (element_pieces [] st.phrases r.elements)) r (x.var (length st.envs)) has.0 none p.assigns p.inside p.mother (sem, are, p.first.0) p.spells;
            connected = p.connects;
          }) p.sat

      go : (o : Option Description) → semantic_head r.elements ≡ o → Every (IsBack gr s x remain st (pivot sm target)) (pivot_rules waiting sem sm target rs st) → Every (IsBack gr s x remain st (pivot sm target)) (pivot_rule waiting sem sm target r st o (pivot_rules waiting sem sm target rs st))
      go None e later = every_more (IsBack gr s x remain st (pivot sm target)) (by_rule waiting before [] target r st) (pivot_rules waiting sem sm target rs st) (here e) later
      go (Some d) e later = later

  pub pivot_back : (waiting : ℕ) (sems : Option ℕ) → gr.program.semantics ≡ sems → ((e : Entry) → Has gr.words.entries e ⊎ Has gr.words.empties e → IsEntry gr.signature e) → ((r : Rule) → Has gr.program.rules r → FitsRule gr.signature r) → (sm : ℕ) (target : Target) → Every (IsBack gr s x remain st (pivot sm target)) (pivot_kids gr waiting sems sm target st)
  pivot_back waiting None are words rules sm target = every_none (IsBack gr s x remain st (pivot sm target))
  pivot_back waiting (Some sem) are words rules sm target =
      every_both (IsBack gr s x remain st (pivot sm target)) (entry_kids sem sm target gr.words.entries st) (empty_kids sem sm target gr.words.empties st ++ pivot_rules waiting sem sm target gr.program.rules st)
      (entries_back sem are sm target gr.words.entries (λ e k. (k, words e (inl k))))
      (every_both (IsBack gr s x remain st (pivot sm target)) (empty_kids sem sm target gr.words.empties st) (pivot_rules waiting sem sm target gr.program.rules st)
      (empties_back sem are sm target gr.words.empties (λ e k. (k, words e (inr k))))
      (pivot_rules_back waiting sem are sm target gr.program.rules (λ r k. (k, rules r k))))

  -- a connection: at once, or by one more rule
  upward_rules_back : (waiting p : ℕ) (us : List Piece) (target : Target) → target.steps < gr.program.chain_length → (rules : List Rule) → ((r : Rule) → Has rules r → Has gr.program.rules r × FitsRule gr.signature r) → Every (IsBack gr s x remain st (connect p us target)) (upward_rules waiting p us target rules st)
  upward_rules_back waiting p us target low [] within = every_none (IsBack gr s x remain st (connect p us target))
  upward_rules_back waiting p us target low (r ∷ rs) within = go (semantic_head r.elements) refl (upward_rules_back waiting p us target low rs (λ q k. within q (inr k)))
    where
      before : Description → ℕ → ℕ → List Item
      before d e q = on p (holds e d) ∷ []

      here : (d : Description) → semantic_head r.elements ≡ Some d → IsBack gr s x remain st (connect p us target) (by_rule waiting (before d) us (one_up target) r st)
      here d some sat =
          let has = within r (inl refl) in
          let q = rule_down waiting (before d) us (one_up target) r has.1 (tt, tt) sat in
          let few = q.connects.few in
          back gr s x remain st (connect p us target) tt
          (record {
            steps = suc q.connects.steps;
            few = omega arith;
            chain = upward (x.node p) (x.node st.next) (x.node target.node) q.connects.steps (spell x.words us) (spell x.words (element_pieces us st.phrases r.elements)) (x.words target.phrase) r d (x.var (length st.envs))
                has.0 some q.assigns q.inside q.mother q.first.0 q.spells q.connects.chain;
          }) q.sat

      go : (o : Option Description) → semantic_head r.elements ≡ o → Every (IsBack gr s x remain st (connect p us target)) (upward_rules waiting p us target rs st) → Every (IsBack gr s x remain st (connect p us target)) (upward_rule waiting p us target r st o (upward_rules waiting p us target rs st))
      go None e later = later
      go (Some d) e later = every_more (IsBack gr s x remain st (connect p us target)) (by_rule waiting (before d) us (one_up target) r st) (upward_rules waiting p us target rs st) (here d e) later

  pub connect_back : (waiting p : ℕ) (us : List Piece) (target : Target) → ((r : Rule) → Has gr.program.rules r → FitsRule gr.signature r) → Every (IsBack gr s x remain st (connect p us target)) (connect_kids gr waiting p us target st)
  connect_back waiting p us target rules =
      every_more (IsBack gr s x remain st (connect p us target)) (told (Same p target.node) (say target.phrase us st)) (cond (ltb target.steps gr.program.chain_length) (upward_rules waiting p us target gr.program.rules st) [])
      here (go (ltb target.steps gr.program.chain_length) refl)
    where
      here : IsBack gr s x remain st (connect p us target) (told (Same p target.node) (say target.phrase us st))
      here sat =
          let r = told_down gr s remain x (Same p target.node) (say target.phrase us st) sat in
          let q = say_down gr s remain x target.phrase us st r.1 in
          back gr s x remain st (connect p us target) tt
          (record {
            steps = 0;
            few = omega arith;
            chain = subst (λ z. IsChain gr.signature gr.program s (HasEntry gr s) (HasEmpty gr s) (x.node p) (spell x.words us) z (x.words target.phrase) 0) r.0
                (subst (λ z. IsChain gr.signature gr.program s (HasEntry gr s) (HasEmpty gr s) (x.node p) (spell x.words us) (x.node p) z 0) (sym q.0) (arrived (x.node p) (spell x.words us)));
          }) q.1

      go : (b : Bool) → ltb target.steps gr.program.chain_length ≡ b → Every (IsBack gr s x remain st (connect p us target)) (cond b (upward_rules waiting p us target gr.program.rules st) [])
      go true e = upward_rules_back waiting p us target (ltb-true target.steps gr.program.chain_length e) gr.program.rules (λ r k. (k, rules r k))
      go false e = every_none (IsBack gr s x remain st (connect p us target))
