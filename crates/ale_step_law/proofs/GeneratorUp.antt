-- Upwards, where words are found: nodes, lists, pivots from entries, empties and rules, and connections.
use Rattle.std.proofs.Common.{◌≡◌, ℕ, zero, suc, ◌+◌, ◌-◌, ◌<◌, ◌≤◌, true, ltb, cond, List, [], ◌∷◌, ◌++◌, length, ◌⊎◌, inl, inr, refl, sym, ap, ◌∙◌, subst, arith, Option, Some, None}
use Rattle.std.proofs.lemmas.Bool.{lt-ltb}
use Rattle.std.proofs.lemmas.List.{append-nil}
use Rattle.ale_declared.specs.Lists.{Has}
use Rattle.ale_graph.specs.declared.fact.Fact.TheVariants.{OfType, Same}
use Rattle.ale_graph.specs.Structures.{Structure, count, value_of}
use Rattle.ale_graph.proofs.Lists.{some_one, none_some}
use Rattle.ale_logic.specs.Descriptions.{Description, HoldsAt, IsAssignment}
use Rattle.ale_logic.specs.Programs.{Word, Element, Rule, ListTypes}
use Rattle.ale_logic.specs.Spelling.{spell}
use Rattle.ale_logic.specs.ListNodes.{IsEmptyListOf, IsNonEmptyListOf, hd_of, tl_of}
use Rattle.ale_logic.specs.Derivations.{Derivable, Callable}
use Rattle.ale_logic.specs.Words.{Entry, IsEntry, Grammar, HasEntry, HasEmpty, StandsAt}
use Rattle.ale_logic.specs.Headed.{semantic_head, Headed, HeadedList, IsPivot, IsChain, Spells}
use Rattle.ale_logic.specs.Headed.Headed.{by_pivot}
use Rattle.ale_logic.specs.Headed.IsPivot.{word_pivot, empty_pivot, rule_pivot}
use Rattle.ale_logic.specs.Headed.IsChain.{arrived, upward}
use Rattle.ale_logic.specs.Headed.Spells.{spelled, spells_head, spells_cat, spells_cats, spells_goal}
use Rattle.ale_logic.specs.Headed.HeadedList.{list_end, list_on}
use Rattle.ale_logic.specs.States.{holds, generates, generates_all, Target, Piece, word, phrase, Item, on, take, called, pivot, connect, State, told, doing, doing_all, grown, with_env, with_phrases, say}
use Rattle.ale_logic.specs.Putting.{putting}
use Rattle.ale_logic.specs.GenerationKids.{daughters, element_items, element_pieces, by_rule, pivot_rule, pivot_rules, one_up, upward_rule, upward_rules, by_entry, entry_kids, empty_kids, generate_kids, pivot_kids, connect_kids, list_kids}
use Rattle.ale_logic.specs.Satisfaction.{Sense, HoldsItem, Satisfies, Agrees, IsConnected, HasPivot}
use Rattle.ale_logic.specs.WellFormed.{Each, scope_of, FitPieces, FitsTarget, IsState}
use Rattle.ale_logic.specs.Steps.{SatisfiesOne}
use Rattle.ale_step_law.proofs.Growing.{Goes, goes_self, goes_with_env, goes_grown}
use Rattle.ale_step_law.proofs.Senses.{shift_old, shift_new, shift_first, with_nodes, with_words, with_assignment, var_old, var_new}
use Rattle.ale_step_law.proofs.Agreeing.{agree_on, connected_agrees, spell_agrees}
use Rattle.ale_step_law.proofs.Carrying.{IsWhole, told_up, doing_up, doing_all_up, grown_up, env_up, words_up, say_up, agrees_nodes, agrees_words}
use Rattle.ale_step_law.proofs.PutFits.{put_up}
use Rattle.ale_step_law.proofs.Every.{one_first, one_later, one_new, one_left, one_right}
use Rattle.ale_step_law.proofs.GeneratorDown.{spell_append, whole_elements}

-- one first, then those of the function
abbrev pub ahead : {A : Type 0} → A → (ℕ → A) → ℕ → A
ahead a f zero = a
ahead a f (suc i) = f i

at_first : {A : Type 0} (f : ℕ → A) (n : ℕ) (a : A) → f (n + 0) ≡ a → f n ≡ a
at_first f n a e = let same : n ≡ n + 0 = omega arith in ap f same ∙ e

at_next : {A : Type 0} (f : ℕ → A) (n i : ℕ) (a : A) → f (n + suc i) ≡ a → f (suc n + i) ≡ a
at_next f n i a e = let same : suc n + i ≡ n + suc i = omega arith in ap f same ∙ e

-- The nodes and words of the elements' daughters, and what holds of them in each sense that has them there.
record Daughters (gr : Grammar) (s : Structure) (assign : ℕ → ℕ) (us : List Word) (es : List Element) (vs : List Word) : Type 0 where
  pub nodes : ℕ → ℕ
  pub words : ℕ → List Word
  pub inside : (i : ℕ) → i < daughters es → nodes i < count s
  pub hold : (y : Sense) (e c n g : ℕ) → y.var e ≡ assign → ((i : ℕ) → i < daughters es → y.node (n + i) ≡ nodes i) → ((i : ℕ) → i < daughters es → y.words (g + i) ≡ words i) → Each (HoldsItem gr s y) (element_items e c n g es)
  pub pieces : (y : Sense) (ps : List Piece) (g : ℕ) → spell y.words ps ≡ us → ((i : ℕ) → i < daughters es → y.words (g + i) ≡ words i) → spell y.words (element_pieces ps g es) ≡ vs

headed_inside : (gr : Grammar) (s : Structure) (n : ℕ) (ws : List Word) → Headed gr.signature gr.program s (HasEntry gr s) (HasEmpty gr s) n ws → n < count s
headed_inside gr s n ws (by_pivot _ sem p c us _ inside there means pv few chain) = inside

list_inside : (gr : Grammar) (s : Structure) (n : ℕ) (ws : List Word) → HeadedList gr.signature gr.program s (HasEntry gr s) (HasEmpty gr s) n ws → n < count s
list_inside gr s n _ (list_end _ inside empty) = inside
list_inside gr s n _ (list_on _ hd tl vs ws inside cell first others) = inside

module _ (gr : Grammar) (s : Structure) where
  ahead_inside : (m k : ℕ) (nodes : ℕ → ℕ) → m < count s → ((i : ℕ) → i < k → nodes i < count s) → (i : ℕ) → i < suc k → ahead m nodes i < count s
  ahead_inside m k nodes here there zero low = here
  ahead_inside m k nodes here there (suc i) low = there i (omega arith)

  daughters_of : (assign : ℕ → ℕ) (us : List Word) (es : List Element) (vs : List Word) → Spells gr.signature gr.program s (HasEntry gr s) (HasEmpty gr s) assign us es vs → Daughters gr s assign us es vs
  daughters_of assign us _ _ (spelled _ _) = record {
    nodes = λ i. 0;
    words = λ i. [];
    inside = λ i low. absurd (omega arith);
    hold = λ y e c n g var node said. tt;
    pieces = λ y ps g own said. refl;
  }
  daughters_of assign us _ _ (spells_head _ _ d es ws rest) =
      let r = daughters_of assign us es ws rest in
      record {
        nodes = r.nodes;
        words = r.words;
        inside = r.inside;
        hold = r.hold;
        pieces = λ y ps g own said. spell_append y.words ps (element_pieces ps g es) ∙ ap (λ z. z ++ spell y.words (element_pieces ps g es)) own ∙ ap (λ z. us ++ z) (r.pieces y ps g own said);
      }
  daughters_of assign us _ _ (spells_cat _ _ d es m vs ws here headed rest) =
      let r = daughters_of assign us es ws rest in
      record {
        nodes = ahead m r.nodes;
        words = ahead vs r.words;
        inside = ahead_inside m (daughters es) r.nodes (headed_inside gr s m vs headed) r.inside;
        hold = λ y e c n g var node said.
            let is : y.node n ≡ m = at_first y.node n m (node 0 (omega arith)) in
            let us_are : y.words g ≡ vs = at_first y.words g vs (said 0 (omega arith)) in (
              subst (HoldsAt gr.signature s (y.var e) d) (sym is) (subst (λ z. HoldsAt gr.signature s z d m) (sym var) here),
              (
                subst (λ z. Headed gr.signature gr.program s (HasEntry gr s) (HasEmpty gr s) z (y.words g)) (sym is) (subst (Headed gr.signature gr.program s (HasEntry gr s) (HasEmpty gr s) m) (sym us_are) headed),
                r.hold y e c (suc n) (suc g) var (λ i low. at_next y.node n i (r.nodes i) (node (suc i) (omega arith))) (λ i low. at_next y.words g i (r.words i) (said (suc i) (omega arith))),
              ),
            );
        pieces = λ y ps g own said.
            let us_are : y.words g ≡ vs = at_first y.words g vs (said 0 (omega arith)) in
            ap (λ z. z ++ spell y.words (element_pieces ps (suc g) es)) us_are ∙ ap (λ z. vs ++ z) (r.pieces y ps (suc g) own (λ i low. at_next y.words g i (r.words i) (said (suc i) (omega arith))));
      }
  daughters_of assign us _ _ (spells_cats _ _ d es m vs ws here headed rest) =
      let r = daughters_of assign us es ws rest in
      record {
        nodes = ahead m r.nodes;
        words = ahead vs r.words;
        inside = ahead_inside m (daughters es) r.nodes (list_inside gr s m vs headed) r.inside;
        hold = λ y e c n g var node said.
            let is : y.node n ≡ m = at_first y.node n m (node 0 (omega arith)) in
            let us_are : y.words g ≡ vs = at_first y.words g vs (said 0 (omega arith)) in (
              subst (HoldsAt gr.signature s (y.var e) d) (sym is) (subst (λ z. HoldsAt gr.signature s z d m) (sym var) here),
              (
                subst (λ z. HeadedList gr.signature gr.program s (HasEntry gr s) (HasEmpty gr s) z (y.words g)) (sym is) (subst (HeadedList gr.signature gr.program s (HasEntry gr s) (HasEmpty gr s) m) (sym us_are) headed),
                r.hold y e c (suc n) (suc g) var (λ i low. at_next y.node n i (r.nodes i) (node (suc i) (omega arith))) (λ i low. at_next y.words g i (r.words i) (said (suc i) (omega arith))),
              ),
            );
        pieces = λ y ps g own said.
            let us_are : y.words g ≡ vs = at_first y.words g vs (said 0 (omega arith)) in
            ap (λ z. z ++ spell y.words (element_pieces ps (suc g) es)) us_are ∙ ap (λ z. vs ++ z) (r.pieces y ps (suc g) own (λ i low. at_next y.words g i (r.words i) (said (suc i) (omega arith))));
      }
  daughters_of assign us _ _ (spells_goal _ _ goal es ws derivable rest) =
      let r = daughters_of assign us es ws rest in
      record {
        nodes = r.nodes;
        words = r.words;
        inside = r.inside;
        hold = λ y e c n g var node said. (subst (λ z. Derivable gr.signature gr.program s z goal) (sym var) derivable, r.hold y e c n g var node said);
        pieces = r.pieces;
      }

module _ (gr : Grammar) (s : Structure) (x : Sense) (remain : List Element) (st : State) (is : IsState gr.signature st) (sat : Satisfies gr s x st remain) where
  abbrev Spelled : (ℕ → ℕ) → List Word → List Element → List Word → Type 0
  Spelled assign us es vs = Spells gr.signature gr.program s (HasEntry gr s) (HasEmpty gr s) assign us es vs

  -- a sense that goes on, in which a kid is satisfied
  record IsSatisfied (kid : State) : Type 0 where
    pub sense : Sense
    pub agrees : Agrees st sense x
    pub satisfies : Satisfies gr s sense kid remain

  rule_up : (waiting : ℕ) (before : ℕ → ℕ → List Item) (us : List Piece) (target : Target) (r : Rule) (assign : ℕ → ℕ) (q : ℕ) (vs : List Word) →
      FitPieces (scope_of st) target.phrase us → FitsTarget (scope_of st) target → IsAssignment s assign → q < count s → HoldsAt gr.signature s assign r.mother q →
      Each IsWhole (before (length st.envs) st.next) →
      ((y : Sense) → Agrees st y x → y.var (length st.envs) ≡ assign → y.node st.next ≡ q → Each (HoldsItem gr s y) (before (length st.envs) st.next)) →
      Daughters gr s assign (spell x.words us) r.elements vs → IsConnected gr s x q vs target → IsSatisfied (by_rule waiting before us target r st)
  rule_up waiting before us target r assign q vs fit fit_target nodes inside mother whole first d connected = record {
    sense = y;
    agrees = agrees;
    satisfies = doing_all_up gr s remain y (on st.next (holds e r.mother) ∷ before e st.next) second (tt, whole)
        (subst (λ z. HoldsAt gr.signature s z r.mother (y.node st.next)) (sym var) (subst (HoldsAt gr.signature s assign r.mother) (sym node) mother), first y agrees var node)
        (doing_all_up gr s remain y (element_items e waiting (suc st.next) st.phrases r.elements) third (whole_elements e waiting (suc st.next) st.phrases r.elements)
        (d.hold y e waiting (suc st.next) st.phrases var (λ i low. at_next y.node st.next i (d.nodes i) (shift_new x1.node st.next f (suc i))) (λ i low. shift_new x1.words st.phrases d.words i))
        (doing_up gr s remain y (connect st.next (element_pieces us st.phrases r.elements) target) last tt
        (subst (λ z. IsConnected gr s y z (spell y.words (element_pieces us st.phrases r.elements)) target) (sym node)
        (subst (λ z. IsConnected gr s y q z target) (sym pieces) (connected_agrees gr s (scope_of st) y x (agree_on st y x agrees) q vs target fit_target connected)))
        sat_last));
  }
    where
      e : ℕ
      e = length st.envs

      k : ℕ
      k = daughters r.elements

      f : ℕ → ℕ
      f = ahead q d.nodes

      one : State
      one = with_env r.slots st

      two : State
      two = grown (suc k) (with_env r.slots st)

      last : State
      last = with_phrases k (grown (suc k) (with_env r.slots st))

      third : State
      third = doing (connect st.next (element_pieces us st.phrases r.elements) target) (with_phrases k (grown (suc k) (with_env r.slots st)))

      second : State
      second = doing_all (element_items e waiting (suc st.next) st.phrases r.elements) (doing (connect st.next (element_pieces us st.phrases r.elements) target) (with_phrases k (grown (suc k) (with_env r.slots st))))

      x1 : Sense
      x1 = with_assignment x (length st.envs) assign

      x2 : Sense
      x2 = with_nodes (with_assignment x (length st.envs) assign) st.next f

      y : Sense
      y = with_words (with_nodes (with_assignment x (length st.envs) assign) st.next f) st.phrases d.words

      goes_one : Goes gr.signature st (with_env r.slots st)
      goes_one = goes_with_env gr.signature st st (goes_self gr.signature st is) r.slots

      goes_two : Goes gr.signature st (grown (suc k) (with_env r.slots st))
      goes_two = goes_grown gr.signature st (with_env r.slots st) goes_one (suc k)

      sat_last : Satisfies gr s y (with_phrases k (grown (suc k) (with_env r.slots st))) remain
      sat_last = words_up gr s remain x2 k d.words two goes_two.is (grown_up gr s remain x1 (suc k) f one goes_one.is (ahead_inside gr s q k d.nodes inside d.inside) (env_up gr s remain x r.slots assign st is nodes sat))

      agrees : Agrees st y x
      agrees = record {
        node = λ n low. shift_old x.node st.next f n low;
        var = λ d' low. var_old x (length st.envs) assign d' low;
        words = λ g low. shift_old x.words st.phrases d.words g low;
      }

      var : y.var e ≡ assign
      var = var_new x (length st.envs) assign

      node : y.node st.next ≡ q
      node = shift_first x.node st.next f

      pieces : spell y.words (element_pieces us st.phrases r.elements) ≡ vs
      pieces = d.pieces y us st.phrases (spell_agrees gr s (scope_of st) y x (agree_on st y x agrees) target.phrase us fit) (λ i low. shift_new x.words st.phrases d.words i)

  one_of : (kid : State) (sts : List State) → IsSatisfied kid → SatisfiesOne gr s st x remain (kid ∷ sts)
  one_of kid sts p = one_new gr s st x remain p.sense kid sts p.agrees p.satisfies

  -- words for a node
  generate_go : (sems : Option ℕ) → gr.program.semantics ≡ sems → (n g : ℕ) → n < st.next → (m : ℕ) (ws : List Word) → Headed gr.signature gr.program s (HasEntry gr s) (HasEmpty gr s) m ws → m ≡ x.node n → ws ≡ x.words g → SatisfiesOne gr s st x remain (generate_kids sems n g st)
  generate_go None are n g low m ws (by_pivot _ sem p c us _ inside there means pv few chain) em ew = absurd (none_some (sym are ∙ means.1))
  generate_go (Some pred) are n g low m ws (by_pivot _ sem p c us _ inside there means pv few chain) em ew =
      let y : Sense = with_nodes x st.next (λ i. sem) in
      let target : Target = record { node = n; phrase = g; steps = 0 } in
      let same : means.0 ≡ pred = some_one (sym means.1 ∙ are) in
      let new : y.node st.next ≡ sem = shift_first x.node st.next (λ i. sem) in
      let old : y.node n ≡ m = shift_old x.node st.next (λ i. sem) n low ∙ sym em in
      let nodes : y.node n ∷ y.node st.next ∷ [] ≡ m ∷ sem ∷ [] = ap (λ z. z ∷ y.node st.next ∷ []) old ∙ ap (λ z. m ∷ z ∷ []) new in
      let call : Callable gr.signature gr.program s pred (y.node n ∷ y.node st.next ∷ []) =
      subst (Callable gr.signature gr.program s pred) (sym nodes) (subst (λ z. Callable gr.signature gr.program s z (m ∷ sem ∷ [])) same means.2) in
      let linked : IsConnected gr s y p us target = record {
        steps = c;
        few = omega arith;
        chain = subst (λ z. IsChain gr.signature gr.program s (HasEntry gr s) (HasEmpty gr s) p us z (x.words g) c) (sym old) (subst (λ z. IsChain gr.signature gr.program s (HasEntry gr s) (HasEmpty gr s) p us m z c) ew chain);
      } in
      let found : HasPivot gr s y (y.node st.next) target = record { pivot = p; words = us; is = subst (λ z. IsPivot gr.signature gr.program s (HasEntry gr s) (HasEmpty gr s) p z us) (sym new) pv; connected = linked } in
      one_new gr s st x remain y (doing_all (called pred (n ∷ st.next ∷ []) ∷ pivot st.next target ∷ []) (grown 1 st)) [] (agrees_nodes gr s remain x st (λ i. sem))
      (doing_all_up gr s remain y (called pred (n ∷ st.next ∷ []) ∷ pivot st.next target ∷ []) (grown 1 st) (tt, (tt, tt)) (call, (found, tt)) (grown_up gr s remain x 1 (λ i. sem) st is (λ i q. there) sat))

  pub generate_one : (n g : ℕ) → n < st.next → Headed gr.signature gr.program s (HasEntry gr s) (HasEmpty gr s) (x.node n) (x.words g) → SatisfiesOne gr s st x remain (generate_kids gr.program.semantics n g st)
  generate_one n g low p = generate_go gr.program.semantics refl n g low (x.node n) (x.words g) p refl refl

  -- words for a list
  list_go : (lists : Option ListTypes) → gr.program.lists ≡ lists → (n g : ℕ) → g < st.phrases → (m : ℕ) (ws : List Word) → HeadedList gr.signature gr.program s (HasEntry gr s) (HasEmpty gr s) m ws → m ≡ x.node n → ws ≡ x.words g → SatisfiesOne gr s st x remain (list_kids lists n g st)
  list_go None are n g low m _ (list_end _ inside empty) em ew = absurd (subst (λ z. IsEmptyListOf gr.signature z s m) are empty)
  list_go None are n g low m _ (list_on _ hd tl vs ws inside cell first others) em ew = absurd (subst (λ z. IsNonEmptyListOf gr.signature z s m) are cell.is_list)
  list_go (Some l) are n g low m _ (list_end _ inside empty) em ew =
      let type : IsEmptyListOf gr.signature (Some l) s (x.node n) = subst (IsEmptyListOf gr.signature (Some l) s) em (subst (λ z. IsEmptyListOf gr.signature z s m) are empty) in
      one_first gr s st x remain (told (OfType n l.e_list) (say g [] st)) _
      (told_up gr s remain x (OfType n l.e_list) (say g [] st) type (say_up gr s remain x g [] st (sym ew) sat))
  list_go (Some l) are n g low m _ (list_on _ hd tl vs ws inside cell first others) em ew =
      let f : ℕ → List Word = ahead vs (λ i. ws) in
      let y : Sense = with_words x st.phrases f in
      let ps : List Piece = phrase st.phrases ∷ phrase (suc st.phrases) ∷ [] in
      let items : List Item = take n l.hd (generates st.phrases) ∷ take n l.tl (generates_all (suc st.phrases)) ∷ [] in
      let third : State = with_phrases 2 st in
      let second : State = say g ps third in
      let longer : State = doing_all items (told (OfType n l.ne_list) second) in
      let next : suc st.phrases ≡ st.phrases + 1 = omega arith in
      let one : y.words st.phrases ≡ vs = shift_first x.words st.phrases f in
      let two : y.words (suc st.phrases) ≡ ws = ap y.words next ∙ shift_new x.words st.phrases f 1 in
      let whole : y.words g ≡ vs ++ ws = shift_old x.words st.phrases f g low ∙ sym ew in
      let parts : spell y.words ps ≡ vs ++ ws = ap (λ z. z ++ (y.words (suc st.phrases) ++ [])) one ∙ ap (λ z. vs ++ (z ++ [])) two ∙ ap (λ z. vs ++ z) (append-nil ws) in
      let type : IsNonEmptyListOf gr.signature (Some l) s (x.node n) = subst (IsNonEmptyListOf gr.signature (Some l) s) em (subst (λ z. IsNonEmptyListOf gr.signature z s m) are cell.is_list) in
      let hd_is : value_of s (x.node n) l.hd ≡ Some hd = subst (λ z. value_of s z l.hd ≡ Some hd) em (subst (λ z. hd_of z s m ≡ Some hd) are cell.hd_is) in
      let tl_is : value_of s (x.node n) l.tl ≡ Some tl = subst (λ z. value_of s z l.tl ≡ Some tl) em (subst (λ z. tl_of z s m ≡ Some tl) are cell.tl_is) in
      let told_sat : Satisfies gr s y (told (OfType n l.ne_list) second) remain = told_up gr s remain y (OfType n l.ne_list) second type (say_up gr s remain y g ps third (whole ∙ sym parts) (words_up gr s remain x 2 f st is sat)) in
      one_later gr s st x remain (told (OfType n l.e_list) (say g [] st)) (longer ∷ [])
      (one_new gr s st x remain y longer [] (agrees_words gr s remain x st f)
      (doing_all_up gr s remain y items (told (OfType n l.ne_list) second) (tt, (tt, tt))
      ((hd, hd_is, subst (Headed gr.signature gr.program s (HasEntry gr s) (HasEmpty gr s) hd) (sym one) first), ((tl, tl_is, subst (HeadedList gr.signature gr.program s (HasEntry gr s) (HasEmpty gr s) tl) (sym two) others), tt))
      told_sat))

  pub list_one : (n g : ℕ) → g < st.phrases → HeadedList gr.signature gr.program s (HasEntry gr s) (HasEmpty gr s) (x.node n) (x.words g) → SatisfiesOne gr s st x remain (list_kids gr.program.lists n g st)
  list_one n g low p = list_go gr.program.lists refl n g low (x.node n) (x.words g) p refl refl

  -- a pivot from an entry or an empty
  entry_up : (pred sm : ℕ) (target : Target) (pieces : List Piece) (entry : Entry) (p : ℕ) (ws : List Word) → sm < st.next → FitsTarget (scope_of st) target → IsEntry gr.signature entry → StandsAt gr.signature s entry p → Callable gr.signature gr.program s pred (p ∷ x.node sm ∷ []) →
      ((y : Sense) → spell y.words pieces ≡ ws) → IsConnected gr s x p ws target → IsSatisfied (by_entry pred sm target pieces entry st)
  entry_up pred sm target pieces entry p ws low fit is_entry stands call spells connected =
      let y : Sense = with_nodes x st.next stands.map in
      let agrees : Agrees st y x = agrees_nodes gr s remain x st stands.map in
      let new : y.node (st.next + entry.root) ≡ p = shift_new x.node st.next stands.map entry.root ∙ stands.root_to in
      let old : y.node sm ≡ x.node sm = shift_old x.node st.next stands.map sm low in
      let nodes : (y.node (st.next + entry.root)) ∷ y.node sm ∷ [] ≡ p ∷ x.node sm ∷ [] = ap (λ z. z ∷ y.node sm ∷ []) new ∙ ap (λ z. p ∷ z ∷ []) old in
      let linked : IsConnected gr s y (y.node (st.next + entry.root)) (spell y.words pieces) target =
      subst (λ z. IsConnected gr s y z (spell y.words pieces) target) (sym new) (subst (λ z. IsConnected gr s y p z target) (sym (spells y)) (connected_agrees gr s (scope_of st) y x (agree_on st y x agrees) p ws target fit connected)) in
      record {
        sense = y;
        agrees = agrees;
        satisfies = doing_all_up gr s remain y (called pred ((st.next + entry.root) ∷ sm ∷ []) ∷ connect (st.next + entry.root) pieces target ∷ []) (putting entry.kept st) (tt, (tt, tt))
            (subst (Callable gr.signature gr.program s pred) (sym nodes) call, (linked, tt))
            (put_up gr s remain x entry.kept entry.root stands.map st is_entry is stands.is sat);
      }

  entries_one : (pred sm : ℕ) (target : Target) (entries : List Entry) (entry : Entry) → Has entries entry → IsSatisfied (by_entry pred sm target (word entry.word ∷ []) entry st) → SatisfiesOne gr s st x remain (entry_kids pred sm target entries st)
  entries_one pred sm target [] entry has p = absurd has
  entries_one pred sm target (e ∷ es) entry (inl same) p =
      one_of (by_entry pred sm target (word e.word ∷ []) e st) (entry_kids pred sm target es st) (subst (λ (z : Entry). IsSatisfied (by_entry pred sm target (word z.word ∷ []) z st)) same p)
  entries_one pred sm target (e ∷ es) entry (inr has) p =
      one_later gr s st x remain (by_entry pred sm target (word e.word ∷ []) e st) (entry_kids pred sm target es st) (entries_one pred sm target es entry has p)

  empties_one : (pred sm : ℕ) (target : Target) (entries : List Entry) (entry : Entry) → Has entries entry → IsSatisfied (by_entry pred sm target [] entry st) → SatisfiesOne gr s st x remain (empty_kids pred sm target entries st)
  empties_one pred sm target [] entry has p = absurd has
  empties_one pred sm target (e ∷ es) entry (inl same) p =
      one_of (by_entry pred sm target [] e st) (empty_kids pred sm target es st) (subst (λ (z : Entry). IsSatisfied (by_entry pred sm target [] z st)) same p)
  empties_one pred sm target (e ∷ es) entry (inr has) p =
      one_later gr s st x remain (by_entry pred sm target [] e st) (empty_kids pred sm target es st) (empties_one pred sm target es entry has p)

  -- a pivot from a rule without a head
  abbrev PivotKid : ℕ → ℕ → ℕ → Target → Rule → Type 0
  PivotKid waiting pred sm target r = IsSatisfied (by_rule waiting (λ e p. called pred (p ∷ sm ∷ []) ∷ []) [] target r st)

  pivot_rules_one : (waiting pred sm : ℕ) (target : Target) (rules : List Rule) (r : Rule) → Has rules r → semantic_head r.elements ≡ None → PivotKid waiting pred sm target r → SatisfiesOne gr s st x remain (pivot_rules waiting pred sm target rules st)
  pivot_rules_one waiting pred sm target [] r has none p = absurd has
  pivot_rules_one waiting pred sm target (r0 ∷ rs) r (inl same) none p = here (semantic_head r0.elements) (ap (λ (z : Rule). semantic_head z.elements) (sym same) ∙ none) (subst (PivotKid waiting pred sm target) same p)
    where
      here : (o : Option Description) → o ≡ None → PivotKid waiting pred sm target r0 → SatisfiesOne gr s st x remain (pivot_rule waiting pred sm target r0 st o (pivot_rules waiting pred sm target rs st))
      here None e q = one_of (by_rule waiting (λ e p. called pred (p ∷ sm ∷ []) ∷ []) [] target r0 st) (pivot_rules waiting pred sm target rs st) q
      here (Some d) e q = absurd (none_some (sym e))
  pivot_rules_one waiting pred sm target (r0 ∷ rs) r (inr has) none p = later (semantic_head r0.elements) (pivot_rules_one waiting pred sm target rs r has none p)
    where
      later : (o : Option Description) → SatisfiesOne gr s st x remain (pivot_rules waiting pred sm target rs st) → SatisfiesOne gr s st x remain (pivot_rule waiting pred sm target r0 st o (pivot_rules waiting pred sm target rs st))
      later None q = one_later gr s st x remain (by_rule waiting (λ e p. called pred (p ∷ sm ∷ []) ∷ []) [] target r0 st) (pivot_rules waiting pred sm target rs st) q
      later (Some d) q = q

  pivot_go : (waiting : ℕ) (sems : Option ℕ) → gr.program.semantics ≡ sems → ((e : Entry) → Has gr.words.entries e ⊎ Has gr.words.empties e → IsEntry gr.signature e) → (sm : ℕ) (target : Target) → sm < st.next → FitsTarget (scope_of st) target →
      (p sem : ℕ) (ws : List Word) → IsPivot gr.signature gr.program s (HasEntry gr s) (HasEmpty gr s) p sem ws → sem ≡ x.node sm → IsConnected gr s x p ws target → SatisfiesOne gr s st x remain (pivot_kids gr waiting sems sm target st)
  pivot_go waiting None are words sm target low fit p sem _ (word_pivot _ _ w inside entry means) es connected = absurd (none_some (sym are ∙ means.1))
  pivot_go waiting None are words sm target low fit p sem _ (empty_pivot _ _ inside entry means) es connected = absurd (none_some (sym are ∙ means.1))
  pivot_go waiting None are words sm target low fit p sem ws (rule_pivot _ _ _ r assign has none nodes inside mother means spells) es connected = absurd (none_some (sym are ∙ means.1))
  pivot_go waiting (Some pred) are words sm target low fit p sem _ (word_pivot _ _ w inside entry means) es connected =
      let same : means.0 ≡ pred = some_one (sym means.1 ∙ are) in
      let call : Callable gr.signature gr.program s pred (p ∷ x.node sm ∷ []) = subst (λ z. Callable gr.signature gr.program s pred (p ∷ z ∷ [])) es (subst (λ z. Callable gr.signature gr.program s z (p ∷ sem ∷ [])) same means.2) in
      one_left gr s st x remain (entry_kids pred sm target gr.words.entries st) (empty_kids pred sm target gr.words.empties st ++ pivot_rules waiting pred sm target gr.program.rules st)
      (entries_one pred sm target gr.words.entries entry.0 entry.1
      (entry_up pred sm target (word entry.0.word ∷ []) entry.0 p (w ∷ []) low fit (words entry.0 (inl entry.1)) entry.3 call (λ y. ap (λ z. z ∷ []) entry.2) connected))
  pivot_go waiting (Some pred) are words sm target low fit p sem _ (empty_pivot _ _ inside entry means) es connected =
      let same : means.0 ≡ pred = some_one (sym means.1 ∙ are) in
      let call : Callable gr.signature gr.program s pred (p ∷ x.node sm ∷ []) = subst (λ z. Callable gr.signature gr.program s pred (p ∷ z ∷ [])) es (subst (λ z. Callable gr.signature gr.program s z (p ∷ sem ∷ [])) same means.2) in
      one_right gr s st x remain (entry_kids pred sm target gr.words.entries st) (empty_kids pred sm target gr.words.empties st ++ pivot_rules waiting pred sm target gr.program.rules st)
      (one_left gr s st x remain (empty_kids pred sm target gr.words.empties st) (pivot_rules waiting pred sm target gr.program.rules st)
      (empties_one pred sm target gr.words.empties entry.0 entry.1
      (entry_up pred sm target [] entry.0 p [] low fit (words entry.0 (inr entry.1)) entry.2 call (λ y. refl) connected)))
  pivot_go waiting (Some pred) are words sm target low fit p sem ws (rule_pivot _ _ _ r assign has none nodes inside mother means spells) es connected =
      let same : means.0 ≡ pred = some_one (sym means.1 ∙ are) in
      let call : Callable gr.signature gr.program s pred (p ∷ x.node sm ∷ []) = subst (λ z. Callable gr.signature gr.program s pred (p ∷ z ∷ [])) es (subst (λ z. Callable gr.signature gr.program s z (p ∷ sem ∷ [])) same means.2) in
      one_right gr s st x remain (entry_kids pred sm target gr.words.entries st) (empty_kids pred sm target gr.words.empties st ++ pivot_rules waiting pred sm target gr.program.rules st)
      (one_right gr s st x remain (empty_kids pred sm target gr.words.empties st) (pivot_rules waiting pred sm target gr.program.rules st)
      (pivot_rules_one waiting pred sm target gr.program.rules r has none
      (rule_up waiting (λ e q. called pred (q ∷ sm ∷ []) ∷ []) [] target r assign p ws tt fit nodes inside mother (tt, tt)
      (λ y agrees var node. (subst (Callable gr.signature gr.program s pred) (sym (ap (λ z. z ∷ y.node sm ∷ []) node ∙ ap (λ z. p ∷ z ∷ []) (agrees.node sm low))) call, tt))
      (daughters_of gr s assign [] r.elements ws spells) connected)))

  pub pivot_one : (waiting : ℕ) → ((e : Entry) → Has gr.words.entries e ⊎ Has gr.words.empties e → IsEntry gr.signature e) → (sm : ℕ) (target : Target) → sm < st.next → FitsTarget (scope_of st) target → HasPivot gr s x (x.node sm) target → SatisfiesOne gr s st x remain (pivot_kids gr waiting gr.program.semantics sm target st)
  pivot_one waiting words sm target low fit p = pivot_go waiting gr.program.semantics refl words sm target low fit p.pivot (x.node sm) p.words p.is refl p.connected

  -- a connection: at once, or by one more rule
  abbrev UpwardKid : ℕ → ℕ → List Piece → Target → Description → Rule → Type 0
  UpwardKid waiting p us target d r = IsSatisfied (by_rule waiting (λ e q. on p (holds e d) ∷ []) us (one_up target) r st)

  upward_rules_one : (waiting p : ℕ) (us : List Piece) (target : Target) (rules : List Rule) (r : Rule) (d : Description) → Has rules r → semantic_head r.elements ≡ Some d → UpwardKid waiting p us target d r → SatisfiesOne gr s st x remain (upward_rules waiting p us target rules st)
  upward_rules_one waiting p us target [] r d has some k = absurd has
  upward_rules_one waiting p us target (r0 ∷ rs) r d (inl same) some k = here (semantic_head r0.elements) (ap (λ (z : Rule). semantic_head z.elements) (sym same) ∙ some) (subst (UpwardKid waiting p us target d) same k)
    where
      here : (o : Option Description) → o ≡ Some d → UpwardKid waiting p us target d r0 → SatisfiesOne gr s st x remain (upward_rule waiting p us target r0 st o (upward_rules waiting p us target rs st))
      here None e q = absurd (none_some e)
      here (Some d0) e q =
          one_of (by_rule waiting (λ e q. on p (holds e d0) ∷ []) us (one_up target) r0 st) (upward_rules waiting p us target rs st) (subst (λ z. UpwardKid waiting p us target z r0) (sym (some_one e)) q)
  upward_rules_one waiting p us target (r0 ∷ rs) r d (inr has) some k = later (semantic_head r0.elements) (upward_rules_one waiting p us target rs r d has some k)
    where
      later : (o : Option Description) → SatisfiesOne gr s st x remain (upward_rules waiting p us target rs st) → SatisfiesOne gr s st x remain (upward_rule waiting p us target r0 st o (upward_rules waiting p us target rs st))
      later None q = q
      later (Some d0) q = one_later gr s st x remain (by_rule waiting (λ e q. on p (holds e d0) ∷ []) us (one_up target) r0 st) (upward_rules waiting p us target rs st) q

  connect_go : (waiting p : ℕ) (us : List Piece) (target : Target) → p < st.next → FitsTarget (scope_of st) target → FitPieces (scope_of st) target.phrase us → (a : ℕ) (vs : List Word) (b : ℕ) (ws : List Word) (k : ℕ) → IsChain gr.signature gr.program s (HasEntry gr s) (HasEmpty gr s) a vs b ws k →
      a ≡ x.node p → vs ≡ spell x.words us → b ≡ x.node target.node → ws ≡ x.words target.phrase → k ≤ gr.program.chain_length - target.steps → SatisfiesOne gr s st x remain (connect_kids gr waiting p us target st)
  connect_go waiting p us target low fit fit_us _ _ _ _ _ (arrived a vs) ea ev eb ew few =
      one_first gr s st x remain (told (Same p target.node) (say target.phrase us st)) _
      (told_up gr s remain x (Same p target.node) (say target.phrase us st) (sym ea ∙ eb) (say_up gr s remain x target.phrase us st (sym ew ∙ ev) sat))
  connect_go waiting p us target low fit fit_us _ _ _ _ _ (upward a q b c vs us' ws r d assign has some nodes inside mother below spells chain) ea ev eb ew few =
      one_later gr s st x remain (told (Same p target.node) (say target.phrase us st)) _
      (subst (λ z. SatisfiesOne gr s st x remain (cond z (upward_rules waiting p us target gr.program.rules st) [])) (sym more)
      (upward_rules_one waiting p us target gr.program.rules r d has some
      (rule_up waiting (λ e q. on p (holds e d) ∷ []) us (one_up target) r assign q us' fit_us fit nodes inside mother (tt, tt)
      (λ y agrees var node. (subst (λ z. HoldsAt gr.signature s z d (y.node p)) (sym var) (subst (HoldsAt gr.signature s assign d) (sym (agrees.node p low ∙ sym ea)) below), tt))
      (daughters_of gr s assign (spell x.words us) r.elements us' (subst (λ z. Spelled assign z r.elements us') ev spells))
      (record {
        steps = c;
        few = omega (arith, few);
        chain = subst (λ z. IsChain gr.signature gr.program s (HasEntry gr s) (HasEmpty gr s) q us' z (x.words target.phrase) c) eb (subst (λ z. IsChain gr.signature gr.program s (HasEntry gr s) (HasEmpty gr s) q us' b z c) ew chain);
      }))))
    where
      more : ltb target.steps gr.program.chain_length ≡ true
      more = lt-ltb target.steps gr.program.chain_length (omega (arith, few))

  pub connect_one : (waiting p : ℕ) (us : List Piece) (target : Target) → p < st.next → FitsTarget (scope_of st) target → FitPieces (scope_of st) target.phrase us → IsConnected gr s x (x.node p) (spell x.words us) target → SatisfiesOne gr s st x remain (connect_kids gr waiting p us target st)
  connect_one waiting p us target low fit fit_us k = connect_go waiting p us target low fit fit_us (x.node p) (spell x.words us) (x.node target.node) (x.words target.phrase) k.steps k.chain refl refl refl refl k.few
