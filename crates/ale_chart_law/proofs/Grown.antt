-- The chart as it grows: each result of the searches of good items is good, each stands in the chart or is replaced, and
-- where no search was cut off, all searches of the items that were processed were made to their ends.
use Rattle.std.proofs.Common.{◌≡◌, ℕ, zero, suc, Bool, true, false, eqb, List, [], ◌∷◌, ◌++◌, map, ◌⊎◌, inl, inr, refl, sym, subst, if◌then◌else◌}
use Rattle.std.specs.List.{flat_map}
use Rattle.std.proofs.lemmas.Bool.{and_parts, eqb-true}
use Rattle.ale_declared.specs.Lists.{Has}
use Rattle.ale_declared.proofs.ListLemmas.{Has-flat_map, flat_map_has}
use Rattle.ale_hierarchy.specs.Hierarchy.{Hierarchy}
use Rattle.ale_graph.proofs.Lists.{has_left, has_right, has_either, has_map}
use Rattle.ale_engine.specs.Engine.{search}
use Rattle.ale_engine.specs.Growth.{Found, run_all}
use Rattle.ale_engine.specs.GrowthLaws.{IsMade, RunAllLaw}
use Rattle.ale_engine.proofs.EngineLaw.{engine_law}
use Rattle.ale_logic.specs.Programs.{Word, Element, Program}
use Rattle.ale_logic.specs.States.{State}
use Rattle.ale_logic.specs.Parts.{Extract}
use Rattle.ale_logic.specs.PartLaws.{PartLaw}
use Rattle.ale_logic.specs.PutLaws.{PutLaws}
use Rattle.ale_logic.specs.Runs.{RunLaws}
use Rattle.ale_logic.specs.Visits.{Answer, visit}
use Rattle.ale_logic.specs.Lexicons.{wordless}
use Rattle.ale_logic.specs.Answers.{IsAccepted}
use Rattle.ale_logic.specs.Starts.{ChartItem, own_start, daughter_start}
use Rattle.ale_logic.specs.Charts.{ItemTask, item_task, own_tasks, daughter_tasks, pair_tasks, tasks_of, Keep, put_kept, Chart, items, after_item, process_first, processed}
use Rattle.ale_logic.specs.ChartLaws.{Replaces}
use Rattle.ale_chart_law.proofs.Items.{own_is, daughter_is}
use Rattle.ale_chart_law.proofs.Searches.{came}
use Rattle.ale_chart_law.proofs.Covering.{Stands, Ran}
use Rattle.ale_chart_law.proofs.Good.{IsGood, own_good, pair_good}

-- a search that is due is one of the item's own, or one of two items of which one takes the other
pub data IsDue (extract : Extract) (program : Program) (before : List ChartItem) (x : ChartItem) : ItemTask → Type 0 where
  own_due : (t : ItemTask) → Has (own_tasks extract program x x.rest) t → IsDue extract program before x t
  takes_due : (t : ItemTask) (y : ChartItem) → Has before y → Has (daughter_tasks extract program x x.rest y y.rest) t → IsDue extract program before x t
  taken_due : (t : ItemTask) (y : ChartItem) → Has before y → Has (daughter_tasks extract program y y.rest x x.rest) t → IsDue extract program before x t

module _ (extract : Extract) (program : Program) (before : List ChartItem) (x : ChartItem) where
  pub due : (t : ItemTask) → Has (tasks_of extract program before x) t → IsDue extract program before x t
  due t has = go (has_either (own_tasks extract program x x.rest) (flat_map (pair_tasks extract program x) before) t has)
    where
      pair : (y : ChartItem) → Has before y → Has (daughter_tasks extract program x x.rest y y.rest) t ⊎ Has (daughter_tasks extract program y y.rest x x.rest) t → IsDue extract program before x t
      pair y at (inl p) = takes_due t y at p
      pair y at (inr p) = taken_due t y at p

      go : Has (own_tasks extract program x x.rest) t ⊎ Has (flat_map (pair_tasks extract program x) before) t → IsDue extract program before x t
      go (inl p) = own_due t p
      go (inr p) =
          let r = flat_map_has (pair_tasks extract program x) before t p in
          pair r.0 r.1 (has_either (daughter_tasks extract program x x.rest r.0 r.0.rest) (daughter_tasks extract program r.0 r.0.rest x x.rest) t r.2)

  pub in_own : (t : ItemTask) → Has (own_tasks extract program x x.rest) t → Has (tasks_of extract program before x) t
  in_own t p = has_left (own_tasks extract program x x.rest) (flat_map (pair_tasks extract program x) before) t p

  pub in_takes : (t : ItemTask) (y : ChartItem) → Has before y → Has (daughter_tasks extract program x x.rest y y.rest) t → Has (tasks_of extract program before x) t
  in_takes t y at p =
      has_right (own_tasks extract program x x.rest) (flat_map (pair_tasks extract program x) before) t
      (Has-flat_map (pair_tasks extract program x) before y t at (has_left (daughter_tasks extract program x x.rest y y.rest) (daughter_tasks extract program y y.rest x x.rest) t p))

  pub in_taken : (t : ItemTask) (y : ChartItem) → Has before y → Has (daughter_tasks extract program y y.rest x x.rest) t → Has (tasks_of extract program before x) t
  in_taken t y at p =
      has_right (own_tasks extract program x x.rest) (flat_map (pair_tasks extract program x) before) t
      (Has-flat_map (pair_tasks extract program x) before y t at (has_right (daughter_tasks extract program x x.rest y y.rest) (daughter_tasks extract program y y.rest x x.rest) t p))

-- an item does not take itself
takes_self : (extract : Extract) (program : Program) (x : ChartItem) (t : ItemTask) → Has (daughter_tasks extract program x x.rest x x.rest) t → ⊥
takes_self extract program x t = go x.rest
  where
    go : (es : List Element) → Has (daughter_tasks extract program x es x es) t → ⊥
    go [] p = p
    go (e ∷ es) p = p

-- what waits stays, and what comes is of the results
pub put_old : (keep : Keep) (done todo xs : List ChartItem) (y : ChartItem) → Has todo y → Has (put_kept keep done todo xs) y
put_old keep done todo [] y has = has
put_old keep done todo (x ∷ xs) y has = go (put_old keep done (todo ++ x ∷ []) xs y (has_left todo (x ∷ []) y has)) (put_old keep done todo xs y has) (keep (done ++ todo) x)
  where
    go : Has (put_kept keep done (todo ++ x ∷ []) xs) y → Has (put_kept keep done todo xs) y → (b : Bool) → Has (put_kept keep done (if b then todo ++ x ∷ [] else todo) xs) y
    go one two true = one
    go one two false = two

pub put_from : (keep : Keep) (done todo xs : List ChartItem) (y : ChartItem) → Has (put_kept keep done todo xs) y → Has todo y ⊎ Has xs y
put_from keep done todo [] y has = inl has
put_from keep done todo (x ∷ xs) y has = go (put_from keep done (todo ++ x ∷ []) xs y) (put_from keep done todo xs y) (keep (done ++ todo) x) has
  where
    shorter : Has todo y ⊎ Has xs y → Has todo y ⊎ Has (x ∷ xs) y
    shorter (inl p) = inl p
    shorter (inr p) = inr (inr p)

    longer : Has (todo ++ x ∷ []) y ⊎ Has xs y → Has todo y ⊎ Has (x ∷ xs) y
    longer (inl p) = elim (has_either todo (x ∷ []) y p) [
      | inl q ↦ inl q
      | inr q ↦ elim q [ inl e ↦ inr (inl e) | inr k ↦ absurd k ]
    ]
    longer (inr p) = inr (inr p)

    go : (Has (put_kept keep done (todo ++ x ∷ []) xs) y → Has (todo ++ x ∷ []) y ⊎ Has xs y) → (Has (put_kept keep done todo xs) y → Has todo y ⊎ Has xs y) → (b : Bool) → Has (put_kept keep done (if b then todo ++ x ∷ [] else todo) xs) y → Has todo y ⊎ Has (x ∷ xs) y
    go one two true p = longer (one p)
    go one two false p = shorter (two p)

pub stands_on : (h : Hierarchy) (all more : List ChartItem) (x : ChartItem) → ((y : ChartItem) → Has all y → Has more y) → Stands h all x → Stands h more x
stands_on h all more x sub (inl p) = inl (sub x p)
stands_on h all more x sub (inr (y, p, by)) = inr (y, sub y p, by)

pub ran_on : (h : Hierarchy) (program : Program) (all more : List ChartItem) (t : ItemTask) → ((y : ChartItem) → Has all y → Has more y) → Ran h program all t → Ran h program more t
ran_on h program all more t sub r = record { budget = r.budget; ended = r.ended; results = λ a has. stands_on h all more (t.made a) sub (r.results a has) }

-- each result stands
pub put_stands : (h : Hierarchy) (keep : Keep) → ((before : List ChartItem) (x : ChartItem) → keep before x ≡ false → (y : ChartItem) × Has before y × Replaces h y x) → (done todo xs : List ChartItem) (z : ChartItem) → Has xs z → Stands h (done ++ put_kept keep done todo xs) z
put_stands h keep law done todo [] z has = absurd has
put_stands h keep law done todo (x ∷ xs) z (inl e) = subst (Stands h (done ++ put_kept keep done todo (x ∷ xs))) (sym e) (go (keep (done ++ todo) x) refl)
  where
    go : (b : Bool) → keep (done ++ todo) x ≡ b → Stands h (done ++ put_kept keep done (if b then todo ++ x ∷ [] else todo) xs) x
    go true q = inl (has_right done (put_kept keep done (todo ++ x ∷ []) xs) x (put_old keep done (todo ++ x ∷ []) xs x (has_right todo (x ∷ []) x (inl refl))))
    go false q =
        let r = law (done ++ todo) x q in
        inr (r.0, elim (has_either done todo r.0 r.1) [ inl p ↦ has_left done (put_kept keep done todo xs) r.0 p | inr p ↦ has_right done (put_kept keep done todo xs) r.0 (put_old keep done todo xs r.0 p) ], r.2)
put_stands h keep law done todo (x ∷ xs) z (inr has) = go (put_stands h keep law done (todo ++ x ∷ []) xs z has) (put_stands h keep law done todo xs z has) (keep (done ++ todo) x)
  where
    go : Stands h (done ++ put_kept keep done (todo ++ x ∷ []) xs) z → Stands h (done ++ put_kept keep done todo xs) z → (b : Bool) → Stands h (done ++ put_kept keep done (if b then todo ++ x ∷ [] else todo) xs) z
    go one two true = one
    go one two false = two

-- an element of the list with one more element behind
behind : {A : Type 0} (xs : List A) (x y : A) → Has (xs ++ x ∷ []) y → Has xs y ⊎ (y ≡ x)
behind xs x y has = elim (has_either xs (x ∷ []) y has) [
  | inl p ↦ inl p
  | inr p ↦ elim p [ inl e ↦ inr e | inr k ↦ absurd k ]
]

module _ (h : Hierarchy) (program : Program) (extract : Extract) (keep : Keep) where
  -- what the searches of an item find
  abbrev pub results : Chart → ChartItem → Found ChartItem
  results c x = run_all (visit (wordless h program)) (tasks_of extract program c.done x) c.left

  pub law : (c : Chart) (x : ChartItem) → RunAllLaw State Answer ChartItem (visit (wordless h program)) (tasks_of extract program c.done x) c.left
  law c x = (engine_law State Answer ChartItem (visit (wordless h program))).runs (tasks_of extract program c.done x) c.left

  -- items stay
  pub item_stays : (c : Chart) (x : ChartItem) (xs : List ChartItem) → c.todo ≡ x ∷ xs → (f : Found ChartItem) (y : ChartItem) → Has (items c) y → Has (items (after_item keep c x xs f)) y
  item_stays c x xs eq f y has = go (has_either c.done c.todo y has)
    where
      in_done : Has (c.done ++ x ∷ []) y → Has ((c.done ++ x ∷ []) ++ put_kept keep (c.done ++ x ∷ []) xs f.all) y
      in_done p = has_left (c.done ++ x ∷ []) (put_kept keep (c.done ++ x ∷ []) xs f.all) y p

      in_todo : Has (x ∷ xs) y → Has ((c.done ++ x ∷ []) ++ put_kept keep (c.done ++ x ∷ []) xs f.all) y
      in_todo (inl p) = in_done (has_right c.done (x ∷ []) y (inl p))
      in_todo (inr p) = has_right (c.done ++ x ∷ []) (put_kept keep (c.done ++ x ∷ []) xs f.all) y (put_old keep (c.done ++ x ∷ []) xs f.all y p)

      go : Has c.done y ⊎ Has c.todo y → Has ((c.done ++ x ∷ []) ++ put_kept keep (c.done ++ x ∷ []) xs f.all) y
      go (inl p) = in_done (has_left c.done (x ∷ []) y p)
      go (inr p) = in_todo (subst (λ z. Has z y) eq p)

  pub items_stay : (n : ℕ) (c : Chart) (y : ChartItem) → Has (items c) y → Has (items (processed extract keep (wordless h program) n c)) y
  items_stay zero c y has = has
  items_stay (suc n) c y has = items_stay n (process_first extract keep (wordless h program) c c.todo) y (go c.todo refl)
    where
      go : (xs : List ChartItem) → c.todo ≡ xs → Has (items (process_first extract keep (wordless h program) c xs)) y
      go [] eq = has
      go (x ∷ xs) eq = item_stays c x xs eq (results c x) y has

  -- no search was cut off before
  pub was_finished : (n : ℕ) (c : Chart) → (processed extract keep (wordless h program) n c).finished ≡ true → c.finished ≡ true
  was_finished zero c fin = fin
  was_finished (suc n) c fin = go c.todo (was_finished n (process_first extract keep (wordless h program) c c.todo) fin)
    where
      go : (xs : List ChartItem) → (process_first extract keep (wordless h program) c xs).finished ≡ true → c.finished ≡ true
      go [] q = q
      go (x ∷ xs) q = (and_parts c.finished (results c x).finished q).0

  -- What was processed has all its searches made.
  pub record AreMade (c : Chart) : Type 0 where
    pub own_ran : (x : ChartItem) → Has c.done x → (t : ItemTask) → Has (own_tasks extract program x x.rest) t → Ran h program (items c) t
    pub meets_ran : (x y : ChartItem) → Has c.done x → Has c.done y → (t : ItemTask) → Has (daughter_tasks extract program x x.rest y y.rest) t → Ran h program (items c) t

  module _ (replaces : (before : List ChartItem) (x : ChartItem) → keep before x ≡ false → (y : ChartItem) × Has before y × Replaces h y x) where
    made_step : (c : Chart) (x : ChartItem) (xs : List ChartItem) → c.todo ≡ x ∷ xs → AreMade c → (results c x).finished ≡ true → AreMade (after_item keep c x xs (results c x))
    made_step c x xs eq made fin = record {
      own_ran = λ y has t task. own y (behind c.done x y has) t task;
      meets_ran = λ y z has_y has_z t task. pair y z (behind c.done x y has_y) (behind c.done x z has_z) t task;
    }
      where
        old : (t : ItemTask) → Ran h program (items c) t → Ran h program (items (after_item keep c x xs (results c x))) t
        old t r = ran_on h program (items c) (items (after_item keep c x xs (results c x))) t (λ y has. item_stays c x xs eq (results c x) y has) r

        new : (t : ItemTask) → Has (tasks_of extract program c.done x) t → Ran h program (items (after_item keep c x xs (results c x))) t
        new t has =
            let r = (law c x).has_run fin t has in
            record { budget = r.budget; ended = r.ended; results = λ a at. put_stands h keep replaces (c.done ++ x ∷ []) xs (results c x).all (t.made a) (r.results a at) }

        own : (y : ChartItem) → Has c.done y ⊎ (y ≡ x) → (t : ItemTask) → Has (own_tasks extract program y y.rest) t → Ran h program (items (after_item keep c x xs (results c x))) t
        own y (inl p) t task = old t (made.own_ran y p t task)
        own y (inr e) t task = new t (in_own extract program c.done x t (subst (λ z. Has (own_tasks extract program z z.rest) t) e task))

        pair : (y z : ChartItem) → Has c.done y ⊎ (y ≡ x) → Has c.done z ⊎ (z ≡ x) → (t : ItemTask) → Has (daughter_tasks extract program y y.rest z z.rest) t → Ran h program (items (after_item keep c x xs (results c x))) t
        pair y z (inl p) (inl q) t task = old t (made.meets_ran y z p q t task)
        pair y z (inl p) (inr e) t task = new t (in_taken extract program c.done x t y p (subst (λ w. Has (daughter_tasks extract program y y.rest w w.rest) t) e task))
        pair y z (inr e) (inl q) t task = new t (in_takes extract program c.done x t z q (subst (λ w. Has (daughter_tasks extract program w w.rest z z.rest) t) e task))
        pair y z (inr e) (inr d) t task =
            absurd (takes_self extract program x t (subst (λ w. Has (daughter_tasks extract program x x.rest w w.rest) t) d (subst (λ w. Has (daughter_tasks extract program w w.rest z z.rest) t) e task)))

    pub all_made : (n : ℕ) (c : Chart) → AreMade c → (processed extract keep (wordless h program) n c).finished ≡ true → AreMade (processed extract keep (wordless h program) n c)
    all_made zero c made fin = made
    all_made (suc n) c made fin = all_made n (process_first extract keep (wordless h program) c c.todo) (go c.todo refl (was_finished n (process_first extract keep (wordless h program) c c.todo) fin)) fin
      where
        go : (xs : List ChartItem) → c.todo ≡ xs → (process_first extract keep (wordless h program) c xs).finished ≡ true → AreMade (process_first extract keep (wordless h program) c xs)
        go [] eq fin = made
        go (x ∷ xs) eq fin = made_step c x xs eq made (and_parts c.finished (results c x).finished fin).1

-- soundness of all items
module _ (h : Hierarchy) (program : Program) (ok : IsAccepted h program) (runs : RunLaws) (puts : PutLaws) (extract : Extract) (part : PartLaw h program extract) (sentence : List Word) (keep : Keep) where
  abbrev AllGood : List ChartItem → Type 0
  AllGood xs = (x : ChartItem) → Has xs x → IsGood h program sentence x

  own_found : (x : ChartItem) → IsGood h program sentence x → (t : ItemTask) → Has (own_tasks extract program x x.rest) t → (budget : ℕ) (a : Answer) → Has (search (visit (wordless h program)) budget t.waiting).answers a → IsGood h program sentence (t.made a)
  own_found x good t has budget a found = go x.rest refl has
    where
      go : (es : List Element) → x.rest ≡ es → Has (own_tasks extract program x es) t → IsGood h program sentence (t.made a)
      go [] eq has = absurd has
      go (e ∷ es) eq has = of (has_map (item_task extract x x.to) (own_start program x e es) t has)
        where
          of : (st : State) × Has (own_start program x e es) st × (t ≡ item_task extract x x.to st) → IsGood h program sentence (t.made a)
          of (st, at, is) =
              let found_st : Has (search (visit (wordless h program)) budget (st ∷ [])).answers a = subst (λ (w : ItemTask). Has (search (visit (wordless h program)) budget w.waiting).answers a) is found in
              subst (λ (w : ItemTask). IsGood h program sentence (w.made a)) (sym is)
              (own_good h program ok runs puts extract part sentence x good e es eq st at a (came h program ok runs x st (own_is h program ok.lawful x good.item e es eq st at) budget a found_st))

  pair_found : (x y : ChartItem) → IsGood h program sentence x → IsGood h program sentence y → (t : ItemTask) → Has (daughter_tasks extract program x x.rest y y.rest) t → (budget : ℕ) (a : Answer) → Has (search (visit (wordless h program)) budget t.waiting).answers a → IsGood h program sentence (t.made a)
  pair_found x y good other t has budget a found = go x.rest refl y.rest refl has
    where
      go : (es : List Element) → x.rest ≡ es → (fs : List Element) → y.rest ≡ fs → Has (daughter_tasks extract program x es y fs) t → IsGood h program sentence (t.made a)
      go [] eq fs passive has = absurd has
      go (e ∷ es) eq (f ∷ fs) passive has = absurd has
      go (e ∷ es) eq [] passive has = meets (eqb x.to y.from) refl has
        where
          of : y.from ≡ x.to → (st : State) × Has (daughter_start program x e es y) st × (t ≡ item_task extract x y.to st) → IsGood h program sentence (t.made a)
          of begins (st, at, is) =
              let found_st : Has (search (visit (wordless h program)) budget (st ∷ [])).answers a = subst (λ (w : ItemTask). Has (search (visit (wordless h program)) budget w.waiting).answers a) is found in
              subst (λ (w : ItemTask). IsGood h program sentence (w.made a)) (sym is)
              (pair_good h program ok runs puts extract part sentence x good e es eq y other passive begins st at a (came h program ok runs x st (daughter_is h program ok.lawful x good.item e es eq y other.item st at) budget a found_st))

          meets : (b : Bool) → eqb x.to y.from ≡ b → Has (if b then map (item_task extract x y.to) (daughter_start program x e es y) else []) t → IsGood h program sentence (t.made a)
          meets true q has = of (sym (eqb-true x.to y.from q)) (has_map (item_task extract x y.to) (daughter_start program x e es y) t has)
          meets false q has = absurd has

  found_good : (c : Chart) (x : ChartItem) → AllGood c.done → IsGood h program sentence x → (z : ChartItem) → Has (run_all (visit (wordless h program)) (tasks_of extract program c.done x) c.left).all z → IsGood h program sentence z
  found_good c x goods good z has = go (((engine_law State Answer ChartItem (visit (wordless h program))).runs (tasks_of extract program c.done x) c.left).made z has)
    where
      of : (t : ItemTask) → IsDue extract program c.done x t → (budget : ℕ) (a : Answer) → Has (search (visit (wordless h program)) budget t.waiting).answers a → IsGood h program sentence (t.made a)
      of _ (own_due t p) budget a found = own_found x good t p budget a found
      of _ (takes_due t y at p) budget a found = pair_found x y good (goods y at) t p budget a found
      of _ (taken_due t y at p) budget a found = pair_found y x (goods y at) good t p budget a found

      go : IsMade State Answer ChartItem (visit (wordless h program)) (tasks_of extract program c.done x) z → IsGood h program sentence z
      go m = subst (IsGood h program sentence) (sym m.is) (of m.task (due extract program c.done x m.task m.has) m.budget m.answer m.is_answer)

  pub all_good : (n : ℕ) (c : Chart) → AllGood (items c) → AllGood (items (processed extract keep (wordless h program) n c))
  all_good zero c goods = goods
  all_good (suc n) c goods = all_good n (process_first extract keep (wordless h program) c c.todo) (go c.todo refl)
    where
      go : (xs : List ChartItem) → c.todo ≡ xs → AllGood (items (process_first extract keep (wordless h program) c xs))
      go [] eq y has = goods y has
      go (x ∷ xs) eq y has = of (has_either (c.done ++ x ∷ []) (put_kept keep (c.done ++ x ∷ []) xs (run_all (visit (wordless h program)) (tasks_of extract program c.done x) c.left).all) y has)
        where
          waiting : (z : ChartItem) → Has (x ∷ xs) z → IsGood h program sentence z
          waiting z p = goods z (has_right c.done c.todo z (subst (λ w. Has w z) (sym eq) p))

          done : (z : ChartItem) → Has c.done z → IsGood h program sentence z
          done z p = goods z (has_left c.done c.todo z p)

          processed_one : Has c.done y ⊎ (y ≡ x) → IsGood h program sentence y
          processed_one (inl p) = done y p
          processed_one (inr e) = waiting y (inl e)

          put : Has xs y ⊎ Has (run_all (visit (wordless h program)) (tasks_of extract program c.done x) c.left).all y → IsGood h program sentence y
          put (inl p) = waiting y (inr p)
          put (inr p) = found_good c x done (waiting x (inl refl)) y p

          of : Has (c.done ++ x ∷ []) y ⊎ Has (put_kept keep (c.done ++ x ∷ []) xs (run_all (visit (wordless h program)) (tasks_of extract program c.done x) c.left).all) y → IsGood h program sentence y
          of (inl p) = processed_one (behind c.done x y p)
          of (inr p) = put (put_from keep (c.done ++ x ∷ []) xs (run_all (visit (wordless h program)) (tasks_of extract program c.done x) c.left).all y p)
