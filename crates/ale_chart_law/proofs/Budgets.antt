-- What a budget is to the chart, whatever is kept of answers and of items.
use Rattle.std.proofs.Common.{◌≡◌, ℕ, zero, suc, ◌+◌, ◌-◌, ◌<◌, ◌≤◌, Bool, true, false, List, [], ◌∷◌, ◌++◌, length, length-append, append_assoc, ◌⊎◌, inl, inr, refl, sym, ap, ◌∙◌, subst, arith, if◌then◌else◌}
use Rattle.std.proofs.lemmas.Bool.{and_parts, and_cases, cases_Bool}
use Rattle.std.proofs.lemmas.List.{append-nil}
use Rattle.ale_hierarchy.specs.Hierarchy.{Hierarchy}
use Rattle.ale_engine.specs.EngineLaws.{IsPrefix}
use Rattle.ale_engine.specs.Growth.{Found, run_all}
use Rattle.ale_engine.specs.GrowthLaws.{IsCutOff}
use Rattle.ale_engine.proofs.Lists.{none_short}
use Rattle.ale_logic.specs.Programs.{Word, Program}
use Rattle.ale_logic.specs.Words.{Words}
use Rattle.ale_logic.specs.Parts.{Extract}
use Rattle.ale_logic.specs.States.{State}
use Rattle.ale_logic.specs.Visits.{Answer, visit}
use Rattle.ale_logic.specs.Lexicons.{wordless}
use Rattle.ale_logic.specs.Starts.{ChartItem}
use Rattle.ale_logic.specs.Charts.{tasks_of, Keep, put_kept, Chart, items, after_item, process_first, processed, initial_items, first_chart, chart}
use Rattle.ale_chart_law.proofs.Grown.{results, law, was_finished}
use Rattle.ale_logic.specs.ChartLaws.{IsChartCutOff, IsSameChart, ChartBudgetLaw, ChartBudgetLaws}

prefix_self : {A : Type 0} (xs : List A) → IsPrefix xs xs
prefix_self xs = ([], sym (append-nil xs))

prefix_on : {A : Type 0} (xs ys zs : List A) → IsPrefix xs ys → IsPrefix ys zs → IsPrefix xs zs
prefix_on xs ys zs (a, p) (b, q) = (a ++ b, q ∙ ap (λ w. w ++ b) p ∙ append_assoc xs a b)

prefix_behind : {A : Type 0} (ds xs ys : List A) → IsPrefix xs ys → IsPrefix (ds ++ xs) (ds ++ ys)
prefix_behind ds xs ys (a, p) = (a, ap (λ w. ds ++ w) p ∙ sym (append_assoc ds xs a))

put_prefix : (keep : Keep) (done todo xs : List ChartItem) → IsPrefix todo (put_kept keep done todo xs)
put_prefix keep done todo [] = prefix_self todo
put_prefix keep done todo (x ∷ xs) = go (put_prefix keep done (todo ++ x ∷ []) xs) (put_prefix keep done todo xs) (keep (done ++ todo) x)
  where
    go : IsPrefix (todo ++ x ∷ []) (put_kept keep done (todo ++ x ∷ []) xs) → IsPrefix todo (put_kept keep done todo xs) → (b : Bool) → IsPrefix todo (put_kept keep done (if b then todo ++ x ∷ [] else todo) xs)
    go one two true = prefix_on todo (todo ++ x ∷ []) (put_kept keep done (todo ++ x ∷ []) xs) (x ∷ [], refl) one
    go one two false = two

put_append : (keep : Keep) (done todo xs ys : List ChartItem) → put_kept keep done todo (xs ++ ys) ≡ put_kept keep done (put_kept keep done todo xs) ys
put_append keep done todo [] ys = refl
put_append keep done todo (x ∷ xs) ys = put_append keep done (if keep (done ++ todo) x then todo ++ x ∷ [] else todo) xs ys

put_few : (keep : Keep) (done todo xs : List ChartItem) → length (put_kept keep done todo xs) ≤ length todo + length xs
put_few keep done todo [] = omega arith
put_few keep done todo (x ∷ xs) = go (put_few keep done (todo ++ x ∷ []) xs) (put_few keep done todo xs) (keep (done ++ todo) x)
  where
    go : length (put_kept keep done (todo ++ x ∷ []) xs) ≤ length (todo ++ x ∷ []) + length xs → length (put_kept keep done todo xs) ≤ length todo + length xs → (b : Bool) → length (put_kept keep done (if b then todo ++ x ∷ [] else todo) xs) ≤ length todo + suc (length xs)
    go one two true = let l = length-append todo (x ∷ []) in omega arith
    go one two false = omega arith

module _ (extract : Extract) (keep : Keep) (h : Hierarchy) (program : Program) where
  abbrev first_step : Chart → List ChartItem → Chart
  first_step c xs = process_first extract keep (wordless h program) c xs

  abbrev grown : ℕ → Chart → Chart
  grown n c = processed extract keep (wordless h program) n c

  -- a chart of which nothing waits stays as it is
  nothing_more : (n : ℕ) (c : Chart) → c.todo ≡ [] → grown n c ≡ c
  nothing_more zero c none = refl
  nothing_more (suc n) c none = ap (λ xs. grown n (first_step c xs)) none ∙ nothing_more n c none

  more_steps : (n k : ℕ) (c : Chart) → (grown n c).todo ≡ [] → grown (n + k) c ≡ grown n c
  more_steps zero k c none = let e : 0 + k ≡ k = omega arith in ap (λ m. grown m c) e ∙ nothing_more k c none
  more_steps (suc n) k c none = let e : suc n + k ≡ suc (n + k) = omega arith in ap (λ m. grown m c) e ∙ more_steps n k (first_step c c.todo) none

  -- the steps that waiting items and visits allow are enough
  pub all_processed : (n : ℕ) (c : Chart) → length c.todo + c.left ≤ n → (grown n c).todo ≡ []
  all_processed zero c le = none_short c.todo (omega arith)
  all_processed (suc n) c le = go (all_processed n (first_step c c.todo)) c.todo refl
    where
      go : (length (first_step c c.todo).todo + (first_step c c.todo).left ≤ n → (grown n (first_step c c.todo)).todo ≡ []) → (xs : List ChartItem) → c.todo ≡ xs → (grown n (first_step c c.todo)).todo ≡ []
      go later [] eq = ap (λ z. z.todo) (ap (λ ys. grown n (first_step c ys)) eq ∙ nothing_more n c eq) ∙ eq
      go later (x ∷ xs) eq =
          let step : first_step c c.todo ≡ first_step c (x ∷ xs) = ap (first_step c) eq in
          let size : length c.todo ≡ suc (length xs) = ap (λ ys. length ys) eq in
          let put = put_few keep (c.done ++ x ∷ []) xs (results h program extract keep c x).all in
          let few = (law h program extract keep c x).few in
          let within = (law h program extract keep c x).within in
          later (subst (λ (d : Chart). length d.todo + d.left ≤ n) (sym step) (omega arith))

  -- visits that are left never rise, and each new item took one
  left_falls : (n : ℕ) (c : Chart) → (grown n c).left ≤ c.left
  left_falls zero c = omega arith
  left_falls (suc n) c = go (left_falls n (first_step c c.todo)) c.todo
    where
      one : (xs : List ChartItem) → (first_step c xs).left ≤ c.left
      one [] = omega arith
      one (x ∷ xs) = omega arith

      go : (grown n (first_step c c.todo)).left ≤ (first_step c c.todo).left → (xs : List ChartItem) → (grown n (first_step c c.todo)).left ≤ c.left
      go later xs = let l = one c.todo in omega arith

  few_items : (n : ℕ) (c : Chart) → length (items (grown n c)) + (grown n c).left ≤ length (items c) + c.left
  few_items zero c = omega arith
  few_items (suc n) c = go (few_items n (first_step c c.todo)) (one c.todo refl)
    where
      one : (xs : List ChartItem) → c.todo ≡ xs → length (items (first_step c xs)) + (first_step c xs).left ≤ length (items c) + c.left
      one [] eq = omega arith
      one (x ∷ xs) eq =
          let put = put_few keep (c.done ++ x ∷ []) xs (results h program extract keep c x).all in
          let few = (law h program extract keep c x).few in
          let within = (law h program extract keep c x).within in
          let size : length c.todo ≡ suc (length xs) = ap (λ ys. length ys) eq in
          let before = length-append c.done c.todo in
          let done = length-append c.done (x ∷ []) in
          let after = length-append (c.done ++ x ∷ []) (put_kept keep (c.done ++ x ∷ []) xs (results h program extract keep c x).all) in
          omega arith

      go : length (items (grown n (first_step c c.todo))) + (grown n (first_step c c.todo)).left ≤ length (items (first_step c c.todo)) + (first_step c c.todo).left → length (items (first_step c c.todo)) + (first_step c c.todo).left ≤ length (items c) + c.left →
          length (items (grown n (first_step c c.todo))) + (grown n (first_step c c.todo)).left ≤ length (items c) + c.left
      go later now = omega arith

  all_spent : (n : ℕ) (c : Chart) → (c.finished ≡ false → c.left ≡ 0) → (grown n c).finished ≡ false → (grown n c).left ≡ 0
  all_spent zero c before fin = before fin
  all_spent (suc n) c before fin = all_spent n (first_step c c.todo) (one c.todo) fin
    where
      one : (xs : List ChartItem) → (first_step c xs).finished ≡ false → (first_step c xs).left ≡ 0
      one [] e = before e
      one (x ∷ xs) e = go (and_cases c.finished (results h program extract keep c x).finished e)
        where
          go : (c.finished ≡ false) ⊎ ((results h program extract keep c x).finished ≡ false) → c.left - (results h program extract keep c x).visits ≡ 0
          go (inl p) = let none = before p in omega arith
          go (inr p) = let all = (law h program extract keep c x).spent p in omega arith

  cut_off : (n : ℕ) (c : Chart) → c.finished ≡ true → (grown n c).finished ≡ false → IsChartCutOff extract keep h program c
  cut_off zero c fin unfinished = absurd (let clash : true ≡ false = sym fin ∙ unfinished in cc)
  cut_off (suc n) c fin unfinished = go (λ e. cut_off n (first_step c c.todo) e unfinished) (cases_Bool (first_step c c.todo).finished)
    where
      here : (xs : List ChartItem) → c.todo ≡ xs → (first_step c xs).finished ≡ false → IsChartCutOff extract keep h program c
      here [] eq e = absurd (let clash : true ≡ false = sym fin ∙ e in cc)
      here (x ∷ xs) eq e = record { number = 0; item = x; later = xs; waits = eq; cut_off = (law h program extract keep c x).unfinished (of (and_cases c.finished (results h program extract keep c x).finished e)) }
        where
          of : (c.finished ≡ false) ⊎ ((results h program extract keep c x).finished ≡ false) → (results h program extract keep c x).finished ≡ false
          of (inl p) = absurd (let clash : true ≡ false = sym fin ∙ p in cc)
          of (inr p) = p

      go : ((first_step c c.todo).finished ≡ true → IsChartCutOff extract keep h program (first_step c c.todo)) → ((first_step c c.todo).finished ≡ true) ⊎ ((first_step c c.todo).finished ≡ false) → IsChartCutOff extract keep h program c
      go later (inl e) = let r = later e in record { number = suc r.number; item = r.item; later = r.later; waits = r.waits; cut_off = r.cut_off }
      go later (inr e) = here c.todo refl e

  -- where the chart was finished, no search that was due has a state left
  never : (number n : ℕ) (c : Chart) → (grown n c).todo ≡ [] → (grown n c).finished ≡ true → (x : ChartItem) (xs : List ChartItem) → (grown number c).todo ≡ x ∷ xs →
      IsCutOff State Answer ChartItem (visit (wordless h program)) (tasks_of extract program (grown number c).done x) (grown number c).left → ⊥
  never zero zero c none fin x xs eq cut = absurd (let no : [] ≡ x ∷ xs = sym none ∙ eq in cc)
  never zero (suc m) c none fin x xs eq cut =
      let q : (grown m (first_step c (x ∷ xs))).finished ≡ true = subst (λ ys. (grown m (first_step c ys)).finished ≡ true) eq fin in
      let both = and_parts c.finished (results h program extract keep c x).finished (was_finished h program extract keep m (first_step c (x ∷ xs)) q) in
      (law h program extract keep c x).ended both.1 cut
  never (suc k) zero c none fin x xs eq cut =
      never k zero c none fin x xs (subst (λ ys. (grown k (first_step c ys)).todo ≡ x ∷ xs) none eq)
      (subst (λ ys. IsCutOff State Answer ChartItem (visit (wordless h program)) (tasks_of extract program (grown k (first_step c ys)).done x) (grown k (first_step c ys)).left) none cut)
  never (suc k) (suc m) c none fin x xs eq cut = never k m (first_step c c.todo) none fin x xs eq cut

  -- the chart with other visits left
  abbrev with_left : Chart → ℕ → Chart
  with_left c left = record { done = c.done; todo = c.todo; left = left; finished = c.finished }

  -- With other visits left, at least as many as are made, a finished chart is the same.
  settles : (n : ℕ) (c : Chart) (m : ℕ) → (grown n c).finished ≡ true → c.left - (grown n c).left ≤ m → grown n (with_left c m) ≡ with_left (grown n c) (m - (c.left - (grown n c).left))
  settles zero c m fin le = let e : m ≡ m - (c.left - c.left) = omega arith in ap (with_left c) e
  settles (suc n) c m fin le = go (settles n) c.todo fin le
    where
      go : ((d : Chart) (k : ℕ) → (grown n d).finished ≡ true → d.left - (grown n d).left ≤ k → grown n (with_left d k) ≡ with_left (grown n d) (k - (d.left - (grown n d).left))) →
          (xs : List ChartItem) → (grown n (first_step c xs)).finished ≡ true → c.left - (grown n (first_step c xs)).left ≤ m → grown n (first_step (with_left c m) xs) ≡ with_left (grown n (first_step c xs)) (m - (c.left - (grown n (first_step c xs)).left))
      go ih [] q small = ih c m q small
      go ih (x ∷ xs) q small =
          let both = and_parts c.finished (results h program extract keep c x).finished (was_finished h program extract keep n (first_step c (x ∷ xs)) q) in
          let within = (law h program extract keep c x).within in
          let falls = left_falls n (first_step c (x ∷ xs)) in
          let same : run_all (visit (wordless h program)) (tasks_of extract program c.done x) m ≡ results h program extract keep c x = (law h program extract keep c x).settled both.1 m (omega arith) in
          let rest = ih (first_step c (x ∷ xs)) (m - (results h program extract keep c x).visits) q (omega arith) in
          let visits : (m - (results h program extract keep c x).visits) - ((c.left - (results h program extract keep c x).visits) - (grown n (first_step c (x ∷ xs))).left) ≡ m - (c.left - (grown n (first_step c (x ∷ xs))).left) = omega arith in
          ap (λ (f : Found ChartItem). grown n (after_item keep (with_left c m) x xs f)) same ∙ rest ∙ ap (with_left (grown n (first_step c (x ∷ xs)))) visits

  -- items are put behind those that there are
  grow_prefix : (n : ℕ) (c : Chart) → IsPrefix (items c) (items (grown n c))
  grow_prefix zero c = prefix_self (items c)
  grow_prefix (suc n) c = prefix_on (items c) (items (first_step c c.todo)) (items (grown n (first_step c c.todo))) (one c.todo refl) (grow_prefix n (first_step c c.todo))
    where
      one : (xs : List ChartItem) → c.todo ≡ xs → IsPrefix (items c) (items (first_step c xs))
      one [] eq = prefix_self (items c)
      one (x ∷ xs) eq =
          subst (λ zs. IsPrefix zs ((c.done ++ x ∷ []) ++ put_kept keep (c.done ++ x ∷ []) xs (results h program extract keep c x).all)) (append_assoc c.done (x ∷ []) xs ∙ ap (λ ys. c.done ++ ys) (sym eq))
          (prefix_behind (c.done ++ x ∷ []) xs (put_kept keep (c.done ++ x ∷ []) xs (results h program extract keep c x).all) (put_prefix keep (c.done ++ x ∷ []) xs (results h program extract keep c x).all))

  -- where no visit is left, no item comes
  spent_items : (n : ℕ) (c : Chart) → c.left ≡ 0 → items (grown n c) ≡ items c
  spent_items zero c none = refl
  spent_items (suc n) c none = go (spent_items n) c.todo refl
    where
      go : ((d : Chart) → d.left ≡ 0 → items (grown n d) ≡ items d) → (xs : List ChartItem) → c.todo ≡ xs → items (grown n (first_step c xs)) ≡ items c
      go ih [] eq = ih c none
      go ih (x ∷ xs) eq =
          let few = (law h program extract keep c x).few in
          let within = (law h program extract keep c x).within in
          let nothing : (results h program extract keep c x).all ≡ [] = none_short (results h program extract keep c x).all (omega arith) in
          ih (first_step c (x ∷ xs)) (omega arith)
          ∙ ap (λ zs. (c.done ++ x ∷ []) ++ put_kept keep (c.done ++ x ∷ []) xs zs) nothing
          ∙ append_assoc c.done (x ∷ []) xs
          ∙ ap (λ ys. c.done ++ ys) (sym eq)

  -- more visits give more items behind these
  goes_further : (n : ℕ) (c : Chart) (m : ℕ) → c.left ≤ m → IsPrefix (items (grown n c)) (items (grown n (with_left c m)))
  goes_further zero c m le = prefix_self (items c)
  goes_further (suc n) c m le = go (goes_further n) c.todo
    where
      go : ((d : Chart) (k : ℕ) → d.left ≤ k → IsPrefix (items (grown n d)) (items (grown n (with_left d k)))) → (xs : List ChartItem) → IsPrefix (items (grown n (first_step c xs))) (items (grown n (first_step (with_left c m) xs)))
      go ih [] = ih c m le
      go ih (x ∷ xs) = of (cases_Bool (results h program extract keep c x).finished)
        where
          larger : Found ChartItem
          larger = run_all (visit (wordless h program)) (tasks_of extract program c.done x) m

          of : ((results h program extract keep c x).finished ≡ true) ⊎ ((results h program extract keep c x).finished ≡ false) → IsPrefix (items (grown n (first_step c (x ∷ xs)))) (items (grown n (first_step (with_left c m) (x ∷ xs))))
          of (inl e) =
              let within = (law h program extract keep c x).within in
              let same : run_all (visit (wordless h program)) (tasks_of extract program c.done x) m ≡ results h program extract keep c x = (law h program extract keep c x).settled e m (omega arith) in
              subst (λ (f : Found ChartItem). IsPrefix (items (grown n (first_step c (x ∷ xs)))) (items (grown n (after_item keep (with_left c m) x xs f)))) (sym same) (ih (first_step c (x ∷ xs)) (m - (results h program extract keep c x).visits) (omega arith))
          of (inr e) =
              let all = (law h program extract keep c x).spent e in
              let more = (law h program extract keep c x).further m le in
              let nothing : (first_step c (x ∷ xs)).left ≡ 0 = omega arith in
              subst (λ zs. IsPrefix zs (items (grown n (first_step (with_left c m) (x ∷ xs))))) (sym (spent_items n (first_step c (x ∷ xs)) nothing))
              (prefix_on (items (first_step c (x ∷ xs))) (items (first_step (with_left c m) (x ∷ xs))) (items (grown n (first_step (with_left c m) (x ∷ xs))))
              (prefix_behind (c.done ++ x ∷ []) (put_kept keep (c.done ++ x ∷ []) xs (results h program extract keep c x).all) (put_kept keep (c.done ++ x ∷ []) xs (run_all (visit (wordless h program)) (tasks_of extract program c.done x) m).all)
              (subst (λ zs. IsPrefix (put_kept keep (c.done ++ x ∷ []) xs (results h program extract keep c x).all) (put_kept keep (c.done ++ x ∷ []) xs zs)) (sym more.1)
              (subst (IsPrefix (put_kept keep (c.done ++ x ∷ []) xs (results h program extract keep c x).all)) (sym (put_append keep (c.done ++ x ∷ []) xs (results h program extract keep c x).all more.0))
              (put_prefix keep (c.done ++ x ∷ []) (put_kept keep (c.done ++ x ∷ []) xs (results h program extract keep c x).all) more.0))))
              (grow_prefix n (first_step (with_left c m) (x ∷ xs))))

  module _ (words : Words) (sentence : List Word) where
    abbrev size : ℕ
    size = length (initial_items words program 0 sentence)

    abbrev begun : ℕ → Chart
    begun budget = first_chart program words sentence budget

    -- the chart within the budget
    abbrev whole : ℕ → Chart
    whole budget = grown (size + budget) (begun budget)

    whole_processed : (budget : ℕ) → (whole budget).todo ≡ []
    whole_processed budget = all_processed (size + budget) (begun budget) (omega arith)

    -- with more steps than it needs
    with_more : (budget other : ℕ) → grown ((size + budget) + (size + other)) (begun budget) ≡ whole budget
    with_more budget other = more_steps (size + budget) (size + other) (begun budget) (whole_processed budget)

    with_more_turned : (budget other : ℕ) → grown ((size + budget) + (size + other)) (begun other) ≡ whole other
    with_more_turned budget other = let e : (size + budget) + (size + other) ≡ (size + other) + (size + budget) = omega arith in ap (λ n. grown n (begun other)) e ∙ more_steps (size + other) (size + budget) (begun other) (whole_processed other)

    whole_settles : (budget : ℕ) → (whole budget).finished ≡ true → (other : ℕ) → budget - (whole budget).left ≤ other → whole other ≡ with_left (whole budget) (other - (budget - (whole budget).left))
    whole_settles budget fin other le =
        sym (with_more_turned budget other)
        ∙ settles ((size + budget) + (size + other)) (begun budget) other (ap (λ (z : Chart). z.finished) (with_more budget other) ∙ fin) (subst (λ (z : Chart). budget - z.left ≤ other) (sym (with_more budget other)) le)
        ∙ ap (λ (z : Chart). with_left z (other - (budget - z.left))) (with_more budget other)

    same_chart : (budget : ℕ) → (whole budget).finished ≡ true → (other : ℕ) → budget - (whole budget).left ≤ other → IsSameChart budget (whole budget) other (whole other)
    same_chart budget fin other le =
        let e = whole_settles budget fin other le in
        let falls = left_falls (size + budget) (begun budget) in
        let left : (whole other).left ≡ other - (budget - (whole budget).left) = ap (λ (z : Chart). z.left) e in
        record { items_are = ap items e; visits = omega arith; finished = ap (λ (z : Chart). z.finished) e }

    pub budget_law : (budget : ℕ) → ChartBudgetLaw extract keep h program words sentence whole budget
    budget_law budget = record {
      within = left_falls (size + budget) (begun budget);
      few = let l = few_items (size + budget) (begun budget) in let falls = left_falls (size + budget) (begun budget) in omega arith;
      processed_all = whole_processed budget;
      spent = λ fin. all_spent (size + budget) (begun budget) (λ e. absurd cc) fin;
      unfinished = λ fin. cut_off (size + budget) (begun budget) refl fin;
      ended = λ fin r. never r.number (size + budget) (begun budget) (whole_processed budget) fin r.item r.later r.waits r.cut_off;
      needed = λ fin fewer less. needed fin fewer less (cases_Bool (whole fewer).finished);
      settled = λ fin other le. same_chart budget fin other le;
      further = λ larger le.
          subst (λ (z : Chart). IsPrefix (items z) (items (whole larger))) (with_more budget larger)
          (subst (λ (z : Chart). IsPrefix (items (grown ((size + budget) + (size + larger)) (begun budget))) (items z)) (with_more_turned budget larger) (goes_further ((size + budget) + (size + larger)) (begun budget) larger le));
    }
      where
        needed : (whole budget).finished ≡ true → (fewer : ℕ) → fewer < budget - (whole budget).left → ((whole fewer).finished ≡ true) ⊎ ((whole fewer).finished ≡ false) → (whole fewer).finished ≡ false
        needed fin fewer less (inl e) =
            let falls = left_falls (size + fewer) (begun fewer) in
            let same = (same_chart fewer e budget (omega arith)).visits in
            absurd (omega arith)
        needed fin fewer less (inr e) = e

pub chart_budget_law : ChartBudgetLaws
unfolding chart
chart_budget_law extract keep h program words sentence budget = budget_law extract keep h program words sentence budget
