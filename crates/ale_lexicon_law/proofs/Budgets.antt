-- What a budget is to the lexicon: its levels one after the other, behind the declared words and the empties.
use Rattle.std.proofs.Common.{◌≡◌, ℕ, zero, suc, ◌+◌, ◌-◌, ◌<◌, ◌≤◌, Bool, true, false, ◌&&◌, List, map, length, length-append, ◌⊎◌, inl, inr, refl, ap, ◌∙◌, arith}
use Rattle.std.proofs.lemmas.Bool.{and_parts}
use Rattle.ale_hierarchy.specs.Hierarchy.{Hierarchy}
use Rattle.ale_engine.specs.Growth.{Found, followed_by, run_all}
use Rattle.ale_engine.specs.GrowthLaws.{IsCutOff}
use Rattle.ale_engine.proofs.InTurn.{run_all_law}
use Rattle.ale_logic.specs.Programs.{Program}
use Rattle.ale_logic.specs.Words.{Entry, Grammar}
use Rattle.ale_logic.specs.States.{State}
use Rattle.ale_logic.specs.Visits.{Answer, visit}
use Rattle.ale_logic.specs.Parts.{Extract}
use Rattle.ale_logic.specs.Lexicons.{EntryTask, word_task, empty_task, level_tasks, levels, declared_words, declared_empties, Lexicon, lexicon_of, lexicon, wordless}
use Rattle.ale_logic.specs.LexiconLaws.{IsLevelCutOff, IsLexiconCutOff, LexiconBudgetLaws}

-- what is known of anything that finds within a budget
pub record IsBudgeted (found : ℕ → Found Entry) (CutOff : ℕ → Type 0) : Type 0 where
  pub within : (left : ℕ) → (found left).visits ≤ left
  pub few : (left : ℕ) → length (found left).all ≤ (found left).visits
  pub spent : (left : ℕ) → (found left).finished ≡ false → (found left).visits ≡ left
  pub unfinished : (left : ℕ) → (found left).finished ≡ false → CutOff left
  pub ended : (left : ℕ) → (found left).finished ≡ true → CutOff left → ⊥
  pub settled : (left : ℕ) → (found left).finished ≡ true → (other : ℕ) → (found left).visits ≤ other → found other ≡ found left

false_of_and : (a b : Bool) → (a && b) ≡ false → (a ≡ false) ⊎ ((a ≡ true) × (b ≡ false))
false_of_and true b e = inr (refl, e)
false_of_and false b e = inl refl

in_turn : (gr : Grammar) (tasks : List EntryTask) → IsBudgeted (run_all (visit gr) tasks) (IsCutOff State Answer Entry (visit gr) tasks)
in_turn gr tasks = record {
  within = λ left. (run_all_law State Answer Entry (visit gr) tasks left).within;
  few = λ left. (run_all_law State Answer Entry (visit gr) tasks left).few;
  spent = λ left. (run_all_law State Answer Entry (visit gr) tasks left).spent;
  unfinished = λ left. (run_all_law State Answer Entry (visit gr) tasks left).unfinished;
  ended = λ left. (run_all_law State Answer Entry (visit gr) tasks left).ended;
  settled = λ left. (run_all_law State Answer Entry (visit gr) tasks left).settled;
}

-- one after the other, where the second takes up what the first found
abbrev both : (ℕ → Found Entry) → (List Entry → ℕ → Found Entry) → ℕ → Found Entry
both first second left = followed_by (first left) (second (first left).all (left - (first left).visits))

after_it : (first : ℕ → Found Entry) (second : List Entry → ℕ → Found Entry) (A : ℕ → Type 0) (B : List Entry → ℕ → Type 0) → IsBudgeted first A → ((xs : List Entry) → IsBudgeted (second xs) (B xs)) →
    IsBudgeted (both first second) (λ left. A left ⊎ B (first left).all (left - (first left).visits))
after_it first second A B a b = record {
  within = within;
  few = λ left.
      let one = a.few left in
      let two = (b (first left).all).few (left - (first left).visits) in
      let sum = length-append (first left).all (second (first left).all (left - (first left).visits)).all in
      omega arith;
  spent = λ left e. spent left (false_of_and (first left).finished (second (first left).all (left - (first left).visits)).finished e);
  unfinished = λ left e. elim (false_of_and (first left).finished (second (first left).all (left - (first left).visits)).finished e) [
    | inl one ↦ inl (a.unfinished left one)
    | inr two ↦ inr ((b (first left).all).unfinished (left - (first left).visits) two.1)
  ];
  ended = λ left e. ended left (and_parts (first left).finished (second (first left).all (left - (first left).visits)).finished e);
  settled = settled;
}
  where
    ended : (left : ℕ) → ((first left).finished ≡ true) × ((second (first left).all (left - (first left).visits)).finished ≡ true) → A left ⊎ B (first left).all (left - (first left).visits) → ⊥
    ended left fins (inl one) = a.ended left fins.0 one
    ended left fins (inr two) = (b (first left).all).ended (left - (first left).visits) fins.1 two

    within : (left : ℕ) → (both first second left).visits ≤ left
    within left =
        let one = a.within left in
        let two = (b (first left).all).within (left - (first left).visits) in
        omega arith

    spent : (left : ℕ) → ((first left).finished ≡ false) ⊎ (((first left).finished ≡ true) × ((second (first left).all (left - (first left).visits)).finished ≡ false)) → (both first second left).visits ≡ left
    spent left (inl one) =
        let all = a.spent left one in
        let none = (b (first left).all).within (left - (first left).visits) in
        omega arith
    spent left (inr two) =
        let low = a.within left in
        let all = (b (first left).all).spent (left - (first left).visits) two.1 in
        omega arith

    settled : (left : ℕ) → (both first second left).finished ≡ true → (other : ℕ) → (both first second left).visits ≤ other → both first second other ≡ both first second left
    settled left fin other le =
        let fins = and_parts (first left).finished (second (first left).all (left - (first left).visits)).finished fin in
        let one : first other ≡ first left = a.settled left fins.0 other (omega arith) in
        let two = (b (first left).all).settled (left - (first left).visits) fins.1 (other - (first left).visits) (omega arith) in
        ap (λ (f : Found Entry). followed_by f (second f.all (other - f.visits))) one ∙ ap (λ (g : Found Entry). followed_by (first left) g) two

none_above : (extract : Extract) (gr : Grammar) (xs : List Entry) → IsBudgeted (levels extract gr zero xs) (IsLevelCutOff extract gr zero xs)
none_above extract gr xs = record {
  within = λ left. omega arith;
  few = λ left. omega arith;
  spent = λ left e. absurd cc;
  unfinished = λ left e. absurd cc;
  ended = λ left e none. none;
  settled = λ left fin other le. refl;
}

levels_budgeted : (extract : Extract) (gr : Grammar) (n : ℕ) (xs : List Entry) → IsBudgeted (levels extract gr n xs) (IsLevelCutOff extract gr n xs)
levels_budgeted extract gr zero xs = none_above extract gr xs
levels_budgeted extract gr (suc n) xs =
    after_it (run_all (visit gr) (level_tasks extract gr.program xs)) (levels extract gr n) (IsCutOff State Answer Entry (visit gr) (level_tasks extract gr.program xs)) (IsLevelCutOff extract gr n)
    (in_turn gr (level_tasks extract gr.program xs)) (levels_budgeted extract gr n)

either : (b : Bool) → (b ≡ true) ⊎ (b ≡ false)
either true = inl refl
either false = inr refl

module _ (extract : Extract) (h : Hierarchy) (program : Program) where
  abbrev words_in : ℕ → Found Entry
  words_in left = declared_words extract (wordless h program) left

  abbrev empties_in : ℕ → Found Entry
  empties_in left = declared_empties extract (wordless h program) left

  abbrev above_in : List Entry → ℕ → Found Entry
  above_in xs left = levels extract (wordless h program) program.lex_depth xs left

  -- what is left behind the words, and behind the empties
  abbrev left_by_words : ℕ → ℕ
  left_by_words budget = budget - (words_in budget).visits

  abbrev left_by_both : ℕ → ℕ
  left_by_both budget = left_by_words budget - (empties_in (left_by_words budget)).visits

  abbrev whole : ℕ → Lexicon
  whole budget = lexicon_of (words_in budget) (empties_in (left_by_words budget)) (above_in (words_in budget).all (left_by_both budget))

  words_budgeted : IsBudgeted words_in (IsCutOff State Answer Entry (visit (wordless h program)) (map (word_task extract) program.words))
  words_budgeted = in_turn (wordless h program) (map (word_task extract) program.words)

  empties_budgeted : IsBudgeted empties_in (IsCutOff State Answer Entry (visit (wordless h program)) (map (empty_task extract) program.empties))
  empties_budgeted = in_turn (wordless h program) (map (empty_task extract) program.empties)

  above_budgeted : (xs : List Entry) → IsBudgeted (above_in xs) (IsLevelCutOff extract (wordless h program) program.lex_depth xs)
  above_budgeted xs = levels_budgeted extract (wordless h program) program.lex_depth xs

  within : (budget : ℕ) → (whole budget).visits ≤ budget
  within budget =
      let a = words_budgeted.within budget in
      let b = empties_budgeted.within (left_by_words budget) in
      let c = (above_budgeted (words_in budget).all).within (left_by_both budget) in
      omega arith

  few : (budget : ℕ) → length (whole budget).words.entries + length (whole budget).words.empties ≤ (whole budget).visits
  few budget =
      let a = words_budgeted.few budget in
      let b = empties_budgeted.few (left_by_words budget) in
      let c = (above_budgeted (words_in budget).all).few (left_by_both budget) in
      let sum = length-append (words_in budget).all (above_in (words_in budget).all (left_by_both budget)).all in
      omega arith

  -- which part is unfinished
  Unfinished : ℕ → Type 0
  Unfinished budget =
      ((words_in budget).finished ≡ false)
      ⊎ (((empties_in (left_by_words budget)).finished ≡ false)
      ⊎ ((above_in (words_in budget).all (left_by_both budget)).finished ≡ false))

  which : (budget : ℕ) → (whole budget).finished ≡ false → Unfinished budget
  unfolding Unfinished
  which budget e = elim (false_of_and ((words_in budget).finished && (empties_in (left_by_words budget)).finished) (above_in (words_in budget).all (left_by_both budget)).finished e) [
    | inl front ↦ elim (false_of_and (words_in budget).finished (empties_in (left_by_words budget)).finished front) [ inl a ↦ inl a | inr b ↦ inr (inl b.1) ]
    | inr c ↦ inr (inr c.1)
  ]

  spent : (budget : ℕ) → Unfinished budget → (whole budget).visits ≡ budget
  unfolding Unfinished
  spent budget (inl e) =
      let a = words_budgeted.spent budget e in
      let b = empties_budgeted.within (left_by_words budget) in
      let c = (above_budgeted (words_in budget).all).within (left_by_both budget) in
      omega arith
  spent budget (inr (inl e)) =
      let a = words_budgeted.within budget in
      let b = empties_budgeted.spent (left_by_words budget) e in
      let c = (above_budgeted (words_in budget).all).within (left_by_both budget) in
      omega arith
  spent budget (inr (inr e)) =
      let a = words_budgeted.within budget in
      let b = empties_budgeted.within (left_by_words budget) in
      let c = (above_budgeted (words_in budget).all).spent (left_by_both budget) e in
      omega arith

  cut_off : (budget : ℕ) → Unfinished budget → IsLexiconCutOff extract (wordless h program) budget
  unfolding Unfinished
  cut_off budget (inl e) = inl (words_budgeted.unfinished budget e)
  cut_off budget (inr (inl e)) = inr (inl (empties_budgeted.unfinished (left_by_words budget) e))
  cut_off budget (inr (inr e)) = inr (inr ((above_budgeted (words_in budget).all).unfinished (left_by_both budget) e))

  ended : (budget : ℕ) → (whole budget).finished ≡ true → IsLexiconCutOff extract (wordless h program) budget → ⊥
  ended budget fin = go (and_parts ((words_in budget).finished && (empties_in (left_by_words budget)).finished) (above_in (words_in budget).all (left_by_both budget)).finished fin)
    where
      go : (((words_in budget).finished && (empties_in (left_by_words budget)).finished) ≡ true) × ((above_in (words_in budget).all (left_by_both budget)).finished ≡ true) → IsLexiconCutOff extract (wordless h program) budget → ⊥
      go front (inl one) = words_budgeted.ended budget (and_parts (words_in budget).finished (empties_in (left_by_words budget)).finished front.0).0 one
      go front (inr (inl two)) = empties_budgeted.ended (left_by_words budget) (and_parts (words_in budget).finished (empties_in (left_by_words budget)).finished front.0).1 two
      go front (inr (inr three)) = (above_budgeted (words_in budget).all).ended (left_by_both budget) front.1 three

  settled : (budget : ℕ) → (whole budget).finished ≡ true → (other : ℕ) → (whole budget).visits ≤ other → whole other ≡ whole budget
  settled budget fin other le =
      let front = and_parts ((words_in budget).finished && (empties_in (left_by_words budget)).finished) (above_in (words_in budget).all (left_by_both budget)).finished fin in
      let pair = and_parts (words_in budget).finished (empties_in (left_by_words budget)).finished front.0 in
      let a : words_in other ≡ words_in budget = words_budgeted.settled budget pair.0 other (omega arith) in
      let b : empties_in (other - (words_in budget).visits) ≡ empties_in (left_by_words budget) = empties_budgeted.settled (left_by_words budget) pair.1 (other - (words_in budget).visits) (omega arith) in
      let c = (above_budgeted (words_in budget).all).settled (left_by_both budget) front.1 ((other - (words_in budget).visits) - (empties_in (left_by_words budget)).visits) (omega arith) in
      ap (λ (w : Found Entry). lexicon_of w (empties_in (other - w.visits)) (above_in w.all ((other - w.visits) - (empties_in (other - w.visits)).visits))) a
      ∙ ap (λ (e : Found Entry). lexicon_of (words_in budget) e (above_in (words_in budget).all ((other - (words_in budget).visits) - e.visits))) b
      ∙ ap (λ (f : Found Entry). lexicon_of (words_in budget) (empties_in (left_by_words budget)) f) c

  needed : (budget : ℕ) → (whole budget).finished ≡ true → (fewer : ℕ) → fewer < (whole budget).visits → (whole fewer).finished ≡ false
  needed budget fin fewer less = go (either (whole fewer).finished)
    where
      go : ((whole fewer).finished ≡ true) ⊎ ((whole fewer).finished ≡ false) → (whole fewer).finished ≡ false
      go (inl e) =
          let low = within fewer in
          let most = within budget in
          let same : whole budget ≡ whole fewer = settled fewer e budget (omega arith) in
          let visits : (whole budget).visits ≡ (whole fewer).visits = ap (λ (l : Lexicon). l.visits) same in
          absurd (omega arith)
      go (inr e) = e

pub lexicon_budget_law : LexiconBudgetLaws
unfolding lexicon
lexicon_budget_law extract h program budget = record {
  within = within extract h program budget;
  few = few extract h program budget;
  spent = λ e. spent extract h program budget (which extract h program budget e);
  unfinished = λ e. cut_off extract h program budget (which extract h program budget e);
  ended = ended extract h program budget;
  needed = needed extract h program budget;
  settled = settled extract h program budget;
}
