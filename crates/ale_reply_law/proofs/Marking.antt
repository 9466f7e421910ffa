-- Which replies are marked unfinished, from what budgets are to searches, the lexicon and the chart.
use Rattle.std.proofs.Common.{◌≡◌, ℕ, ◌≤◌, Bool, true, false, ◌&&◌, List, [], ◌∷◌, ◌⊎◌, inl, inr, refl, sym, ap, ◌∙◌, arith}
use Rattle.std.proofs.lemmas.Bool.{and_parts, false≢true}
use Rattle.ale_hierarchy.specs.Hierarchy.{Hierarchy}
use Rattle.ale_engine.specs.Engine.{is_nothing, search}
use Rattle.ale_engine.proofs.EngineLaw.{engine_law}
use Rattle.ale_logic.specs.Programs.{Word, Program}
use Rattle.ale_logic.specs.Words.{Entry, Grammar}
use Rattle.ale_logic.specs.States.{State}
use Rattle.ale_logic.specs.Starts.{start, start_goal, start_gen}
use Rattle.ale_logic.specs.Visits.{Answer, visit}
use Rattle.ale_logic.specs.Parts.{Extract}
use Rattle.ale_logic.specs.Lexicons.{lexicon, wordless, with_words}
use Rattle.ale_logic.specs.LexiconLaws.{LexiconBudgetLaws}
use Rattle.ale_logic.specs.Charts.{Keep, chart}
use Rattle.ale_logic.specs.ChartLaws.{ChartBudgetLaws}
use Rattle.ale_reply_law.specs.Marks.{SearchNeedsMore, LexiconNeedsMore, ChartNeedsMore, MarksLaw, MarksLaws}

-- finished exactly where no more is needed
record IsDecided (finished : Bool) (Needs : Type 0) : Type 0 where
  pub unfinished : finished ≡ false → Needs
  pub done : finished ≡ true → Needs → ⊥

and_true : (b : Bool) → (b && true) ≡ b
and_true true = refl
and_true false = refl

and_false : (a b : Bool) → (a && b) ≡ false → (a ≡ false) ⊎ (b ≡ false)
and_false true b e = inr e
and_false false b e = inl refl

-- alone, and of two that are both to be finished
alone : (f : Bool) (N : Type 0) → IsDecided f N → IsDecided (f && true) N
alone f N k = record { unfinished = λ e. k.unfinished (sym (and_true f) ∙ e); done = λ e n. k.done (sym (and_true f) ∙ e) n }

both : (f g : Bool) (N M : Type 0) → IsDecided f N → IsDecided g M → IsDecided (f && g) (N ⊎ M)
both f g N M k l = record {
  unfinished = λ e. elim (and_false f g e) [ inl one ↦ inl (k.unfinished one) | inr two ↦ inr (l.unfinished two) ];
  done = λ e n. elim n [ inl one ↦ k.done (and_parts f g e).0 one | inr two ↦ l.done (and_parts f g e).1 two ];
}

search_decided : (gr : Grammar) (st : State) (budget : ℕ) → IsDecided (search (visit gr) budget (st ∷ [])).finished (SearchNeedsMore gr st budget)
search_decided gr st budget = record {
  unfinished = λ e. (((engine_law State Answer Entry (visit gr)).budgets budget (st ∷ [])).spent e).1;
  done = λ e w. false≢true (sym (ap is_nothing w.are) ∙ e);
}

search_within : (gr : Grammar) (st : State) (budget : ℕ) → (search (visit gr) budget (st ∷ [])).visits ≤ budget
search_within gr st budget = ((engine_law State Answer Entry (visit gr)).budgets budget (st ∷ [])).within

module _ (lexica : LexiconBudgetLaws) (charts : ChartBudgetLaws) (extract : Extract) (keep : Keep) (h : Hierarchy) (program : Program) (closing budget : ℕ) where
  abbrev lexicon_finished : Bool
  lexicon_finished = (lexicon extract h program closing).finished

  abbrev chart_finished : List Word → Bool
  chart_finished sentence = (chart extract keep h program (lexicon extract h program closing).words sentence budget).finished

  abbrev plain : Grammar
  plain = wordless h program

  abbrev worded : Grammar
  worded = with_words h program (lexicon extract h program closing).words

  lexicon_decided : IsDecided (lexicon extract h program closing).finished (LexiconNeedsMore extract h program closing)
  lexicon_decided = record { unfinished = (lexica extract h program closing).unfinished; done = (lexica extract h program closing).ended }

  chart_decided : (sentence : List Word) → IsDecided (chart extract keep h program (lexicon extract h program closing).words sentence budget).finished (ChartNeedsMore extract keep h program closing sentence budget)
  chart_decided sentence = record {
    unfinished = (charts extract keep h program (lexicon extract h program closing).words sentence budget).unfinished;
    done = (charts extract keep h program (lexicon extract h program closing).words sentence budget).ended;
  }

  one : (st : State) → IsDecided ((search (visit plain) budget (st ∷ [])).finished && true) (SearchNeedsMore plain st budget)
  one st = alone (search (visit plain) budget (st ∷ [])).finished (SearchNeedsMore plain st budget) (search_decided plain st budget)

  spoken : (st : State) → IsDecided ((search (visit worded) budget (st ∷ [])).finished && lexicon_finished) (SearchNeedsMore worded st budget ⊎ LexiconNeedsMore extract h program closing)
  spoken st = both (search (visit worded) budget (st ∷ [])).finished lexicon_finished (SearchNeedsMore worded st budget) (LexiconNeedsMore extract h program closing) (search_decided worded st budget) lexicon_decided

  parsed : (sentence : List Word) → IsDecided (chart_finished sentence && lexicon_finished) (ChartNeedsMore extract keep h program closing sentence budget ⊎ LexiconNeedsMore extract h program closing)
  parsed sentence = both (chart_finished sentence) lexicon_finished (ChartNeedsMore extract keep h program closing sentence budget) (LexiconNeedsMore extract h program closing) (chart_decided sentence) lexicon_decided

  marks : MarksLaw extract keep h program closing budget
  marks = record {
    descriptions = λ slots d. record { within = search_within plain (start slots d) budget; unfinished = (one (start slots d)).unfinished; complete = (one (start slots d)).done };
    goals = λ slots g printed. record { within = search_within plain (start_goal slots g) budget; unfinished = (one (start_goal slots g)).unfinished; complete = (one (start_goal slots g)).done };
    words = λ w. record { within = omega arith; unfinished = lexicon_decided.unfinished; complete = lexicon_decided.done };
    sentences = λ sentence. record { within = omega arith; unfinished = (parsed sentence).unfinished; complete = (parsed sentence).done };
    generations = λ slots d. record { within = search_within worded (start_gen slots d) budget; unfinished = (spoken (start_gen slots d)).unfinished; complete = (spoken (start_gen slots d)).done };
  }

pub marks_laws : LexiconBudgetLaws → ChartBudgetLaws → MarksLaws
marks_laws lexica charts extract keep h program closing budget = marks lexica charts extract keep h program closing budget
