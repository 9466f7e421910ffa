-- Loops that write: what was written, before what is left to write.
use Rattle.std.proofs.Common.{◌≡◌, ℕ, suc, ◌+◌, ◌<◌, Bool, true, false, ◌&&◌, List, ◌∷◌, ◌++◌, ◌⊎◌, inl, inr, map, drop, get_or, length, refl, sym, ap, ◌∙◌, subst, append_assoc, add-one}
use Rattle.ale_declared.specs.Declarations.{Declared}
use Rattle.ale_hierarchy.specs.Hierarchy.{Hierarchy}
use Rattle.ale_hierarchy.proofs.LoopLemmas.{drop_item}
use Rattle.ale_logic.specs.Descriptions.{description, FitsDescription}
use Rattle.ale_load.specs.declared.query.Query.{Query}
use Rattle.ale_load.specs.declared.grammar.Passed.{Passed}
use Rattle.ale_load.specs.Commands.{QueryData}
use Rattle.ale_load.specs.Commands.{AllFit}
use Rattle.ale_load.specs.Views.{passed_data, query_data}
use Rattle.ale_relation.specs.Has.{Has}
use Rattle.ale_report.specs.Parts.{command_text}
use Rattle.ale_report.specs.Written.{AreCountable}
use Rattle.ale_top.specs.Lines.{passed_line, passed_text}
use Rattle.ale_top.specs.Output.{search_for, commands_text, all_finished}

pub passed_step : (ps : List Passed) (i : ℕ) (p : Passed) (old new : List ℕ) → i < length ps → p ≡ get_or ps i p → new ≡ old ++ passed_line (passed_data p) →
    new ++ passed_text (map passed_data (drop (i + 1) ps)) ≡ old ++ passed_text (map passed_data (drop i ps))
passed_step ps i p old new low at is =
    ap (λ z. z ++ passed_text (map passed_data (drop (i + 1) ps))) is
    ∙ append_assoc old (passed_line (passed_data p)) (passed_text (map passed_data (drop (i + 1) ps)))
    ∙ ap (λ z. old ++ passed_text (map passed_data z)) (sym (drop_item ps i p low at))

module _ (d : Declared) (budget : ℕ) (qs : List Query) (i : ℕ) (q : Query) (low : i < length qs) (at : q ≡ get_or qs i q) where
  -- what is left fits, the first of it and the others
  pub fits_first : (h : Hierarchy) → AllFit h (map query_data (drop i qs)) → FitsDescription h (length q.names) (description q.desc)
  fits_first h fit = (subst (λ zs. AllFit h (map query_data zs)) (drop_item qs i q low at) fit).0.fits

  pub fits_others : (h : Hierarchy) → AllFit h (map query_data (drop i qs)) → AllFit h (map query_data (drop (i + 1) qs))
  fits_others h fit = (subst (λ zs. AllFit h (map query_data zs)) (drop_item qs i q low at) fit).1

  pub command_step : (old new : List ℕ) → new ≡ old ++ command_text d (i + 1) (search_for d budget (query_data q)) →
      new ++ commands_text d budget (suc (i + 1)) (map query_data (drop (i + 1) qs)) ≡ old ++ commands_text d budget (suc i) (map query_data (drop i qs))
  command_step old new is =
      let cut : drop i qs ≡ q ∷ drop (i + 1) qs = drop_item qs i q low at in
      rw (is, cut, add-one i)
      (append_assoc old (command_text d (suc i) (search_for d budget (query_data q))) (commands_text d budget (suc (suc i)) (map query_data (drop (suc i) qs))))

  pub ended_step : (before ended after : Bool) → ended ≡ (search_for d budget (query_data q)).finished → after ≡ (before && ended) →
      (after && all_finished d budget (map query_data (drop (i + 1) qs))) ≡ (before && all_finished d budget (map query_data (drop i qs)))
  ended_step before ended after is both =
      let cut : drop i qs ≡ q ∷ drop (i + 1) qs = drop_item qs i q low at in
      rw (both, is, cut) (go before (search_for d budget (query_data q)).finished)
    where
      go : (a b : Bool) → ((a && b) && all_finished d budget (map query_data (drop (i + 1) qs))) ≡ (a && (b && all_finished d budget (map query_data (drop (i + 1) qs))))
      go true b = refl
      go false b = refl

  -- the answers to the commands so far could be counted
  pub counted_step : ((p : QueryData) → Has (map query_data qs) p → Has (map query_data (drop i qs)) p ⊎ AreCountable (search_for d budget p).answers)
      → AreCountable (search_for d budget (query_data q)).answers
      → (p : QueryData) → Has (map query_data qs) p → Has (map query_data (drop (i + 1) qs)) p ⊎ AreCountable (search_for d budget p).answers
  counted_step before now p has = elim (before p has) [ inl k ↦ go (subst (λ zs. Has (map query_data zs) p) (drop_item qs i q low at) k) | inr small ↦ inr small ]
    where
      go : (p ≡ query_data q) ⊎ Has (map query_data (drop (i + 1) qs)) p → Has (map query_data (drop (i + 1) qs)) p ⊎ AreCountable (search_for d budget p).answers
      go (inl e) = inr (subst (λ (z : QueryData). AreCountable (search_for d budget z).answers) (sym e) now)
      go (inr k) = inl k

-- what a short-circuit of two tests comes to
pub and_then : (a b f : Bool) → a ≡ true → f ≡ b → f ≡ (a && b)
and_then a b f e h = h ∙ ap (λ (z : Bool). z && b) (sym e)

pub and_else : (a b f : Bool) → a ≡ false → f ≡ false → f ≡ (a && b)
and_else a b f e h = h ∙ ap (λ (z : Bool). z && b) (sym e)
