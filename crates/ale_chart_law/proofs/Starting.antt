-- That each start of a search is a state, in which words are sought or found once.
use Rattle.std.proofs.Common.{◌≡◌, ℕ, ◌+◌, List, [], ◌∷◌, length, replicate, sym, subst, arith, Option, Some, None}
use Rattle.std.proofs.lemmas.List.{length-replicate}
use Rattle.ale_declared.specs.Lists.{Has}
use Rattle.ale_hierarchy.specs.Hierarchy.{Hierarchy, IsLawful}
use Rattle.ale_graph.specs.Structures.{count}
use Rattle.ale_logic.specs.Descriptions.{FitsDescription}
use Rattle.ale_logic.specs.Goals.{Goal, FitsGoal}
use Rattle.ale_logic.specs.Programs.{Element, cat, cats, derived, sem_head, member, tail, LexicalRule, Program, goal_of}
use Rattle.ale_logic.specs.Fitting.{FitsProgram, FitsLexicalRule}
use Rattle.ale_logic.specs.Words.{Entry, IsEntry, IsKept}
use Rattle.ale_logic.specs.States.{holds, on, derive, State, doing, grown}
use Rattle.ale_logic.specs.GoalKids.{doing_goal}
use Rattle.ale_logic.specs.Putting.{putting}
use Rattle.ale_logic.specs.PartLaws.{IsElementBelow}
use Rattle.ale_logic.specs.Starts.{nothing, start_lex, ChartItem, own_start, daughter_start}
use Rattle.ale_logic.specs.StartLaws.{IsQuietStart, FitsRemaining, IsActive, IsItem, StartLaws}
use Rattle.ale_run_law.proofs.First.{none_bound, description_starts, goal_starts, generation_starts}
use Rattle.ale_chart_law.proofs.Items.{FitsLeft, IsBegun, own_one, own_begun, daughter_begun}

-- no phrase is there yet, so each is sought or found once
quiet_start : (h : Hierarchy) (x : ChartItem) (st : State) → IsBegun h x st → IsQuietStart h st
quiet_start h x st b = record { is = record { is = b.is; once = λ g low. let none = b.phrases in absurd (omega arith) }; quiet = b.quiet }

remaining_left : (h : Hierarchy) (slots n : ℕ) (e : Element) → FitsRemaining h slots e → IsElementBelow n e → FitsLeft h slots n e
remaining_left h slots n (cat d) fit low = fit
remaining_left h slots n (cats d) fit low = fit
remaining_left h slots n (sem_head d) fit low = fit
remaining_left h slots n (derived g) fit low = fit
remaining_left h slots n (member k) fit low = low
remaining_left h slots n (tail k) fit low = low

module _ (h : Hierarchy) (program : Program) (law : IsLawful h) (fits : FitsProgram h program) where
  -- the start of a lexical rule is made like that of an item with the rule's variables, of which nothing remains
  lexical_starts : (rule : LexicalRule) (x : Entry) → FitsLexicalRule h rule → IsEntry h x → IsQuietStart h (start_lex rule x)
  lexical_starts rule x fit is = go rule.goal fit.goal
    where
      item : ChartItem
      item = record { from = 0; to = 0; kept = record { graph = x.kept.graph; imposed = x.kept.imposed; env = replicate rule.slots None }; root = x.root; rule = None; rest = [] }

      slots : rule.slots ≡ length (replicate {A = Option ℕ} rule.slots None)
      slots = sym (length-replicate {A = Option ℕ} rule.slots None)

      kept : IsKept h (record { graph = x.kept.graph; imposed = x.kept.imposed; env = replicate rule.slots None }) x.root
      kept = record { structure = is.structure; root_below = is.root_below; env_below = λ v n b. absurd (none_bound rule.slots 0 v n b); imposed_below = is.imposed_below }

      input : FitsDescription h (length (replicate {A = Option ℕ} rule.slots None)) rule.input
      input = subst (λ n. FitsDescription h n rule.input) slots fit.input

      output : FitsDescription h (length (replicate {A = Option ℕ} rule.slots None)) rule.output
      output = subst (λ n. FitsDescription h n rule.output) slots fit.output

      go : (o : Option Goal) → FitsGoal h rule.slots (goal_of o) →
          IsQuietStart h (doing (on x.root (holds 0 rule.input)) (doing (on (0 + count x.kept.graph) (holds 0 rule.output)) (doing_goal 0 0 o (grown 1 (putting x.kept (nothing (replicate rule.slots None) []))))))
      go None fit_goal =
          let low = is.root_below in
          quiet_start h item (doing (on x.root (holds 0 rule.input)) (doing (on (0 + count x.kept.graph) (holds 0 rule.output)) (doing_goal 0 0 None (grown 1 (putting x.kept (nothing (replicate rule.slots None) []))))))
          (own_one h law item kept [] (λ d p. absurd p) ((0 + count x.kept.graph) + 1) (on x.root (holds 0 rule.input) ∷ on (0 + count x.kept.graph) (holds 0 rule.output) ∷ []) (omega arith)
          ((omega arith, (omega arith, input)), ((omega arith, (omega arith, output)), tt)) (tt, (tt, tt)))
      go (Some g) fit_goal =
          let low = is.root_below in
          quiet_start h item (doing (on x.root (holds 0 rule.input)) (doing (on (0 + count x.kept.graph) (holds 0 rule.output)) (doing_goal 0 0 (Some g) (grown 1 (putting x.kept (nothing (replicate rule.slots None) []))))))
          (own_one h law item kept [] (λ d p. absurd p) ((0 + count x.kept.graph) + 1) (on x.root (holds 0 rule.input) ∷ on (0 + count x.kept.graph) (holds 0 rule.output) ∷ derive 0 0 g ∷ []) (omega arith)
          ((omega arith, (omega arith, input)), ((omega arith, (omega arith, output)), ((omega arith, subst (λ n. FitsGoal h n g) slots fit_goal), tt))) (tt, (tt, (tt, tt))))

  module _ (x : ChartItem) (e : Element) (es : List Element) (it : IsItem h program x) (eq : x.rest ≡ e ∷ es) where
    active : IsActive h program x
    active = it.active e es eq

    mother_fits : FitsDescription h (length x.kept.env) active.rule.mother
    mother_fits = subst (λ n. FitsDescription h n active.rule.mother) (sym active.size) (fits.rules active.rule active.has).mother

    left_fits : (d : Element) → Has (e ∷ es) d → FitsLeft h (length x.kept.env) (count x.kept.graph) d
    left_fits d has =
        let at : Has x.rest d = subst (λ z. Has z d) (sym eq) has in
        remaining_left h (length x.kept.env) (count x.kept.graph) d (subst (λ n. FitsRemaining h n d) (sym active.size) (active.fits d at)) (it.rest_below d at)

    own_starts : (st : State) → Has (own_start program x e es) st → IsQuietStart h st
    own_starts st has = quiet_start h x st (own_begun h program law x it.is active.rule.mother active.mother mother_fits e es left_fits st has)

    daughter_starts : (y : ChartItem) → IsItem h program y → (st : State) → Has (daughter_start program x e es y) st → IsQuietStart h st
    daughter_starts y other st has = quiet_start h x st (daughter_begun h program law x it.is active.rule.mother active.mother mother_fits e es left_fits y other.is st has)

pub start_law : StartLaws
start_law h program law fits = record {
  description = λ slots d fit. description_starts h slots d fit;
  goal = λ slots g fit. goal_starts h slots g fit;
  generation = λ slots d fit. generation_starts h slots d fit;
  lexical_rule = λ rule x fit is. lexical_starts h program law fits rule x fit is;
  own = λ x e es it eq st has. own_starts h program law fits x e es it eq st has;
  daughter = λ x e es y it eq other st has. daughter_starts h program law fits x e es it eq y other st has;
}
