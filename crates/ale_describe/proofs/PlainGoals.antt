-- No cut, negation or if-then stands in a described goal where none is written.
use Rattle.std.proofs.Common.{Ok, refl, sym, subst}
use Rattle.ale_declared.specs.Declarations.{Declared}
use Rattle.ale_term.specs.Goals as written
use Rattle.ale_term.specs.Goals.{GoalData, GoalsData}
use Rattle.ale_logic.specs.Goals.{IsPlain, ArePlain}
use Rattle.ale_vocabulary.specs.Mentions.{mentions_of_goal}
use Rattle.ale_describe.specs.Describing.{goal_described, goals_described}
use Rattle.ale_describe.specs.Limits.{descriptions_in}
use Rattle.ale_describe.specs.MeaningLaws.{PlainGoalsLaw}
use Rattle.ale_describe.specs.Names.{NamesData}
use Rattle.ale_describe.specs.Plain.{IsPlainGoal, ArePlainGoals}
use Rattle.ale_describe.specs.Scopes.{ScopeData, new_scope}
use Rattle.ale_describe.proofs.Meant.{meant_of}

mutual
  plain_goal : (d : Declared) (names : NamesData) (scope : ScopeData) (g : GoalData) → IsPlainGoal g → IsPlain (goal_described d names scope g).0
  plain_goal d names scope written.holds p = tt
  plain_goal d names scope written.cut p = absurd p
  plain_goal d names scope (written.each gs) p = plain_goals d names scope gs p
  plain_goal d names scope (written.either gs) p = plain_goals d names scope gs p
  plain_goal d names scope (written.equal t u) p = tt
  plain_goal d names scope (written.call q ts) p = tt
  plain_goal d names scope (written.not_proved g) p = absurd p
  plain_goal d names scope (written.if_else c g e) p = absurd p
  plain_goal d names scope (written.once c g) p = absurd p

  plain_goals : (d : Declared) (names : NamesData) (scope : ScopeData) (gs : GoalsData) → ArePlainGoals gs → ArePlain (goals_described d names scope gs).0
  plain_goals d names scope written.no_goal p = tt
  plain_goals d names scope (written.goal_more g gs) p = (plain_goal d names scope g p.0, plain_goals d names (goal_described d names scope g).1 gs p.1)

pub plain_goals_law : PlainGoalsLaw
plain_goals_law = record {
  described = plain_goal;
  meant = λ d names so_far g m plain is.
      subst IsPlain (sym (meant_of d names so_far (mentions_of_goal g) (descriptions_in g) (goal_described d names new_scope g) (Ok m) m is refl).meant) (plain_goal d names new_scope g plain);
}
