use Rattle.std.proofs.Common.{ap, subst, ◌∙◌}
use Rattle.ale_term.specs.Results.{Gives}
use Rattle.ale_term.specs.Goals.{goal_data}
use Rattle.ale_term.specs.Grammar.{IsGoalPart}
use Rattle.ale_term.specs.Follows.{Front}
use Rattle.ale_term.specs.Reading.{goal_element_at}
use Rattle.ale_term.proofs.Readings.{found}
use Rattle.ale_term.proofs.FullGoals.{goal_element_read}
use Rattle.ale_term.proofs.SoundGoals.{sound_goal_element}
use Rattle.ale_term.proofs.read.goal_element.Goals as goal

pub returns-clause-found : goal.returns-clause-found
returns-clause-found c =
    found (λ p. (goal_data p.0, p.1.now)) c.read_goal_element.result (goal_element_at c.args.lexemes.now) (Front IsGoalPart c.args.lexemes.now) c.read_goal_element.ensures (sound_goal_element c.args.lexemes.now)

pub returns-clause-read : goal.returns-clause-read
returns-clause-read c xs rest g split d ends =
    subst (Gives (λ p. (goal_data p.0, p.1.now)) c.read_goal_element.result) (ap goal_element_at split ∙ goal_element_read d rest ends) c.read_goal_element.ensures
