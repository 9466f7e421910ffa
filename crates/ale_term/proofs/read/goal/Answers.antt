use Rattle.std.proofs.Common.{ap, subst, ◌∙◌}
use Rattle.ale_term.specs.Results.{Gives}
use Rattle.ale_term.specs.Goals.{goal_data}
use Rattle.ale_term.specs.Grammar.{IsGoal}
use Rattle.ale_term.specs.Follows.{Front}
use Rattle.ale_term.specs.Reading.{goal_at}
use Rattle.ale_term.proofs.Readings.{found}
use Rattle.ale_term.proofs.FullGoals.{goal_read}
use Rattle.ale_term.proofs.SoundGoals.{sound_whole_goal}
use Rattle.ale_term.proofs.read.goal.Goals as goal

pub returns-clause-found : goal.returns-clause-found
returns-clause-found c =
    found (λ p. (goal_data p.0, p.1.now)) c.read_goal.result (goal_at c.args.lexemes.now) (Front IsGoal c.args.lexemes.now) c.read_goal.ensures (sound_whole_goal c.args.lexemes.now)

pub returns-clause-read : goal.returns-clause-read
returns-clause-read c xs rest g split d ends =
    subst (Gives (λ p. (goal_data p.0, p.1.now)) c.read_goal.result) (ap goal_at split ∙ goal_read d rest ends) c.read_goal.ensures
