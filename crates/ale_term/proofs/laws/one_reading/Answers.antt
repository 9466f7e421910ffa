use Rattle.ale_term.proofs.Readings.{one_description, one_element, one_call, one_goal, one_goal_element}
use Rattle.ale_term.proofs.laws.one_reading.Goals as goal

pub returns-clause-description : goal.returns-clause-description
returns-clause-description c xs t u d e = one_description d e

pub returns-clause-element : goal.returns-clause-element
returns-clause-element c xs t u d e = one_element d e

pub returns-clause-call : goal.returns-clause-call
returns-clause-call c xs m n ts us d e = one_call d e

pub returns-clause-goal : goal.returns-clause-goal
returns-clause-goal c xs g h d e = one_goal d e

pub returns-clause-goal_element : goal.returns-clause-goal_element
returns-clause-goal_element c xs g h d e = one_goal_element d e
