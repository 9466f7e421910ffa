use Rattle.std.proofs.Common.{◌≡◌, ◌+◌, ◌*◌, ◌-◌, suc, map, length}
use Rattle.ale_term.specs.declared.symbol.Symbol.TheVariants.{Comma}
use Rattle.ale_term.specs.Goals.{goal_data}
use Rattle.ale_term.specs.Reading.{more_at, goal_part_of, goal_of, alternatives_at}
use Rattle.ale_term.proofs.Loops.{with_front}
use Rattle.ale_term.proofs.goal_reader.+goals.Given as goal

abbrev pub decreases-goal_in : goal.decreases-goal_in
decreases-goal_in l = 10 * l.levels

abbrev pub decreases-goal_part : goal.decreases-goal_part
decreases-goal_part l = 10 * l.levels

abbrev pub decreases-other_goal : goal.decreases-other_goal
decreases-other_goal l = 10 * l.levels + 1

abbrev pub decreases-part_within : goal.decreases-part_within
decreases-part_within l = 10 * l.levels + 2

abbrev pub decreases-more_goals : goal.decreases-more_goals
decreases-more_goals l = 10 * l.levels + 3

abbrev pub decreases-goals : goal.decreases-goals
decreases-goals l = 10 * l.levels + 4

abbrev pub decreases-conditional : goal.decreases-conditional
decreases-conditional l = 10 * l.levels + 5

abbrev pub decreases-alternative : goal.decreases-alternative
decreases-alternative l = 10 * l.levels + 6

abbrev pub decreases-alternatives : goal.decreases-alternatives
decreases-alternatives l = 10 * l.levels + 7

abbrev pub invariant-more_goals-loop-read : goal.invariant-more_goals-loop-read
invariant-more_goals-loop-read l = with_front (map goal_data l.found.items) (more_at (length l.lexemes - l._read) Comma (goal_part_of (suc l.levels)) l.rest) ≡ more_at (length l.lexemes) Comma (goal_part_of (suc l.levels)) l.lexemes

abbrev pub invariant-alternatives-loop-read : goal.invariant-alternatives-loop-read
invariant-alternatives-loop-read l = with_front (map goal_data l.found.items) (alternatives_at (length l.lexemes - l._read) (goal_part_of (suc l.levels)) (goal_of l.levels) l.rest) ≡ alternatives_at (length l.lexemes) (goal_part_of (suc l.levels)) (goal_of l.levels) l.lexemes
