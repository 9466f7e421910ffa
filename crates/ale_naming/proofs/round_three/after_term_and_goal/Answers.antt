use Rattle.std.proofs.Common.{sym, ◌∙◌}
use Rattle.std.specs.Option.{option_map}
use Rattle.ale_term.specs.Terms.{term_data}
use Rattle.ale_term.specs.Goals.{goal_data}
use Rattle.ale_naming.specs.Faults.{descriptions_in_some}
use Rattle.ale_naming.proofs.Adding.{sum_stops}
use Rattle.ale_naming.proofs.round_three.after_term_and_goal.Goals as goal

pub returns-in-None : goal.returns-in-None
returns-in-None c =
    sum_stops c.args.sig.now c.args.names.now c.args.so_far (term_data c.args.term.now) (descriptions_in_some (option_map goal_data c.args.goal.now)) (sym c.in-None.is ∙ c.in_ok-sum.ensures)
