use Rattle.std.proofs.Common.{sym, ◌∙◌, map}
use Rattle.ale_term.specs.Terms.{term_data}
use Rattle.ale_term.specs.Goals.{goal_data}
use Rattle.ale_describe.specs.Limits.{descriptions_in}
use Rattle.ale_naming.proofs.Adding.{list_stops}
use Rattle.ale_naming.proofs.round_three.after_clause.Goals as goal

pub returns-in-None : goal.returns-in-None
returns-in-None c =
    list_stops c.args.sig.now c.args.names.now c.args.so_far (map term_data c.args.arguments.now) (descriptions_in (goal_data c.args.body.now)) (sym c.in-None.is ∙ c.in_ok-sum.ensures)
