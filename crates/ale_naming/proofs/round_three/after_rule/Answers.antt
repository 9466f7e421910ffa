use Rattle.std.proofs.Common.{sym, ◌∙◌, map}
use Rattle.ale_term.specs.Terms.{term_data}
use Rattle.ale_declaration.specs.Declarations.{element_data}
use Rattle.ale_naming.specs.Faults.{descriptions_in_elements}
use Rattle.ale_naming.proofs.Adding.{sum_stops}
use Rattle.ale_naming.proofs.round_three.after_rule.Goals as goal

pub returns-in-None : goal.returns-in-None
returns-in-None c =
    sum_stops c.args.sig.now c.args.names.now c.args.so_far (term_data c.args.mother.now) (descriptions_in_elements (map element_data c.args.elements.now)) (sym c.in-None.is ∙ c.in_ok-sum.ensures)
