use Rattle.std.proofs.Common.{ap, ◌∙◌}
use Rattle.ale_macro.specs.Templates.{template_data}
use Rattle.ale_expansion.specs.Met.{MetData}
use Rattle.ale_expansion.proofs.Walks.{begins}
use Rattle.ale_expansion.proofs.variables.expand.Goals as goal

pub returns-clause-value : goal.returns-clause-value
returns-clause-value c =
    c.in_ok-desc.ensures
    ∙ begins c.in_ok-walk.walk c.args.library.now c.args.variables.now (template_data c.args.template.now) c.in_ok-walk.ensures.library
    (ap (λ (d : MetData). d.variables) c.in_ok-walk.ensures.met ∙ (ap (λ (d : MetData). d.variables) c.replace-met.ensures.value ∙ c.variables.view_is)) c.in_ok-walk.ensures.root
