use Rattle.std.proofs.Common.{ap, ◌∙◌}
use Rattle.ale_expansion.specs.Met.{names_in}
use Rattle.ale_expansion.proofs.Naming.{names_are, names_done}
use Rattle.ale_expansion.proofs.variables.Variables.names.Goals as goal

pub returns : goal.returns
returns c =
    let paths = c.self.inside.met.paths in
    let scope = c.args.scope.now in
    let marks = c.slots-marks.result.now in
    c.of.ensures
    ∙ (names_done c.loop-mark.names.items scope marks c.loop-mark.mark-index c.loop-mark.invariant c.loop-mark-test.false
    ∙ (names_are paths scope marks c.slots-marks.ensures.distinct c.root-root.ensures.path c.root-root.ensures.there c.slots-marks.ensures.below
    ∙ ap (names_in scope) (c.slots-marks.ensures.value ∙ c.self.view_is)))
