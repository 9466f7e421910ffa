use Rattle.std.proofs.Common.{List, ℕ, subst}
use Rattle.ale_declared.specs.Lists.{Has}
use Rattle.ale_hierarchy.specs.Order.{hierarchy}
use Rattle.ale_graph.proofs.Vectors.{read_has}
use Rattle.ale_graph.proofs.FillSteps.{feature_below}
use Rattle.ale_graph.proofs.fill.fill_class.Goals as goal

pub fill_feature-requires-clause-feature : goal.fill_feature-requires-clause-feature
fill_feature-requires-clause-feature c =
    feature_below (hierarchy c.args.sig.now) c.type_of.result c.feature-item.result
    (subst (λ (z : List ℕ). Has z c.feature-item.result) c.features-feature-items.ensures
    (read_has c.features-feature-items.result.now c.loop-feature.feature-index c.feature-item.result c.loop-feature-test.true c.feature-item.is))
