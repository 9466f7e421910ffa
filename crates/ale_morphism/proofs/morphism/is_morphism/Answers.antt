use Rattle.ale_hierarchy.specs.Order.{hierarchy}
use Rattle.ale_morphism.specs.Maps.{image}
use Rattle.ale_morphism.proofs.MorphismSteps.{test_decides}
use Rattle.ale_morphism.proofs.morphism.is_morphism.Goals as goal

pub returns : goal.returns
returns c =
    test_decides (hierarchy c.args.sig.now) c.args.f.now c.args.g.now (image c.args.map.now c.args.g.now) c.keeps_all.ensures.formed c.keeps_all.result c.keeps_all.ensures.value
