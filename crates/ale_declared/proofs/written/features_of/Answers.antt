use Rattle.ale_declared.specs.Declarations.{feature_names}
use Rattle.ale_declared.proofs.NameLemmas.{numbered_step}
use Rattle.ale_declared.proofs.written.features_of.Goals as goal

pub loop-decl-preserved : goal.loop-decl-preserved
loop-decl-preserved c =
    numbered_step feature_names c.loop-decl.features c.add_features.new.features _ c.args.decls.now c.loop-decl.decl-index c.decl-item.result
    c.loop-decl-test.true c.decl-item.is c.in_ok-add_features.ensures c.loop-decl.invariant
