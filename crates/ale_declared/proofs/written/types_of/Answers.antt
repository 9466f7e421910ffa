use Rattle.ale_declared.specs.Declarations.{type_names}
use Rattle.ale_declared.proofs.NameLemmas.{numbered_step}
use Rattle.ale_declared.proofs.written.types_of.Goals as goal

pub loop-decl-preserved : goal.loop-decl-preserved
loop-decl-preserved c =
    numbered_step type_names c.loop-decl.types c.add_types.new.types _ c.args.decls.now c.loop-decl.decl-index c.decl-item.result
    c.loop-decl-test.true c.decl-item.is c.in_ok-add_types.ensures c.loop-decl.invariant
