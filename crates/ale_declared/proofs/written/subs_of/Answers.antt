use Rattle.ale_declared.specs.Declarations.{sub_names}
use Rattle.ale_declared.proofs.NameLemmas.{numbered_step}
use Rattle.ale_declared.proofs.written.subs_of.Goals as goal

pub loop-decl-preserved : goal.loop-decl-preserved
loop-decl-preserved c =
    numbered_step sub_names c.loop-decl.subs c.add_subs.new.names _ c.args.decls.now c.loop-decl.decl-index c.decl-item.result
    c.loop-decl-test.true c.decl-item.is c.in_ok-add_subs.ensures c.loop-decl.invariant
