use Rattle.ale_macro.proofs.Loops.{pushed_macro}
use Rattle.ale_macro.proofs.calls.calls.Goals as goal

pub loop-m-preserved : goal.loop-m-preserved
loop-m-preserved c =
    pushed_macro c.args.macros.now c.loop-m.m c.index-macros-m.result _ _ _ c.loop-m-test.true c.index-macros-m.is c.in_ok-push_calls.ensures c.loop-m.invariant
