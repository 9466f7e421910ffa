use Rattle.ale_macro.proofs.Nearly.{pushed_nothing}
use Rattle.ale_macro.proofs.tally.Tally.none.Goals as goal

pub loop-made-preserved : goal.loop-made-preserved
loop-made-preserved c =
    pushed_nothing c.loop-made.uses.items c.push.new.self.items c.loop-made.made c.in_ok-push.ensures.items c.loop-made.invariant.0 c.loop-made.invariant.1
