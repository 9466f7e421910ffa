use Rattle.ale_macro.proofs.Reached.{pushed_nowhere}
use Rattle.ale_macro.proofs.depth.Depth.none.Goals as goal

pub loop-made-preserved : goal.loop-made-preserved
loop-made-preserved c =
    pushed_nowhere c.loop-made.places.items c.push.new.self.items c.loop-made.made c.in_ok-push.ensures.items c.loop-made.invariant.0 c.loop-made.invariant.1
