use Rattle.std.proofs.Common.{◌≡◌, true, false, ◌∙◌, ◌≤◌, length, take, drop, arith}
use Rattle.std.proofs.lemmas.List.{take_rest, length-drop}
use Rattle.std.specs.Io.KnownBytes.{Appends}
use Rattle.ale_base.proofs.Faults.{stays}
use Rattle.ale_base.proofs.Streams.{appends-more}
use Rattle.ale_base.proofs.writing.write_all.Goals as goal

pub loop-done-preserved : goal.loop-done-preserved
loop-done-preserved g c =
    let bound : c.in_ok-count.count ≤ length (drop c.loop-done.done c.args.bytes.now) = rw take_rest at c.in_ok-count.ensures.bound in
    let more : Appends (g.W.Sink.written c.loop-done.sink) (g.W.Sink.written c.write.new.self) (take c.in_ok-count.count (drop c.loop-done.done c.args.bytes.now)) = rw take_rest at c.in_ok-count.ensures.bytes in (
      omega (arith, rw length-drop at bound),
      appends-more _ _ _ _ _ _ c.loop-done.invariant.1 more,
      stays _ _ _ c.in_ok-count.ensures.faults (λ (h : false ≡ true). cc) ∙ c.loop-done.invariant.2,
    )
