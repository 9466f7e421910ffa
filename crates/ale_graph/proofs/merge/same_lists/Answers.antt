use Rattle.ale_graph.specs.Drafts.{class_in}
use Rattle.ale_graph.proofs.Mapped.{same_end}
use Rattle.ale_graph.proofs.merge.same_lists.Goals as goal

pub returns : goal.returns
returns c = same_end (class_in c.args.class.now) c.args.first.now c.args.second.now c.loop-i.i c.loop-i.auto.i-end c.loop-i-test.false c.loop-i.invariant
