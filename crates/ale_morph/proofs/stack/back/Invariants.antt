use Rattle.std.proofs.Common.{◌≡◌, false, vec_len}
use Rattle.ale_morph.specs.Stack.{resume, top_first}
use Rattle.ale_morph.proofs.stack.back.Given as goal

abbrev pub invariant-loop-last : goal.invariant-loop-last
invariant-loop-last l = resume l.hopeless (top_first l.stack.items) ≡ resume false (top_first l.fn.stack.items)

abbrev pub decreases-loop-last : goal.decreases-loop-last
decreases-loop-last l = vec_len l.stack
