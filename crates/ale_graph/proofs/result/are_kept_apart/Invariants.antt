use Rattle.std.proofs.Common.{◌≡◌, drop}
use Rattle.ale_declared.specs.Lists.{every}
use Rattle.ale_graph.specs.Closure.{is_kept_apart}
use Rattle.ale_graph.specs.Drafts.{class_in}
use Rattle.ale_graph.proofs.result.are_kept_apart.Given as goal

abbrev pub invariant-loop-fact : goal.invariant-loop-fact
invariant-loop-fact l = every (is_kept_apart (class_in l.class)) (drop l.fact-index l.facts) ≡ every (is_kept_apart (class_in l.class)) l.facts
