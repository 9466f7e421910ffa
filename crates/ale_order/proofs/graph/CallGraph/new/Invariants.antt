use Rattle.std.proofs.Common.{◌≡◌, ℕ, ◌++◌, length, map, drop}
use Rattle.ale_order.specs.Calls.{called, callers, row}
use Rattle.ale_order.proofs.graph.CallGraph.new.Given as goal

abbrev pub invariant-loop-caller : goal.invariant-loop-caller
invariant-loop-caller l = record {
  called_wide : length l.called.items ≡ l.size;
  callers_wide : length l.callers.items ≡ l.size;
  called : (m : ℕ) → row (map (λ r. r.items) l.called.items) m ++ called (drop l.caller-index l.calls) m ≡ called l.calls m;
  callers : (m : ℕ) → row (map (λ r. r.items) l.callers.items) m ++ callers (drop l.caller-index l.calls) m ≡ callers l.calls m;
}
