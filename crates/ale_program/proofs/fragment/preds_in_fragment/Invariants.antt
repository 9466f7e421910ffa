use Rattle.std.proofs.Common.{◌↔◌, drop}
use Rattle.ale_program.specs.Fragment.{Each, IsPlainPred}
use Rattle.ale_program.proofs.fragment.preds_in_fragment.Given as goal

abbrev pub invariant-loop-pred : goal.invariant-loop-pred
invariant-loop-pred l = Each IsPlainPred (drop l.pred-index l.preds) ↔ Each IsPlainPred l.preds
