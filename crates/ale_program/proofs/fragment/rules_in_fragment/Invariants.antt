use Rattle.std.proofs.Common.{◌↔◌, drop}
use Rattle.ale_program.specs.Fragment.{Each, IsPlainRule}
use Rattle.ale_program.proofs.fragment.rules_in_fragment.Given as goal

abbrev pub invariant-loop-rule : goal.invariant-loop-rule
invariant-loop-rule l = Each IsPlainRule (drop l.rule-index l.rules) ↔ Each IsPlainRule l.rules
