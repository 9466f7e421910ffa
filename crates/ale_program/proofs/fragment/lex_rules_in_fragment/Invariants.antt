use Rattle.std.proofs.Common.{◌↔◌, drop}
use Rattle.ale_program.specs.Fragment.{Each, IsPlainLexRule}
use Rattle.ale_program.proofs.fragment.lex_rules_in_fragment.Given as goal

abbrev pub invariant-loop-rule : goal.invariant-loop-rule
invariant-loop-rule l = Each IsPlainLexRule (drop l.rule-index l.rules) ↔ Each IsPlainLexRule l.rules
