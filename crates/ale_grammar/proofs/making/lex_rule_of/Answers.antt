use Rattle.std.proofs.Common.{◌≡◌, subst}
use Rattle.std.specs.Prelude.{IfOk}
use Rattle.ale_logic.specs.Programs.{LexicalRule}
use Rattle.ale_program.specs.Views.{lex_rule_data}
use Rattle.ale_grammar.proofs.making.lex_rule_of.Goals as goal

pub returns-clause-rule : goal.returns-clause-rule
returns-clause-rule c =
    subst (λ (z : LexicalRule). IfOk c.with_lines.result (λ r. lex_rule_data r ≡ z)) (c.in_ok-sides.ensures c.args.lines.now) c.with_lines.ensures.rule
