use Rattle.std.proofs.Common.{◌≡◌, map, sym, subst, List}
use Rattle.std.specs.Prelude.{OnOk}
use Rattle.std.specs.Option.{option_map}
use Rattle.ale_term.specs.Terms.{term_data}
use Rattle.ale_term.specs.Goals as written
use Rattle.ale_declaration.specs.declared.declaration.Declaration.{Declaration}
use Rattle.ale_declaration.specs.declared.declaration.MorphLine.{MorphLine}
use Rattle.ale_declaration.specs.Declarations as declaration
use Rattle.ale_declaration.specs.Declarations.{declaration_data}
use Rattle.ale_grammar.specs.Building.{made, with_declaration}
use Rattle.ale_grammar.proofs.building.add.Goals as goal

pub returns-in-LexRule : goal.returns-in-LexRule
returns-in-LexRule c =
    subst (λ (x : Declaration). OnOk c.add_lex_rule.result (made c.add_lex_rule.new.building ≡ with_declaration c.args.sig.now c.args.names.now (made c.args.building.now) (declaration_data x))) (sym c.in-LexRule.is)
    (subst (λ (ls : List MorphLine). OnOk c.add_lex_rule.result (made c.add_lex_rule.new.building ≡ with_declaration c.args.sig.now c.args.names.now (made c.args.building.now)
    (declaration.lex_rule c.in-LexRule.name (term_data c.in-LexRule.input) (term_data c.in-LexRule.output) (option_map written.goal_data c.in-LexRule.goal) ls)))
    c.as_slice-in-LexRule.ensures c.add_lex_rule.ensures)
