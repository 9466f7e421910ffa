use Rattle.std.proofs.Common.{sym, subst}
use Rattle.ale_term.specs.Results.{Gives}
use Rattle.ale_declaration.specs.Declarations.{declaration_data}
use Rattle.ale_declaration.specs.Reading.{reading_of}
use Rattle.ale_declaration.proofs.forms.read_form.Goals as goal

pub returns-in-Types : goal.returns-in-Types
unfolding reading_of
returns-in-Types c = subst (λ form. Gives declaration_data c.read_types.result (reading_of form c.args.lexemes.now)) (sym c.in-Types.is) c.read_types.ensures

pub returns-in-Extensional : goal.returns-in-Extensional
unfolding reading_of
returns-in-Extensional c = subst (λ form. Gives declaration_data c.read_extensional.result (reading_of form c.args.lexemes.now)) (sym c.in-Extensional.is) c.read_extensional.ensures

pub returns-in-Constraints : goal.returns-in-Constraints
unfolding reading_of
returns-in-Constraints c = subst (λ form. Gives declaration_data c.read_constraint.result (reading_of form c.args.lexemes.now)) (sym c.in-Constraints.is) c.read_constraint.ensures

pub returns-in-Macros : goal.returns-in-Macros
unfolding reading_of
returns-in-Macros c = subst (λ form. Gives declaration_data c.read_macro.result (reading_of form c.args.lexemes.now)) (sym c.in-Macros.is) c.read_macro.ensures

pub returns-in-Clauses : goal.returns-in-Clauses
unfolding reading_of
returns-in-Clauses c = subst (λ form. Gives declaration_data c.read_clause.result (reading_of form c.args.lexemes.now)) (sym c.in-Clauses.is) c.read_clause.ensures

pub returns-in-Words : goal.returns-in-Words
unfolding reading_of
returns-in-Words c = subst (λ form. Gives declaration_data c.read_word.result (reading_of form c.args.lexemes.now)) (sym c.in-Words.is) c.read_word.ensures

pub returns-in-Empties : goal.returns-in-Empties
unfolding reading_of
returns-in-Empties c = subst (λ form. Gives declaration_data c.read_empty.result (reading_of form c.args.lexemes.now)) (sym c.in-Empties.is) c.read_empty.ensures

pub returns-in-LexicalRules : goal.returns-in-LexicalRules
unfolding reading_of
returns-in-LexicalRules c = subst (λ form. Gives declaration_data c.read_lexical_rule.result (reading_of form c.args.lexemes.now)) (sym c.in-LexicalRules.is) c.read_lexical_rule.ensures

pub returns-in-Rules : goal.returns-in-Rules
unfolding reading_of
returns-in-Rules c = subst (λ form. Gives declaration_data c.read_rule.result (reading_of form c.args.lexemes.now)) (sym c.in-Rules.is) c.read_rule.ensures

pub returns-in-Semantic : goal.returns-in-Semantic
unfolding reading_of
returns-in-Semantic c = subst (λ form. Gives declaration_data c.read_semantics.result (reading_of form c.args.lexemes.now)) (sym c.in-Semantic.is) c.read_semantics.ensures
