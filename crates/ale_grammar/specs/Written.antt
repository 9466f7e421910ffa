-- What a program keeps of declarations as they are written: the names of lexical rules, rules and predicates, and the lines of
-- morphology. Source: this project's own.
use Rattle.std.specs.Prelude.{◌≡◌, ℕ, List, [], ◌∷◌, map}
use Rattle.std.specs.List.{flat_map}
use Rattle.ale_declaration.specs.Declarations.{DeclarationData, signature, constraint, macro, clause, word, empty, lex_rule, rule, semantics, lex_depth, chain_length, passed_over}
use Rattle.ale_morph.specs.declared.line.Line.{Line}
use Rattle.ale_vocabulary.specs.Keys.{key}
use Rattle.ale_vocabulary.specs.Vocabularies.{vocabulary_of}
use Rattle.ale_program.specs.declared.clause.Pred.{Pred}
use Rattle.ale_program.specs.declared.lexical.LexRule.{LexRule}
use Rattle.ale_program.specs.declared.element.Rule.{Rule}
use Rattle.ale_program.specs.declared.parts.Parts.{Parts}
use Rattle.ale_grammar.specs.Lines.{line_of}

-- the name of the lexical rule that is declared
abbrev pub lex_rule_names_of : DeclarationData → List (List ℕ)
lex_rule_names_of (lex_rule n t u g ls) = n ∷ []
lex_rule_names_of (signature s) = []
lex_rule_names_of (constraint n t g) = []
lex_rule_names_of (macro m ps t) = []
lex_rule_names_of (clause p ts g) = []
lex_rule_names_of (word w t) = []
lex_rule_names_of (empty t) = []
lex_rule_names_of (rule n t es) = []
lex_rule_names_of (semantics p) = []
lex_rule_names_of (lex_depth n) = []
lex_rule_names_of (chain_length n) = []
lex_rule_names_of (passed_over n) = []

-- its lines, whose variables have numbers
abbrev pub lines_of : DeclarationData → List (List Line)
lines_of (lex_rule n t u g ls) = map line_of ls ∷ []
lines_of (signature s) = []
lines_of (constraint n t g) = []
lines_of (macro m ps t) = []
lines_of (clause p ts g) = []
lines_of (word w t) = []
lines_of (empty t) = []
lines_of (rule n t es) = []
lines_of (semantics p) = []
lines_of (lex_depth n) = []
lines_of (chain_length n) = []
lines_of (passed_over n) = []

-- the name of the rule that is declared
abbrev pub rule_names_of : DeclarationData → List (List ℕ)
rule_names_of (rule n t es) = n ∷ []
rule_names_of (signature s) = []
rule_names_of (constraint n t g) = []
rule_names_of (macro m ps t) = []
rule_names_of (clause p ts g) = []
rule_names_of (word w t) = []
rule_names_of (empty t) = []
rule_names_of (lex_rule n t u g ls) = []
rule_names_of (semantics p) = []
rule_names_of (lex_depth n) = []
rule_names_of (chain_length n) = []
rule_names_of (passed_over n) = []

abbrev pub lex_rule_name : LexRule → List ℕ
lex_rule_name r = r.name

abbrev pub lines_in : LexRule → List Line
lines_in r = r.lines

abbrev pub rule_name : Rule → List ℕ
rule_name r = r.name

abbrev pub pred_key : Pred → List ℕ
pred_key p = key p.name p.arity

-- in order of declaration; predicates in order of their first clause
pub record KeepsWritten (p : Parts) (ds : List DeclarationData) : Type 0 where
  pub lex_rules : map lex_rule_name p.lex_rules ≡ flat_map lex_rule_names_of ds
  pub lines : map lines_in p.lex_rules ≡ flat_map lines_of ds
  pub rules : map rule_name p.rules ≡ flat_map rule_names_of ds
  pub predicates : map pred_key p.preds ≡ (vocabulary_of ds).predicates
