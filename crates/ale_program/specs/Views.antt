-- What the parts of a program are in the logic. Source: B. Carpenter and G. Penn, ALE 3.2 User's Guide.
use Rattle.std.specs.Prelude.{None, List, [], map, option_map}
use Rattle.ale_declared.specs.Declarations.{Declared}
use Rattle.ale_logic.specs.Descriptions.{description, descriptions_of}
use Rattle.ale_logic.specs.Programs as plain
use Rattle.ale_logic.specs.Programs.{cat, cats, derived, sem_head, Program}
use Rattle.ale_morph.specs.Search.{becomes}
use Rattle.ale_list.specs.Lists.{lists_in}
use Rattle.ale_program.specs.Goals.{goal_data}
use Rattle.ale_program.specs.declared.clause.Clause.{Clause}
use Rattle.ale_program.specs.declared.clause.Pred.{Pred}
use Rattle.ale_program.specs.declared.clause.Constraint.{Constraint}
use Rattle.ale_program.specs.declared.lexical.WordDecl.{WordDecl}
use Rattle.ale_program.specs.declared.lexical.EmptyDecl.{EmptyDecl}
use Rattle.ale_program.specs.declared.lexical.LexRule.{LexRule}
use Rattle.ale_program.specs.declared.element.Element.{Element}
use Rattle.ale_program.specs.declared.element.Element.TheVariants as element
use Rattle.ale_program.specs.declared.element.Rule.{Rule}
use Rattle.ale_program.specs.declared.parts.Parts.{Parts}

abbrev pub clause_data : Clause → plain.Clause
clause_data c = record { args = descriptions_of (map description c.args); body = goal_data c.body; slots = c.slots }

abbrev pub clauses_data : Pred → List plain.Clause
clauses_data p = map clause_data p.clauses

abbrev pub constraint_data : Constraint → plain.Constraint
constraint_data c = record { of = c.at; desc = description c.desc; goal = option_map goal_data c.goal; slots = c.slots }

abbrev pub word_data : WordDecl → plain.WordDeclaration
word_data w = record { word = w.word; desc = description w.desc; slots = w.slots }

abbrev pub empty_data : EmptyDecl → plain.EmptyDeclaration
empty_data e = record { desc = description e.desc; slots = e.slots }

abbrev pub lex_rule_data : LexRule → plain.LexicalRule
lex_rule_data r = record {
  input = description r.input;
  output = description r.output;
  goal = option_map goal_data r.goal;
  becomes = becomes r.lines;
  slots = r.slots;
}

abbrev pub element_data : Element → plain.Element
element_data (element.Cat d) = cat (description d)
element_data (element.Cats d) = cats (description d)
element_data (element.Goal g) = derived (goal_data g)
element_data (element.Head d) = sem_head (description d)

abbrev pub rule_data : Rule → plain.Rule
rule_data r = record { mother = description r.mother; elements = map element_data r.elements; slots = r.slots }

-- the program of these parts
abbrev pub program : Parts → Program
program p = record {
  preds = map clauses_data p.preds;
  constraints = map constraint_data p.constraints;
  words = map word_data p.words;
  empties = map empty_data p.empties;
  lex_rules = map lex_rule_data p.lex_rules;
  rules = map rule_data p.rules;
  semantics = p.semantics;
  lists = lists_in p.signature;
  lex_depth = p.lex_depth;
  chain_length = p.chain_length;
}

-- the parts of a program that says nothing; by default there are two levels of lexical rules, and chains of at most four
-- rules
abbrev pub no_parts : Declared → Parts
no_parts d = record {
  signature = d;
  preds = [];
  constraints = [];
  words = [];
  empties = [];
  lex_rules = [];
  rules = [];
  semantics = None;
  lex_depth = 2;
  chain_length = 4;
}
