-- What a lexical rule says of entries, and of their words. Source: lexical rules in the ALE 3.2 User's Guide.
use Rattle.std.specs.Prelude.{List, map}
use Rattle.std.specs.Option.{option_map}
use Rattle.ale_declaration.specs.declared.declaration.MorphLine.{MorphLine}
use Rattle.ale_logic.specs.Descriptions.{description}
use Rattle.ale_logic.specs.Programs.{LexicalRule}
use Rattle.ale_morph.specs.Search.{becomes}
use Rattle.ale_program.specs.Goals.{goal_data}
use Rattle.ale_grammar.specs.Lines.{line_of}
use Rattle.ale_grammar.specs.declared.making.Sides.{Sides}

abbrev pub with_lines : Sides → List MorphLine → LexicalRule
with_lines s ls = record {
  input = description s.input;
  output = description s.output;
  goal = option_map goal_data s.goal;
  becomes = becomes (map line_of ls);
  slots = s.slots;
}
