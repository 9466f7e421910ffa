use Rattle.ale_grammar.proofs.GrammarLaw.{programs_fit, names_fit, programs_are_plain}
use Rattle.ale_grammar.proofs.laws.grammar_law.Goals as goal

pub returns : goal.returns
returns c = record {
  fit = programs_fit c.naming_law.ensures.fit;
  names = names_fit c.naming_law.ensures.fit;
  plain = programs_are_plain;
}
