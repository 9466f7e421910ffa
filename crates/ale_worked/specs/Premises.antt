-- The premises of the laws can be met: the sample signature with a program of clauses, constraints, words, an empty
-- category, a lexical rule, rules with a semantic head and with a list of daughters, and a semantics predicate.
-- Source: this project's own.
use Rattle.ale_logic.specs.Steps.{IsGrammar}
use Rattle.ale_logic.specs.Answers.{IsAccepted}
use Rattle.ale_logic.specs.Lexicons.{wordless}
use Rattle.ale_logic.specs.Charts.{keep_all}
use Rattle.ale_logic.specs.ChartLaws.{KeepLaw}
use Rattle.ale_worked.specs.Sample.{sample}
use Rattle.ale_worked.specs.Grammars.{whole}

pub record PremisesAreMet : Type 0 where
  pub accepted : IsAccepted sample whole
  pub grammar : IsGrammar (wordless sample whole)
  pub keeps : KeepLaw sample keep_all
