-- A program that says nothing keeps all that is asked.
use Rattle.ale_declared.specs.Declarations.{Declared}
use Rattle.ale_hierarchy.specs.Hierarchy.{IsLawful}
use Rattle.ale_hierarchy.specs.Order.{hierarchy}
use Rattle.ale_logic.specs.Fitting.{FitsProgram}
use Rattle.ale_list.proofs.ListNames.{lists_fit}
use Rattle.ale_program.specs.Views.{no_parts, program}
use Rattle.ale_program.specs.Kept.{HasArities, IsProgram}

nothing_fits : (d : Declared) → IsLawful (hierarchy d) → FitsProgram (hierarchy d) (program (no_parts d))
nothing_fits d w = record {
  clauses = λ p c h. absurd h;
  constraints = λ c h. absurd h;
  rules = λ r h. absurd h;
  words = λ x h. absurd h;
  empties = λ e h. absurd h;
  lex_rules = λ r h. absurd h;
  lists = λ l e. lists_fit d l w e;
}

nothing_called : (d : Declared) → HasArities (no_parts d)
nothing_called d = record {
  heads = λ q c h k. absurd h;
  bodies = λ q c h k. absurd h;
  constraints = λ c h. absurd h;
  lex_rules = λ r h. absurd h;
  rules = λ r g h k. absurd h;
}

pub nothing_kept : (d : Declared) → IsLawful (hierarchy d) → IsProgram (no_parts d)
nothing_kept d w = record {
  fits = nothing_fits d w;
  calls = nothing_called d;
  semantics = λ s e. absurd cc;
  lines = λ r h. absurd h;
  lists = λ r d h k. absurd h;
}
