-- The program that says nothing fits each signature, and each total, extensional structure is a model of it.
use Rattle.std.proofs.Common.{◌≡◌, ℕ, zero, suc, ◌<◌, List, [], Option, Some, None, get_or, inl, inr}
use Rattle.ale_declared.specs.Lists.{Has}
use Rattle.ale_hierarchy.specs.Hierarchy.{Hierarchy, IsLawful}
use Rattle.ale_graph.specs.Structures.{Structure, IsStructure, count}
use Rattle.ale_logic.specs.Answers.{IsAccepted}
use Rattle.ale_logic.specs.Fitting.{FitsProgram, IsPlainProgram}
use Rattle.ale_logic.specs.Models.{constraint_at, IsModel}
use Rattle.ale_logic.specs.Programs.{Clause, Constraint}
use Rattle.ale_logic.specs.Steps.{IsGrammar}
use Rattle.ale_search.specs.Views.{bare, empty_program}

no_clause : (p : ℕ) (c : Clause) → Has (get_or {A = List Clause} [] p []) c → ⊥
no_clause zero c has = absurd has
no_clause (suc p) c has = absurd has

pub fits_none : (h : Hierarchy) → FitsProgram h empty_program
fits_none h = record {
  clauses = λ p c has. absurd (no_clause p c has);
  constraints = λ c has. absurd has;
  rules = λ r has. absurd has;
  words = λ w has. absurd has;
  empties = λ e has. absurd has;
  lex_rules = λ r has. absurd has;
  lists = λ l e. absurd cc;
}

plain_none : IsPlainProgram empty_program
plain_none = record {
  clauses = λ p c has. absurd (no_clause p c has);
  constraints = λ c has. absurd has;
  rules = λ r has. absurd has;
  lex_rules = λ r has. absurd has;
}

pub accepted_none : (h : Hierarchy) → IsLawful h → IsAccepted h empty_program
accepted_none h law = record { lawful = law; fits = fits_none h; plain = plain_none }

no_constraint : (k : ℕ) (c : Constraint) → constraint_at empty_program k ≡ Some c → ⊥
no_constraint zero c e = absurd cc
no_constraint (suc k) c e = absurd cc

-- each total, extensional structure with a node is a model of the program that says nothing
pub model_of : (h : Hierarchy) (s : Structure) → IsStructure h s → 0 < count s → IsModel h empty_program s
model_of h s str low = record { structure = str; some_node = low; meets = λ n k c below at above. absurd (no_constraint k c at) }

pub bare_grammar : (h : Hierarchy) → IsLawful h → IsGrammar (bare h)
bare_grammar h law = record { lawful = law; program = fits_none h; words = λ e has. elim has [ inl k ↦ absurd k | inr k ↦ absurd k ] }
