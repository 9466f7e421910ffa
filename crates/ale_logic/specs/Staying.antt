-- What holds at the nodes of a structure holds there in each extension of it. This project's own.
use Rattle.std.specs.Prelude.{◌≡◌, ℕ, ◌<◌, ◌≤◌, Some, List}
use Rattle.ale_hierarchy.specs.Hierarchy.{Hierarchy}
use Rattle.ale_graph.specs.Structures.{Structure, count, type_of, value_of}
use Rattle.ale_graph.specs.Extensions.{Extends}
use Rattle.ale_logic.specs.Descriptions.{Description, HoldsAt, IsAssignment}
use Rattle.ale_logic.specs.Goals.{Goal}
use Rattle.ale_logic.specs.Programs.{Word, Constraint, Program}
use Rattle.ale_logic.specs.Derivations.{Calls, Derivable}
use Rattle.ale_logic.specs.Models.{MeetsConstraint}
use Rattle.ale_logic.specs.Lexical.{LexicalAt, IsEmptyCategory}
use Rattle.ale_logic.specs.ListNodes.{IsEmptyList, IsNonEmptyList, IsHd, IsTl}
use Rattle.ale_logic.specs.Spans.{Spans}

pub record StaysLaw (h : Hierarchy) (program : Program) (s t : Structure) : Type 0 where
  pub larger : count s ≤ count t
  pub types : (n : ℕ) → n < count s → type_of t n ≡ type_of s n
  pub values : (n f m : ℕ) → value_of s n f ≡ Some m → value_of t n f ≡ Some m
  pub assigns : (assign : ℕ → ℕ) → IsAssignment s assign → IsAssignment t assign
  pub holds : (assign : ℕ → ℕ) (d : Description) (n : ℕ) → n < count s → HoldsAt h s assign d n → HoldsAt h t assign d n
  pub calls : (depth p : ℕ) (ns : List ℕ) → Calls h program s depth p ns → Calls h program t depth p ns
  pub derivable : (assign : ℕ → ℕ) (g : Goal) → Derivable h program s assign g → Derivable h program t assign g
  pub meets : (c : Constraint) (n : ℕ) → n < count s → MeetsConstraint h program s c n → MeetsConstraint h program t c n
  pub lexical : (depth : ℕ) (w : Word) (n : ℕ) → LexicalAt h program s depth w n → LexicalAt h program t depth w n
  pub empty : (n : ℕ) → IsEmptyCategory h program s n → IsEmptyCategory h program t n
  pub empty_list : (n : ℕ) → n < count s → IsEmptyList h program s n → IsEmptyList h program t n
  pub non_empty_list : (n : ℕ) → n < count s → IsNonEmptyList h program s n → IsNonEmptyList h program t n
  pub hds : (n m : ℕ) → IsHd program s n m → IsHd program t n m
  pub tls : (n m : ℕ) → IsTl program s n m → IsTl program t n m
  pub spans : (words : List Word) (n i k : ℕ) → Spans h program s words n i k → Spans h program t words n i k

abbrev pub StaysLaws : Type 0
StaysLaws = (h : Hierarchy) (program : Program) (s t : Structure) → Extends h s t → StaysLaw h program s t
