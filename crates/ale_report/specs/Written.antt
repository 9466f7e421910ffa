-- The structures that are written: of each answer to a description what is visible of its graph from the node at which
-- the description holds. They are the most general satisfiers, root to root, and each text fixes its structure.
-- Source: most general satisfiers, Carpenter 1992, chapter 4.
use Rattle.std.specs.Prelude.{◌≡◌, ◌≤◌, ℕ, ◌<◌, ◌^◌, true, Some, List, [], ◌∷◌}
use Rattle.ale_declared.specs.Lists.{Has}
use Rattle.ale_declared.specs.Declarations.{Declared}
use Rattle.ale_declared.specs.Numbering.{AreDistinct}
use Rattle.ale_hierarchy.specs.Hierarchy.{Hierarchy, IsLawful}
use Rattle.ale_hierarchy.specs.Order.{hierarchy}
use Rattle.ale_engine.specs.Engine.{Outcome}
use Rattle.ale_graph.specs.Structures.{Structure, IsStructure, count}
use Rattle.ale_graph.specs.Morphisms.{Subsumes}
use Rattle.ale_logic.specs.declared.answer.Answer.{Answer}
use Rattle.ale_logic.specs.Descriptions.{Description, FitsDescription}
use Rattle.ale_logic.specs.Inequations.{HasNoInequation}
use Rattle.ale_search.specs.Outcomes.{found}
use Rattle.ale_search.specs.Solutions.{IsSolution, IsAnswer}
use Rattle.ale_search.specs.Views.{empty_program}
use Rattle.ale_print.specs.Texts as print
use Rattle.ale_print.specs.Sameness.{IsSame}
use Rattle.ale_report.specs.Parts.{written}

-- A total, extensional structure with one root, at which the description holds.
pub record IsSatisfier (h : Hierarchy) (d : Description) (s : Structure) : Type 0 where
  pub root : ℕ
  pub root_is : s.roots ≡ Some root ∷ []
  pub assign : ℕ → ℕ
  pub solves : IsSolution h empty_program d s root assign

-- each structure that is written is a satisfier
abbrev pub WrittenAreSatisfiers : Hierarchy → Description → List Answer → Type 0
WrittenAreSatisfiers h d cs = (c : Answer) → Has cs c → IsSatisfier h d (written c)

-- one that is written subsumes each satisfier, root to root
abbrev pub SatisfiersAreWritten : Hierarchy → Description → List Answer → Type 0
SatisfiersAreWritten h d cs = (s : Structure) → IsSatisfier h d s → (c : Answer) × Has cs c × Subsumes h (written c) s

-- each structure with one root that one that is written subsumes, root to root, is a satisfier
abbrev pub SubsumedAreSatisfiers : Hierarchy → Description → List Answer → Type 0
SubsumedAreSatisfiers h d cs =
    (c : Answer) → Has cs c → (s : Structure) (root : ℕ) → IsStructure h s → s.roots ≡ Some root ∷ [] → Subsumes h (written c) s → IsSatisfier h d s

-- what a search for what satisfies a description has to do with what is written of it
pub record WrittenLaw (h : Hierarchy) (d : Description) (o : Outcome Answer) : Type 0 where
  pub sound : WrittenAreSatisfiers h d o.answers
  pub complete : o.finished ≡ true → SatisfiersAreWritten h d o.answers
  pub subsumed : SubsumedAreSatisfiers h d o.answers

abbrev pub WrittenLaws : Type 0
WrittenLaws = (h : Hierarchy) (slots : ℕ) (d : Description) (budget : ℕ) → IsLawful h → FitsDescription h slots d → HasNoInequation d → WrittenLaw h d (found h budget slots d)

-- The text of the structure that is written fixes it: a structure with the same text has the same visible part up to the
-- numbers of nodes.
abbrev pub TextFixes : Declared → Answer → Type 0
TextFixes d c =
    (t : Structure) → IsStructure (hierarchy d) t → count t < 2 ^ 64 → print.answer_text d [] t ≡ print.answer_text d [] (written c) → IsSame (written c) t

abbrev pub TextsFix : Declared → List Answer → Type 0
TextsFix d cs = (c : Answer) → Has cs c → TextFixes d c

-- a machine holds the graph of each answer, so that its nodes can be counted
abbrev pub AreCountable : List Answer → Type 0
AreCountable cs = (c : Answer) → Has cs c → count c.closed.graph < 2 ^ 64

abbrev pub TextsLaw : Type 0
TextsLaw =
    (d : Declared) (desc : Description) (cs : List Answer) → IsLawful (hierarchy d) → AreDistinct d.types
    → ((c : Answer) → Has cs c → IsAnswer (hierarchy d) empty_program desc c) → AreCountable cs → TextsFix d cs
