-- Structures that grow to models: a model that solves a command, and whose visible part is the same.
-- Source: this project's own; visible parts as rooted graphs, Carpenter 1992, chapter 2.
use Rattle.std.specs.Prelude.{◌≡◌, ℕ, ◌<◌, Option, Some, List, [], ◌∷◌}
use Rattle.ale_declared.specs.Lists.{Has}
use Rattle.ale_hierarchy.specs.Hierarchy.{Hierarchy}
use Rattle.ale_graph.specs.Structures.{Structure, count}
use Rattle.ale_graph.specs.Extensions.{Extends}
use Rattle.ale_morphism.specs.Visible.{visible}

-- the structure with these roots
abbrev pub rooted : Structure → List (Option ℕ) → Structure
rooted s roots = record s { roots = roots }

-- the structure, with this root, has the same visible part as an extension of it that solves a command
pub record GrowsTo (h : Hierarchy) (s : Structure) (root : ℕ) (Solves : Structure → Type 0) : Type 0 where
  pub larger : Structure
  pub extends : Extends h s larger
  pub solves : Solves larger
  pub visible_part : visible (rooted larger (Some root ∷ [])) ≡ visible (rooted s (Some root ∷ []))

-- an extension adds nothing visible, whatever nodes the roots are
abbrev pub VisibleStays : Type 0
VisibleStays =
    (h : Hierarchy) (s t : Structure) (roots : List (Option ℕ)) → Extends h s t → ((n : ℕ) → Has roots (Some n) → n < count s) → visible (rooted t roots) ≡ visible (rooted s roots)
