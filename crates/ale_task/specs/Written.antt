-- The texts of answers: what is written of a structure that is shown, and that it fixes what is visible of it.
-- Source: this project's own.
use Rattle.std.specs.Prelude.{◌≡◌, ℕ, ◌<◌, ◌^◌, List, encode_utf8_all}
use Rattle.ale_declared.specs.Lists.{Has}
use Rattle.ale_declared.specs.Declarations.{Declared}
use Rattle.ale_hierarchy.specs.Order.{hierarchy}
use Rattle.ale_graph.specs.Structures.{Structure, IsStructure, count}
use Rattle.ale_morphism.specs.Visible.{visible}
use Rattle.ale_logic.specs.Programs.{Program}
use Rattle.ale_logic.specs.Shown.{Shown}
use Rattle.ale_print.specs.Texts.{answer_text}
use Rattle.ale_print.specs.Sameness.{IsNamed, IsSame}
use Rattle.ale_task.specs.Tasks.{TaskData, root_names, reply}

-- the bytes that are written of a structure with these names of its roots
abbrev pub structure_text : Declared → List (List ℕ) → Structure → List ℕ
structure_text d names s = encode_utf8_all (answer_text d names s)

-- The text is that of what is visible of the structure, and a structure with the same text has the same visible part up to
-- the numbers of nodes.
pub record TextFixes (d : Declared) (names : List (List ℕ)) (s : Structure) : Type 0 where
  pub visible_part : answer_text d names (visible s) ≡ answer_text d names s
  pub fixes : (t : Structure) → IsStructure (hierarchy d) t → IsNamed names t → count t < 2 ^ 64 → answer_text d names t ≡ answer_text d names s →
      IsSame (visible s) t

-- the text of each answer to the command fixes it
abbrev pub TextsFix : Declared → Program → TaskData → ℕ → Type 0
TextsFix d program t budget = (x : Shown) → Has (reply (hierarchy d) program t budget).answers x → TextFixes d (root_names t) x.structure

-- a machine holds the graph of each answer, so that its nodes can be counted
abbrev pub AreCountable : List Shown → Type 0
AreCountable xs = (x : Shown) → Has xs x → count x.structure < 2 ^ 64
