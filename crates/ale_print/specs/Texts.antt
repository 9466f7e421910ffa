-- The printed text of a structure: a line for each meeting of a node, indented by two spaces a level, and a line for
-- each differing pair. Texts are lists of characters. The form is this project's own.
use Rattle.std.specs.Prelude.{ℕ, zero, suc, eqb, Option, Some, None, List, [], ◌++◌, map, codes, slice_get, if◌then◌else◌}
use Rattle.std.specs.List.{flat_map}
use Rattle.std.specs.Fmt.{decimal}
use Rattle.ale_declared.specs.Declarations.{Declared}
use Rattle.ale_declared.specs.Names.{name_of}
use Rattle.ale_graph.specs.Structures.{Structure, type_of}
use Rattle.ale_print.specs.declared.line.Place.{Place}
use Rattle.ale_print.specs.declared.line.Place.TheVariants.{Root, Value, Also}
use Rattle.ale_print.specs.declared.line.Shown.{Shown}
use Rattle.ale_print.specs.declared.line.Shown.TheVariants.{Unbound, First, Again}
use Rattle.ale_print.specs.declared.line.Line.{Line}
use Rattle.ale_print.specs.Naming.{printed_name}
use Rattle.ale_print.specs.Walking.{lines_of}
use Rattle.ale_print.specs.Pairing.{in_order}
use Rattle.ale_print.specs.Tagging.{tag_of}

-- two spaces a level
abbrev pub indentation : ℕ → List ℕ
indentation zero = []
indentation (suc level) = codes "  " ++ indentation level

-- the name of a root, where it has one
abbrev pub root_front : Option (List ℕ) → List ℕ
root_front None = []
root_front (Some name) = name ++ codes " = "

-- what stands on a line before its node
abbrev pub front : Declared → List (List ℕ) → Place → List ℕ
front d names (Root i) = root_front (slice_get names i)
front d names (Value level f) = indentation level ++ (printed_name (name_of d.features f) ++ codes ": ")
front d names Also = codes "also "

abbrev pub tag_text : ℕ → List ℕ
tag_text k = codes "[" ++ (decimal k ++ codes "]")

-- the tag of a node that has one, before its type
abbrev pub type_front : ℕ → List ℕ
type_front k = if eqb k 0 then [] else tag_text k ++ codes " "

-- a node where it is met: its tag and type at first, then its tag
abbrev pub shown_text : Declared → (ℕ → ℕ) → (ℕ → ℕ) → Shown → List ℕ
shown_text d type tag Unbound = codes "_"
shown_text d type tag (First n) = type_front (tag n) ++ printed_name (name_of d.types (type n))
shown_text d type tag (Again n) = tag_text (tag n)

abbrev pub line_text : Declared → List (List ℕ) → (ℕ → ℕ) → (ℕ → ℕ) → Line → List ℕ
line_text d names type tag l = front d names l.place ++ (shown_text d type tag l.shown ++ codes "\n")

-- two nodes that differ, by their tags
abbrev pub pair_text : ℕ × ℕ → List ℕ
pair_text p = tag_text p.0 ++ (codes " =\\= " ++ (tag_text p.1 ++ codes "\n"))

-- the differing pairs as tags
abbrev pub tag_pairs : Structure → List (ℕ × ℕ)
tag_pairs s = in_order (map (λ p. (tag_of s p.0, tag_of s p.1)) s.differ)

-- The text of a structure with these names of its roots; without names the roots stand bare.
unfoldable pub answer_text : Declared → List (List ℕ) → Structure → List ℕ
answer_text d names s =
    flat_map (line_text d names (type_of s) (tag_of s)) (lines_of s) ++ flat_map pair_text (tag_pairs s)
