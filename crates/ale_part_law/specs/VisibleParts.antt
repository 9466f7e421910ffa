-- What is kept of an answer, cut down to what is reached from its root, from a differing pair, from a bound variable
-- where elements remain, and from what these elements name. Source: feature structures as rooted graphs, Carpenter 1992.
use Rattle.std.specs.Prelude.{ℕ, Option, Some, None, [], ◌∷◌, ◌++◌, map, filter}
use Rattle.ale_graph.specs.Structures.{Structure}
use Rattle.ale_morphism.specs.Visible.{is_visible, renumbered, origin, visible}
use Rattle.ale_logic.specs.Programs.{Element, cat, cats, derived, sem_head, member, tail}
use Rattle.ale_logic.specs.Growing.{rooted}
use Rattle.ale_logic.specs.Parts.{Part, Extract, renamed, placed, whole_of}

-- the node that an element names, where it names one
abbrev pub named : Element → Option ℕ
named (member n) = Some n
named (tail n) = Some n
named (cat d) = None
named (cats d) = None
named (sem_head d) = None
named (derived g) = None

-- the answer's graph, rooted in all that is to be kept
abbrev pub rooted_whole : Part → Structure
rooted_whole p = rooted p.kept.graph (Some p.root ∷ (p.kept.env ++ map named p.rest))

-- a part, cut down to what is visible of it
abbrev pub visible_part : Part → Part
visible_part p = record {
  kept = record {
    graph = rooted (visible (rooted_whole p)) [];
    imposed = map (λ (i : ℕ × ℕ). (renumbered (rooted_whole p) i.0, i.1)) (filter (λ (i : ℕ × ℕ). is_visible (rooted_whole p) i.0) p.kept.imposed);
    env = map (placed (renumbered (rooted_whole p))) p.kept.env;
  };
  root = renumbered (rooted_whole p) p.root;
  rest = map (renamed (renumbered (rooted_whole p))) p.rest;
  whole = origin (rooted_whole p);
}

abbrev pub visible_of : Extract
visible_of root a = visible_part (whole_of root a)
