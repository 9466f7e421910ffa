use Rattle.std.proofs.Common.{◌≡◌, false, drop}
use Rattle.ale_hierarchy.specs.Order.{hierarchy}
use Rattle.ale_graph.specs.Drafts.{class_in}
use Rattle.ale_graph.specs.Raising.{AllInside, raise_facts}
use Rattle.ale_graph.proofs.raise.raise_facts.Given as goal

abbrev pub invariant-loop-fact : goal.invariant-loop-fact
invariant-loop-fact l = record {
  rest : raise_facts (hierarchy l.sig) (class_in l.class) (drop l.fact-index l.facts) (record { types = l.types.items; changed = l.changed })
      ≡ raise_facts (hierarchy l.sig) (class_in l.class) l.facts (record { types = l.fn.types.items; changed = false });
  inside : AllInside (hierarchy l.sig) l.types.items;
}
