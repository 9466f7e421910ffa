use Rattle.std.proofs.Common.{◌≡◌, drop}
use Rattle.ale_hierarchy.specs.Order.{hierarchy}
use Rattle.ale_graph.specs.Drafts.{type_in}
use Rattle.ale_graph.specs.Raising.{AllInside}
use Rattle.ale_graph.specs.Working.{lists_of, fill_features, features_of}
use Rattle.ale_graph.proofs.fill.fill_class.Given as goal

abbrev pub invariant-loop-feature : goal.invariant-loop-feature
invariant-loop-feature l = record {
  rest : fill_features (hierarchy l.sig) l.class (drop l.feature-index l.feature-items) (lists_of l.draft)
      ≡ fill_features (hierarchy l.sig) l.class (features_of (hierarchy l.sig) (type_in l.fn.draft.types.items l.class)) (lists_of l.fn.draft);
  inside : AllInside (hierarchy l.sig) l.draft.types.items;
}
