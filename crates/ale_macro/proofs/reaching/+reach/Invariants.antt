use Rattle.std.proofs.Common.{◌≡◌, length, drop}
use Rattle.ale_macro.specs.Templates.{template_data}
use Rattle.ale_macro.proofs.Reached.{LeftToReach, LeftToPlace, LeftToNest}
use Rattle.ale_macro.proofs.reaching.+reach.Given as goal

abbrev pub decreases-reach : goal.decreases-reach
decreases-reach l = goal.size-reach l

abbrev pub invariant-loop-conjunct : goal.invariant-loop-conjunct
invariant-loop-conjunct l = record {
  places : length l.depth.places.items ≡ length l.fn.depth.places.items;
  left : LeftToReach l.known (drop l.conjunct-index l.conjunct-items) l.inside l.above (template_data l.template) l.fn.depth l.depth;
}

abbrev pub invariant-loop-disjunct : goal.invariant-loop-disjunct
invariant-loop-disjunct l = record {
  places : length l.depth.places.items ≡ length l.fn.depth.places.items;
  left : LeftToReach l.known (drop l.disjunct-index l.disjunct-items) l.inside l.above (template_data l.template) l.fn.depth l.depth;
}

abbrev pub invariant-loop-at : goal.invariant-loop-at
invariant-loop-at l = record {
  places : length l.depth.places.items ≡ length l.fn.depth.places.items;
  left : LeftToPlace l.known (drop l.at l.called.places.items) (drop l.at l.arg-items) l.above (template_data l.template) l.fn.depth l.depth;
}

abbrev pub invariant-loop-member : goal.invariant-loop-member
invariant-loop-member l = record {
  places : length l.depth.places.items ≡ length l.fn.depth.places.items;
  left : LeftToNest l.known (drop l.member-index l.member-items) (template_data l.end) l.inside l.above (template_data l.template) l.fn.depth l.depth;
}
