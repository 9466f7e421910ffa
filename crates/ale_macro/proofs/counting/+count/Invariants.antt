use Rattle.std.proofs.Common.{◌≡◌, length, drop}
use Rattle.ale_macro.specs.Templates.{template_data}
use Rattle.ale_macro.proofs.Counted.{LeftToCount, LeftToUse, LeftToList}
use Rattle.ale_macro.proofs.counting.+count.Given as goal

abbrev pub decreases-count : goal.decreases-count
decreases-count l = goal.size-count l

abbrev pub invariant-loop-conjunct : goal.invariant-loop-conjunct
invariant-loop-conjunct l = record {
  uses : length l.tally.uses.items ≡ length l.fn.tally.uses.items;
  left : LeftToCount l.known (drop l.conjunct-index l.conjunct-items) l.times (template_data l.template) l.fn.tally l.tally;
}

abbrev pub invariant-loop-disjunct : goal.invariant-loop-disjunct
invariant-loop-disjunct l = record {
  uses : length l.tally.uses.items ≡ length l.fn.tally.uses.items;
  left : LeftToCount l.known (drop l.disjunct-index l.disjunct-items) l.times (template_data l.template) l.fn.tally l.tally;
}

abbrev pub invariant-loop-place : goal.invariant-loop-place
invariant-loop-place l = record {
  uses : length l.tally.uses.items ≡ length l.fn.tally.uses.items;
  left : LeftToUse l.known (drop l.place l.called.uses.items) (drop l.place l.arg-items) l.times (template_data l.template) l.fn.tally l.tally;
}

abbrev pub invariant-loop-member : goal.invariant-loop-member
invariant-loop-member l = record {
  uses : length l.tally.uses.items ≡ length l.fn.tally.uses.items;
  left : LeftToList l.known (drop l.member-index l.member-items) (template_data l.end) l.times (template_data l.template) l.fn.tally l.tally;
}
