use Rattle.std.proofs.Common.{◌≡◌, map, drop}
use Rattle.ale_term.specs.Terms.{term_data}
use Rattle.ale_describe.specs.Known.{AreKnownEach}
use Rattle.ale_describe.specs.Limits.{sum_after}
use Rattle.ale_describe.proofs.sums.each_parts.Given as goal

abbrev pub invariant-loop-term : goal.invariant-loop-term
invariant-loop-term l = record {
  so_far : sum_after l.sig l.names l.sum (map term_data (drop l.term-index l.terms)) ≡ sum_after l.sig l.names l.fn.before (map term_data l.terms);
  known : AreKnownEach l.sig l.names.vocabulary (map term_data (drop l.term-index l.terms));
}
