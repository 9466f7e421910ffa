use Rattle.std.proofs.Common.{◌≡◌, Some, map, drop}
use Rattle.ale_term.specs.Terms.{term_data}
use Rattle.ale_describe.specs.Limits.{sum_after}
use Rattle.ale_naming.specs.Known.{AreKnown}
use Rattle.ale_naming.proofs.round_three.after_each.Given as goal

abbrev pub invariant-loop-term : goal.invariant-loop-term
invariant-loop-term l = record {
  known : AreKnown l.sig l.names.vocabulary (map term_data (drop l.term-index l.terms));
  so_far : sum_after l.sig l.names (Some l.sum) (map term_data (drop l.term-index l.terms)) ≡ sum_after l.sig l.names (Some l.so_far) (map term_data l.terms);
}
