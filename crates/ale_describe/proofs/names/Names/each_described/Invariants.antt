use Rattle.std.proofs.Common.{◌≡◌, map, drop}
use Rattle.ale_term.specs.Terms.{term_data}
use Rattle.ale_logic.specs.Descriptions.{description}
use Rattle.ale_describe.specs.Known.{AreKnownEach}
use Rattle.ale_describe.specs.Describing.{each_described}
use Rattle.ale_describe.proofs.Each.{found_before, each_left}
use Rattle.ale_describe.proofs.names.Names.each_described.Given as goal

abbrev pub invariant-loop-term : goal.invariant-loop-term
invariant-loop-term l = record {
  so_far : found_before (map description l.found.items) (each_left l.sig l.self l.scope l.terms l.term-index) ≡ each_described l.sig l.self l.fn.scope (map term_data l.terms);
  known : AreKnownEach l.sig l.self.vocabulary (map term_data (drop l.term-index l.terms));
}
