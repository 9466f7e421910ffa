use Rattle.std.proofs.Common.{◌≡◌, drop, map}
use Rattle.ale_term.specs.Terms.{term_data, terms_of}
use Rattle.ale_stage.specs.Stages.{are_built, each_built}
use Rattle.ale_stage.proofs.term.are_built.Given as goal

abbrev pub invariant-loop-term : goal.invariant-loop-term
invariant-loop-term l =
    (are_built (terms_of (map term_data (drop l.term-index l.terms))) ≡ are_built (terms_of (map term_data l.fn.terms)))
    × (each_built (map term_data (drop l.term-index l.terms)) ≡ each_built (map term_data l.fn.terms))
