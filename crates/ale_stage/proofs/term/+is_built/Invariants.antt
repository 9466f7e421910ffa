use Rattle.std.proofs.Common.{◌≡◌, drop, map}
use Rattle.std.specs.Prelude.{◌&&◌}
use Rattle.ale_term.specs.Terms.{term_data, terms_of}
use Rattle.ale_stage.specs.Stages.{since, is_built, are_built}
use Rattle.ale_stage.proofs.term.+is_built.Given as goal

abbrev pub invariant-loop-part : goal.invariant-loop-part
invariant-loop-part l = (are_built (terms_of (map term_data (drop l.part-index l.part-items))) && since 2) ≡ is_built (term_data l.term)

abbrev pub invariant-loop-argument : goal.invariant-loop-argument
invariant-loop-argument l = (are_built (terms_of (map term_data (drop l.argument-index l.argument-items))) && since 4) ≡ is_built (term_data l.term)

abbrev pub invariant-loop-member : goal.invariant-loop-member
invariant-loop-member l = (are_built (terms_of (map term_data (drop l.member-index l.member-items))) && (is_built (term_data l.rest) && since 4)) ≡ is_built (term_data l.term)
