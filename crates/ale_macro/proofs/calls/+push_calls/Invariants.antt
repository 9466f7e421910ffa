use Rattle.std.proofs.Common.{◌≡◌, ◌++◌, drop, map}
use Rattle.ale_macro.specs.Templates.{template_data, templates_of}
use Rattle.ale_macro.specs.Calls.{calls_in, calls_in_all, pairs}
use Rattle.ale_macro.proofs.calls.+push_calls.Given as goal

abbrev pub decreases-push_calls : goal.decreases-push_calls
decreases-push_calls l = goal.size-push_calls l

abbrev pub invariant-loop-conjunct : goal.invariant-loop-conjunct
invariant-loop-conjunct l =
    l.calls.items ++ pairs l.m (calls_in_all (templates_of (map template_data (drop l.conjunct-index l.conjunct-items)))) ≡ l.fn.calls.items ++ pairs l.m (calls_in (template_data l.template))

abbrev pub invariant-loop-disjunct : goal.invariant-loop-disjunct
invariant-loop-disjunct l =
    l.calls.items ++ pairs l.m (calls_in_all (templates_of (map template_data (drop l.disjunct-index l.disjunct-items)))) ≡ l.fn.calls.items ++ pairs l.m (calls_in (template_data l.template))

abbrev pub invariant-loop-arg : goal.invariant-loop-arg
invariant-loop-arg l =
    l.calls.items ++ pairs l.m (calls_in_all (templates_of (map template_data (drop l.arg-index l.arg-items)))) ≡ l.fn.calls.items ++ pairs l.m (calls_in (template_data l.template))

abbrev pub invariant-loop-member : goal.invariant-loop-member
invariant-loop-member l =
    l.calls.items ++ pairs l.m (calls_in_all (templates_of (map template_data (drop l.member-index l.member-items))) ++ calls_in (template_data l.end)) ≡ l.fn.calls.items ++ pairs l.m (calls_in (template_data l.template))
