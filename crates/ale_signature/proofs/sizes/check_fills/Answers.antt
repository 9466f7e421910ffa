use Rattle.std.proofs.Common.{◌∙◌, sym, Some}
use Rattle.std.proofs.lemmas.Result.{err_from_is_err_and}
use Rattle.ale_hierarchy.specs.Faults.{fill_fault}
use Rattle.ale_hierarchy.proofs.HierarchyFaults.{refuses_as}
use Rattle.ale_signature.proofs.StageFaults.{filling_loop, filling_ext, filling_fill, filling_clear}
use Rattle.ale_signature.proofs.sizes.check_fills.Goals as goal

pub returns-in_err-check_loops-clause-refused : goal.returns-in_err-check_loops-clause-refused
returns-in_err-check_loops-clause-refused c =
    let p = err_from_is_err_and c.from_residual-in_err-check_loops.result c.from_residual-in_err-check_loops.ensures.1 in
    rw (p.1, p.2) (filling_loop c.args.order.now c.in_err-check_loops.field-0.0 c.in_err-check_loops.ensures.refused)

pub returns-in_err-check_ext-clause-refused : goal.returns-in_err-check_ext-clause-refused
returns-in_err-check_ext-clause-refused c =
    let p = err_from_is_err_and c.from_residual-in_err-check_ext.result c.from_residual-in_err-check_ext.ensures.1 in
    rw (p.1, p.2) (filling_ext c.args.order.now c.in_err-check_ext.field-0.0 c.in_ok-check_loops.ensures.none c.in_err-check_ext.ensures.refused)

pub returns-in-Some-clause-refused : goal.returns-in-Some-clause-refused
returns-in-Some-clause-refused c =
    let d = c.args.order.now in
    let found = rw c.outline.ensures.value at c.refusal.ensures in
    filling_fill d c.refusal.result c.in_ok-check_loops.ensures.none c.in_ok-check_ext.ensures.none
    (refuses_as d (Some c.in-Some.fault) (fill_fault d) c.refusal.result (sym (sym c.in_ok-large.ensures ∙ c.in-Some.is)) found)

pub returns-in-None-clause-none : goal.returns-in-None-clause-none
returns-in-None-clause-none c =
    filling_clear c.args.order.now c.in_ok-check_loops.ensures.none c.in_ok-check_ext.ensures.none (sym c.in_ok-large.ensures ∙ c.in-None.is)
