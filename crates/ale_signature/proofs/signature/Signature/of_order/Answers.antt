use Rattle.std.proofs.Common.{◌∙◌}
use Rattle.std.proofs.lemmas.Result.{err_from_is_err_and}
use Rattle.ale_hierarchy.proofs.HierarchyFaults.{joins_clear}
use Rattle.ale_signature.proofs.StageFaults.{intros_clear, restrictions_clear}
use Rattle.ale_signature.proofs.FaultOf.{accepted_where}
use Rattle.ale_signature.proofs.BuildLemmas.{at_joins, at_intros, at_clashes, at_fills, none_at_all}
use Rattle.ale_signature.proofs.signature.Signature.of_order.Goals as goal

pub returns-in_err-joins-clause-exact : goal.returns-in_err-joins-clause-exact
returns-in_err-joins-clause-exact c =
    let d = c.args.order in
    let ordered = rw c.order.view_is at c.order.invariant.ordered in
    let p = err_from_is_err_and c.from_residual.result c.from_residual.ensures.1 in
    rw (p.1, p.2) (at_joins d c.in_err-joins.field-0.0 ordered c.in_err-joins.ensures.refused)

pub returns-in_err-intros-clause-exact : goal.returns-in_err-intros-clause-exact
returns-in_err-intros-clause-exact c =
    let d = c.args.order in
    let ordered = rw c.order.view_is at c.order.invariant.ordered in
    let p = err_from_is_err_and c.from_residual-in_err-intros.result c.from_residual-in_err-intros.ensures.1 in
    rw (p.1, p.2) (at_intros d c.in_err-intros.field-0.0 ordered (joins_clear d ordered c.in_ok-joins.ensures.least) c.in_err-intros.ensures.refused)

pub returns-in_err-restrictions-clause-exact : goal.returns-in_err-restrictions-clause-exact
returns-in_err-restrictions-clause-exact c =
    let d = c.args.order in
    let ordered = rw c.order.view_is at c.order.invariant.ordered in
    let p = err_from_is_err_and c.from_residual-in_err-restrictions.result c.from_residual-in_err-restrictions.ensures.1 in
    rw (p.1, p.2) (at_clashes d c.in_err-restrictions.field-0.0 ordered (joins_clear d ordered c.in_ok-joins.ensures.least) (intros_clear d ordered c.in_ok-intros.ensures.introduces) c.in_err-restrictions.ensures.refused)

pub returns-in_err-check_fills-clause-exact : goal.returns-in_err-check_fills-clause-exact
returns-in_err-check_fills-clause-exact c =
    let d = c.args.order in
    let ordered = rw c.order.view_is at c.order.invariant.ordered in
    let p = err_from_is_err_and c.from_residual-in_err-check_fills.result c.from_residual-in_err-check_fills.ensures.1 in
    rw (p.1, p.2) (at_fills d c.in_err-check_fills.field-0.0 ordered (joins_clear d ordered c.in_ok-joins.ensures.least) (intros_clear d ordered c.in_ok-intros.ensures.introduces) (restrictions_clear d ordered c.in_ok-restrictions.ensures.there) c.in_err-check_fills.ensures.refused)

pub invariant_of-result : goal.invariant_of-result
invariant_of-result c =
    let d = c.args.order in
    let ordered = rw c.order.view_is at c.order.invariant.ordered in
    let none = none_at_all d ordered (joins_clear d ordered c.in_ok-joins.ensures.least) (intros_clear d ordered c.in_ok-intros.ensures.introduces) (restrictions_clear d ordered c.in_ok-restrictions.ensures.there) c.in_ok-check_fills.ensures.none in
    record {
      numbered = ordered.numbered;
      accepted = accepted_where d ordered.numbered none;
      joins_are = c.of.ensures ∙ c.in_ok-joins.ensures.rows;
      restrictions_are = c.of-2.ensures ∙ c.in_ok-restrictions.ensures.rows;
      lists_are = c.of-3.ensures ∙ c.in_ok-lists.ensures;
      intros_are = c.of-4.ensures ∙ c.in_ok-intros.ensures.value;
      ext_are = c.of-5.ensures ∙ c.in_ok-ext.ensures;
    }

pub returns-clause-no_fault : goal.returns-clause-no_fault
returns-clause-no_fault c =
    let d = c.args.order in
    let ordered = rw c.order.view_is at c.order.invariant.ordered in
    none_at_all d ordered (joins_clear d ordered c.in_ok-joins.ensures.least) (intros_clear d ordered c.in_ok-intros.ensures.introduces) (restrictions_clear d ordered c.in_ok-restrictions.ensures.there) c.in_ok-check_fills.ensures.none
