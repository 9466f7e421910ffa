use Rattle.std.proofs.Common.{◌≡◌, sym, ap, ◌∙◌, subst, map, Some, None}
use Rattle.ale_hierarchy.specs.Order.{hierarchy}
use Rattle.ale_graph.specs.Closure.{class_of}
use Rattle.std.specs.Prelude.{ℕ, Option}
use Rattle.ale_logic.specs.Visits.{Owed, owed_by}
use Rattle.ale_program.specs.Views.{constraint_data}
use Rattle.ale_visit.specs.Owing.{HaveTypes, owed_of}
use Rattle.ale_visit.proofs.Sought.{have_types, passed_over, gives_nothing, found_first}
use Rattle.ale_visit.proofs.owing.first_owed.Goals as goal

pub owed_by-requires-clause-constraints : goal.owed_by-requires-clause-constraints
owed_by-requires-clause-constraints c =
    subst (λ z. HaveTypes (hierarchy c.signature-sig.result.now) z) (sym c.constraints-constraints.ensures)
    (subst (λ z. HaveTypes (hierarchy z) c.args.program.now.constraints) (sym c.signature-sig.ensures)
    (have_types (hierarchy c.args.program.now.signature) c.args.program.now.constraints c.program_law.ensures.fits.constraints))

pub returns-in-Some : goal.returns-in-Some
returns-in-Some c =
    let p = c.args.program.now in
    let d = c.args.closed.now in
    let give : ℕ → Option Owed = λ a. owed_by (hierarchy p.signature) d c.args.imposed.now a 0 (map constraint_data p.constraints) in
    let own : class_of d c.loop-class.class ≡ c.loop-class.class = sym c.class_of.ensures ∙ c.if-class_of-class.false in
    let some : give c.loop-class.class ≡ owed_of (Some c.in-Some.found) =
    ap (λ z. owed_by (hierarchy z) d c.args.imposed.now c.loop-class.class 0 (map constraint_data p.constraints)) (sym c.signature-sig.ensures)
    ∙ ap (λ z. owed_by (hierarchy c.signature-sig.result.now) d c.args.imposed.now c.loop-class.class 0 (map constraint_data z)) (sym c.constraints-constraints.ensures)
    ∙ sym c.owed_by.ensures ∙ ap owed_of c.in-Some.is in
    sym (found_first (class_of d) give c.loop-class.class c.loop-class.node (record { class = c.in-Some.found.class; number = c.in-Some.found.number; constraint = constraint_data c.in-Some.found.constraint.now }) own some c.loop-class.invariant d.next c.loop-class-test.true)

pub loop-class-preserved : goal.loop-class-preserved
loop-class-preserved c =
    let p = c.args.program.now in
    let d = c.args.closed.now in
    let give : ℕ → Option Owed = λ a. owed_by (hierarchy p.signature) d c.args.imposed.now a 0 (map constraint_data p.constraints) in
    let own : class_of d c.loop-class.class ≡ c.loop-class.class = sym c.class_of.ensures ∙ c.if-class_of-class.false in
    let none : give c.loop-class.class ≡ None =
    ap (λ z. owed_by (hierarchy z) d c.args.imposed.now c.loop-class.class 0 (map constraint_data p.constraints)) (sym c.signature-sig.ensures)
    ∙ ap (λ z. owed_by (hierarchy c.signature-sig.result.now) d c.args.imposed.now c.loop-class.class 0 (map constraint_data z)) (sym c.constraints-constraints.ensures)
    ∙ sym c.owed_by.ensures ∙ ap owed_of c.in_default.is in
    gives_nothing (class_of d) give c.loop-class.class c.loop-class.node own none c.loop-class.invariant
