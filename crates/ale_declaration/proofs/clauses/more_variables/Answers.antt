use Rattle.std.proofs.Common.{length, ◌-◌, ◌+◌, sym, ap, subst, ◌∙◌}
use Rattle.std.proofs.lemmas.Result.{err_from_is_err_and}
use Rattle.ale_term.specs.declared.symbol.Symbol.TheVariants.{Comma}
use Rattle.ale_term.specs.Results.{Fails}
use Rattle.ale_term.specs.Reading.{more_at, variable_at}
use Rattle.ale_term.proofs.Loops.{with_front, more_stop, more_fails, more_step}
use Rattle.ale_declaration.proofs.clauses.more_variables.Goals as goal

pub returns-in_default : goal.returns-in_default
returns-in_default c =
    sym c.loop-read.invariant ∙ more_stop (length c.args.lexemes.now - c.loop-read._read) Comma variable_at c.loop-read.found.items c.loop-read.rest.now c.in_default.ensures

pub returns-in_err-item : goal.returns-in_err-item
returns-in_err-item c =
    let p = err_from_is_err_and c.from_residual.result c.from_residual.ensures.1 in
    rw (p.1, p.2) (subst (Fails c.in_err-item.field-0.0) c.loop-read.invariant
    (more_fails c.in_err-item.field-0.0 (length c.args.lexemes.now) c.loop-read._read Comma variable_at c.loop-read.found.items c.loop-read.rest.now c.in-Some.behind.now
    c.loop-read-test.true c.in-Some.ensures c.in_err-item.ensures))

pub loop-read-preserved : goal.loop-read-preserved
loop-read-preserved c =
    ap (λ xs. with_front xs (more_at (length c.args.lexemes.now - (c.loop-read._read + 1)) Comma variable_at c.in_ok-item.after.now)) c.in_ok-add.ensures
    ∙ sym (more_step (length c.args.lexemes.now) c.loop-read._read Comma variable_at c.loop-read.found.items c.in_ok-item.item c.loop-read.rest.now c.in-Some.behind.now c.in_ok-item.after.now
    c.loop-read-test.true c.in-Some.ensures c.in_ok-item.ensures)
    ∙ c.loop-read.invariant
