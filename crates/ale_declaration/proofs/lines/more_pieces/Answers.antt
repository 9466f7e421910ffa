use Rattle.std.proofs.Common.{length, ◌-◌, ◌+◌, sym, ap, subst, ◌∙◌}
use Rattle.std.proofs.lemmas.Result.{err_from_is_err_and}
use Rattle.ale_term.specs.declared.symbol.Symbol.TheVariants.{Comma}
use Rattle.ale_term.specs.Results.{Fails}
use Rattle.ale_term.specs.Reading.{more_at}
use Rattle.ale_declaration.specs.Reading.{piece_at, flat_behind}
use Rattle.ale_declaration.proofs.Flat.{flat_stop, flat_fails, flat_step}
use Rattle.ale_declaration.proofs.lines.more_pieces.Goals as goal

pub returns-in_default : goal.returns-in_default
returns-in_default c =
    sym c.loop-read.invariant ∙ flat_stop (length c.args.lexemes.now - c.loop-read._read) c.loop-read.found.items c.loop-read.rest.now c.in_default.ensures

pub returns-in_err-parts : goal.returns-in_err-parts
returns-in_err-parts c =
    let p = err_from_is_err_and c.from_residual.result c.from_residual.ensures.1 in
    rw (p.1, p.2) (subst (Fails c.in_err-parts.field-0.0) c.loop-read.invariant
    (flat_fails c.in_err-parts.field-0.0 (length c.args.lexemes.now) c.loop-read._read c.loop-read.found.items c.loop-read.rest.now c.in-Some.behind.now
    c.loop-read-test.true c.in-Some.ensures c.in_err-parts.ensures))

pub loop-read-preserved : goal.loop-read-preserved
loop-read-preserved c =
    ap (λ xs. flat_behind xs (more_at (length c.args.lexemes.now - (c.loop-read._read + 1)) Comma piece_at c.in_ok-parts.after.now)) c.in_ok-extend.ensures
    ∙ sym (flat_step (length c.args.lexemes.now) c.loop-read._read c.loop-read.found.items c.in_ok-parts.parts.items c.loop-read.rest.now c.in-Some.behind.now c.in_ok-parts.after.now
    c.loop-read-test.true c.in-Some.ensures c.in_ok-parts.ensures)
    ∙ c.loop-read.invariant
