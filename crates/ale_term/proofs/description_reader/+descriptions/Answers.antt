use Rattle.std.proofs.Common.{Option, List, [], ◌∷◌, length, map, ◌-◌, ◌+◌, sym, ap, subst, ◌∙◌}
use Rattle.std.proofs.lemmas.List.{map-append}
use Rattle.std.proofs.lemmas.Result.{err_from_is_err_and}
use Rattle.ale_term.specs.declared.symbol.Symbol.TheVariants.{Comma, Semicolon}
use Rattle.ale_term.specs.Results.{Fails, Gives}
use Rattle.ale_term.specs.declared.lexeme.Lexeme.{Lexeme}
use Rattle.ale_term.specs.Terms.{TermData, term_data}
use Rattle.ale_term.specs.Reading.{more_at, part_at, conjunction_at, simple_of}
use Rattle.ale_term.proofs.Loops.{with_front, more_stop, more_fails, more_step, simple_unnamed}
use Rattle.ale_term.proofs.description_reader.+descriptions.Goals as goal

pub more_parts-returns-in_default : goal.more_parts-returns-in_default
more_parts-returns-in_default t c =
    sym c.loop-read.invariant
    ∙ more_stop (length c.args.lexemes.now - c.loop-read._read) Comma (part_at (simple_of c.args.levels)) (map term_data c.loop-read.found.items) c.loop-read.rest.now c.in_default.ensures

pub more_parts-returns-in_err-item : goal.more_parts-returns-in_err-item
more_parts-returns-in_err-item t c =
    let p = err_from_is_err_and c.from_residual.result c.from_residual.ensures.1 in
    rw (p.1, p.2) (subst (Fails c.in_err-item.field-0.0) c.loop-read.invariant
    (more_fails c.in_err-item.field-0.0 (length c.args.lexemes.now) c.loop-read._read Comma (part_at (simple_of c.args.levels)) (map term_data c.loop-read.found.items) c.loop-read.rest.now c.in-Some.behind.now
    c.loop-read-test.true c.in-Some.ensures c.in_err-item.ensures))

pub more_parts-loop-read-preserved : goal.more_parts-loop-read-preserved
more_parts-loop-read-preserved t c =
    let found = ap (map term_data) c.in_ok-add.ensures ∙ map-append term_data c.loop-read.found.items (c.in_ok-item.item ∷ []) in
    ap (λ xs. with_front xs (more_at (length c.args.lexemes.now - (c.loop-read._read + 1)) Comma (part_at (simple_of c.args.levels)) c.in_ok-item.after.now)) found
    ∙ sym (more_step (length c.args.lexemes.now) c.loop-read._read Comma (part_at (simple_of c.args.levels)) (map term_data c.loop-read.found.items) (term_data c.in_ok-item.item) c.loop-read.rest.now c.in-Some.behind.now c.in_ok-item.after.now
    c.loop-read-test.true c.in-Some.ensures c.in_ok-item.ensures)
    ∙ c.loop-read.invariant

pub more_disjuncts-returns-in_default : goal.more_disjuncts-returns-in_default
more_disjuncts-returns-in_default t c =
    sym c.loop-read.invariant
    ∙ more_stop (length c.args.lexemes.now - c.loop-read._read) Semicolon (conjunction_at (simple_of c.args.levels)) (map term_data c.loop-read.found.items) c.loop-read.rest.now c.in_default.ensures

pub more_disjuncts-returns-in_err-item : goal.more_disjuncts-returns-in_err-item
more_disjuncts-returns-in_err-item t c =
    let p = err_from_is_err_and c.from_residual.result c.from_residual.ensures.1 in
    rw (p.1, p.2) (subst (Fails c.in_err-item.field-0.0) c.loop-read.invariant
    (more_fails c.in_err-item.field-0.0 (length c.args.lexemes.now) c.loop-read._read Semicolon (conjunction_at (simple_of c.args.levels)) (map term_data c.loop-read.found.items) c.loop-read.rest.now c.in-Some.behind.now
    c.loop-read-test.true c.in-Some.ensures c.in_err-item.ensures))

pub more_disjuncts-loop-read-preserved : goal.more_disjuncts-loop-read-preserved
more_disjuncts-loop-read-preserved t c =
    let found = ap (map term_data) c.in_ok-add.ensures ∙ map-append term_data c.loop-read.found.items (c.in_ok-item.item ∷ []) in
    ap (λ xs. with_front xs (more_at (length c.args.lexemes.now - (c.loop-read._read + 1)) Semicolon (conjunction_at (simple_of c.args.levels)) c.in_ok-item.after.now)) found
    ∙ sym (more_step (length c.args.lexemes.now) c.loop-read._read Semicolon (conjunction_at (simple_of c.args.levels)) (map term_data c.loop-read.found.items) (term_data c.in_ok-item.item) c.loop-read.rest.now c.in-Some.behind.now c.in_ok-item.after.now
    c.loop-read-test.true c.in-Some.ensures c.in_ok-item.ensures)
    ∙ c.loop-read.invariant

pub simple-returns : goal.simple-returns
simple-returns t c =
    subst (λ (o : Option (TermData × List Lexeme)). Gives (λ p. (term_data p.0, p.1.now)) c.unnamed.result o)
    (sym (simple_unnamed c.args.levels c.args.lexemes.now c.if-levels-eq0.false c.in_default.ensures)) c.unnamed.ensures
