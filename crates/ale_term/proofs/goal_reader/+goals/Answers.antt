use Rattle.std.proofs.Common.{[], ◌∷◌, suc, length, map, ◌-◌, ◌+◌, sym, ap, subst, ◌∙◌}
use Rattle.std.proofs.lemmas.List.{map-append}
use Rattle.std.proofs.lemmas.Result.{err_from_is_err_and}
use Rattle.ale_term.specs.declared.symbol.Symbol.TheVariants.{Comma}
use Rattle.ale_term.specs.Results.{Fails}
use Rattle.ale_term.specs.Goals.{goal_data}
use Rattle.ale_term.specs.Reading.{more_at, alternatives_at, goal_part_of, goal_of}
use Rattle.ale_term.proofs.Loops.{with_front, read_all, one_read, more_stop, more_fails, more_step, alternatives_step, alternatives_last, alternatives_fails}
use Rattle.ale_term.proofs.goal_reader.+goals.Goals as goal

pub more_goals-returns-in_default : goal.more_goals-returns-in_default
more_goals-returns-in_default t c =
    sym c.loop-read.invariant
    ∙ more_stop (length c.args.lexemes.now - c.loop-read._read) Comma (goal_part_of (suc c.args.levels)) (map goal_data c.loop-read.found.items) c.loop-read.rest.now c.in_default.ensures

pub more_goals-returns-in_err-item : goal.more_goals-returns-in_err-item
more_goals-returns-in_err-item t c =
    let p = err_from_is_err_and c.from_residual.result c.from_residual.ensures.1 in
    rw (p.1, p.2) (subst (Fails c.in_err-item.field-0.0) c.loop-read.invariant
    (more_fails c.in_err-item.field-0.0 (length c.args.lexemes.now) c.loop-read._read Comma (goal_part_of (suc c.args.levels)) (map goal_data c.loop-read.found.items) c.loop-read.rest.now c.in-Some.behind.now
    c.loop-read-test.true c.in-Some.ensures c.in_err-item.ensures))

pub more_goals-loop-read-preserved : goal.more_goals-loop-read-preserved
more_goals-loop-read-preserved t c =
    let found = ap (map goal_data) c.in_ok-add.ensures ∙ map-append goal_data c.loop-read.found.items (c.in_ok-item.item ∷ []) in
    ap (λ xs. with_front xs (more_at (length c.args.lexemes.now - (c.loop-read._read + 1)) Comma (goal_part_of (suc c.args.levels)) c.in_ok-item.after.now)) found
    ∙ sym (more_step (length c.args.lexemes.now) c.loop-read._read Comma (goal_part_of (suc c.args.levels)) (map goal_data c.loop-read.found.items) (goal_data c.in_ok-item.item) c.loop-read.rest.now c.in-Some.behind.now c.in_ok-item.after.now
    c.loop-read-test.true c.in-Some.ensures c.in_ok-item.ensures)
    ∙ c.loop-read.invariant

pub alternatives-returns-in_err-goal : goal.alternatives-returns-in_err-goal
alternatives-returns-in_err-goal t c =
    let p = err_from_is_err_and c.from_residual.result c.from_residual.ensures.1 in
    rw (p.1, p.2) (subst (Fails c.in_err-goal.field-0.0) c.loop-read.invariant
    (alternatives_fails c.in_err-goal.field-0.0 (length c.args.lexemes.now) c.loop-read._read (goal_part_of (suc c.args.levels)) (goal_of c.args.levels) (map goal_data c.loop-read.found.items) c.loop-read.rest.now
    c.loop-read-test.true c.in_err-goal.ensures))

pub alternatives-returns-then-not-more : goal.alternatives-returns-then-not-more
alternatives-returns-then-not-more t c =
    let found = ap (map goal_data) c.in_ok-add.ensures ∙ map-append goal_data c.loop-read.found.items (c.in_ok-goal.goal ∷ []) in
    sym c.loop-read.invariant
    ∙ alternatives_last (length c.args.lexemes.now) c.loop-read._read (goal_part_of (suc c.args.levels)) (goal_of c.args.levels) (map goal_data c.loop-read.found.items) (goal_data c.in_ok-goal.goal) c.loop-read.rest.now c.in_ok-goal.after.now
    c.loop-read-test.true (c.in_ok-goal.ensures ∙ ap (λ b. one_read (goal_data c.in_ok-goal.goal) b c.in_ok-goal.after.now) c.if-not-more.true)
    ∙ ap (λ gs. read_all gs c.in_ok-goal.after.now) (sym found)

pub alternatives-loop-read-preserved : goal.alternatives-loop-read-preserved
alternatives-loop-read-preserved t c =
    let found = ap (map goal_data) c.in_ok-add.ensures ∙ map-append goal_data c.loop-read.found.items (c.in_ok-goal.goal ∷ []) in
    ap (λ gs. with_front gs (alternatives_at (length c.args.lexemes.now - (c.loop-read._read + 1)) (goal_part_of (suc c.args.levels)) (goal_of c.args.levels) c.in_ok-goal.after.now)) found
    ∙ sym (alternatives_step (length c.args.lexemes.now) c.loop-read._read (goal_part_of (suc c.args.levels)) (goal_of c.args.levels) (map goal_data c.loop-read.found.items) (goal_data c.in_ok-goal.goal) c.loop-read.rest.now c.in_ok-goal.after.now
    c.loop-read-test.true (c.in_ok-goal.ensures ∙ ap (λ b. one_read (goal_data c.in_ok-goal.goal) b c.in_ok-goal.after.now) c.if-not-more.false))
    ∙ c.loop-read.invariant
