use Rattle.std.proofs.Common.{Ok, Some, ap, map}
use Rattle.std.proofs.lemmas.Result.{err_from_is_err_and}
use Rattle.ale_declaration.specs.Declarations.{declaration_data}
use Rattle.ale_naming.proofs.Answering.{stops_one, stops_two}
use Rattle.ale_naming.proofs.naming.by_rounds.Goals as goal

pub returns-in_err-round_one : goal.returns-in_err-round_one
returns-in_err-round_one c =
    let p = err_from_is_err_and c.from_residual-in_err-round_one.result c.from_residual-in_err-round_one.ensures.1 in
    rw (p.1, p.2) (stops_one c.args.sig.now (map declaration_data c.args.decls.now) c.in_err-round_one.field-0.0 c.in_ok-vocabulary.vocabulary
    c.in_ok-vocabulary.ensures c.in_err-round_one.ensures)

pub returns-in_err-first : goal.returns-in_err-first
returns-in_err-first c =
    let p = err_from_is_err_and c.from_residual-in_err-first.result c.from_residual-in_err-first.ensures.1 in
    rw (p.1, p.2) tt

pub returns-in-Cyclic : goal.returns-in-Cyclic
returns-in-Cyclic c =
    stops_two c.args.sig.now (map declaration_data c.args.decls.now) c.cyclic_fault.result c.in_ok-vocabulary.vocabulary (Some c.in-Cyclic.first)
    c.in_ok-vocabulary.ensures c.in_ok-round_one.ensures (c.in_ok-first.ensures.cyclic c.in-Cyclic.first (ap Ok c.in-Cyclic.is)) c.cyclic_fault.ensures
