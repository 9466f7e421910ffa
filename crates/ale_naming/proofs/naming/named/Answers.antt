use Rattle.std.proofs.Common.{map}
use Rattle.std.proofs.lemmas.Result.{err_from_is_err_and}
use Rattle.ale_declaration.specs.Declarations.{declaration_data}
use Rattle.ale_naming.proofs.Answering.{library_stops_two, library_keys, library_known, library_stops_three, library_goes}
use Rattle.ale_naming.proofs.naming.named.Goals as goal

pub returns-in_err-round_two : goal.returns-in_err-round_two
returns-in_err-round_two c =
    let p = err_from_is_err_and c.from_residual.result c.from_residual.ensures.1 in
    rw (p.1, p.2) (library_stops_two c.args.sig.now (map declaration_data c.args.decls.now) c.in_err-round_two.field-0.0 c.args.vocabulary c.args.library
    c.requires.own c.requires.known c.requires.library c.is_library.ensures c.in_err-round_two.ensures)

pub of-names-requires : goal.of-names-requires
of-names-requires c = library_keys c.args.sig.now (map declaration_data c.args.decls.now) c.args.vocabulary c.args.library c.requires.own c.requires.known c.requires.library

pub round_three-requires : goal.round_three-requires
round_three-requires c = record {
  known = library_known c.args.sig.now (map declaration_data c.args.decls.now) c.args.vocabulary c.args.library c.of-names.result c.requires.known c.of-names.ensures;
}

pub returns-in_err-round_three : goal.returns-in_err-round_three
returns-in_err-round_three c =
    let p = err_from_is_err_and c.from_residual-in_err-round_three.result c.from_residual-in_err-round_three.ensures.1 in
    rw (p.1, p.2) (library_stops_three c.args.sig.now (map declaration_data c.args.decls.now) c.in_err-round_three.field-0.0 c.args.vocabulary c.args.library c.of-names.result
    c.requires.own c.requires.known c.requires.library c.is_library.ensures c.in_ok-round_two.ensures c.of-names.ensures c.in_err-round_three.ensures)

pub returns : goal.returns
returns c =
    library_goes c.args.sig.now (map declaration_data c.args.decls.now) c.args.vocabulary c.args.library c.of-names.result
    c.requires.own c.requires.known c.requires.library c.is_library.ensures c.in_ok-round_two.ensures c.of-names.ensures c.in_ok-round_three.ensures
