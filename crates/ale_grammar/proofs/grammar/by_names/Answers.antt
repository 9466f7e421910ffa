use Rattle.std.proofs.Common.{map}
use Rattle.ale_declaration.specs.Declarations.{declaration_data}
use Rattle.ale_grammar.proofs.Answering.{goes, own, right, stops}
use Rattle.ale_grammar.proofs.grammar.by_names.Goals as goal

pub with_names-requires : goal.with_names-requires
with_names-requires c = record {
  own = own c.args.signature (map declaration_data c.args.decls.now) c.in-Ok.names c.in-Ok.ensures.found;
  right = right c.args.signature (map declaration_data c.args.decls.now) c.in-Ok.names c.in-Ok.ensures.found;
  fits = c.in-Ok.ensures.fits;
  bound = c.requires.bound;
}

pub returns-in-Ok : goal.returns-in-Ok
returns-in-Ok c = record {
  exact = goes c.args.signature (map declaration_data c.args.decls.now) c.in-Ok.names c.with_names.result c.in-Ok.ensures.found c.in-Ok.ensures.exact c.with_names.ensures.exact;
  written = c.with_names.ensures.written;
  signature = c.with_names.ensures.signature;
}

pub returns-in-Err : goal.returns-in-Err
returns-in-Err c = record {
  exact = stops c.args.signature (map declaration_data c.args.decls.now) c.in-Err.fault c.in-Err.ensures.exact;
  written = tt;
  signature = tt;
}
