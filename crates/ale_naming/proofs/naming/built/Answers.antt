use Rattle.std.proofs.Common.{map}
use Rattle.ale_declaration.specs.Declarations.{declaration_data}
use Rattle.ale_macro.specs.Templates.{macro_data}
use Rattle.ale_naming.proofs.Unknowing.{all_mentions}
use Rattle.ale_naming.proofs.Answering.{bodies_known, first_cyclic_is, cyclic_is_below}
use Rattle.ale_naming.proofs.naming.built.Goals as goal

pub macros-requires-clause-known : goal.macros-requires-clause-known
macros-requires-clause-known c = all_mentions c.args.sig.now c.args.vocabulary.now 1 (map declaration_data c.args.decls.now) c.requires.known

pub build-requires : goal.build-requires
build-requires c = record {
  known = bodies_known c.args.sig.now c.args.vocabulary.now (map declaration_data c.args.decls.now) c.requires.own c.requires.known
      (map macro_data c.in_ok-macros.macros.items) c.in_ok-macros.ensures;
}

pub returns-clause-cyclic : goal.returns-clause-cyclic
returns-clause-cyclic c = λ m is.
    first_cyclic_is c.args.sig.now c.args.vocabulary.now (map declaration_data c.args.decls.now) c.requires.own c.requires.known
    (map macro_data c.in_ok-macros.macros.items) m c.in_ok-macros.ensures (c.in_ok-built.ensures.cyclic m is)

pub returns-clause-below : goal.returns-clause-below
returns-clause-below c = λ m is.
    cyclic_is_below c.args.sig.now c.args.vocabulary.now (map declaration_data c.args.decls.now) c.requires.own c.requires.known
    (map macro_data c.in_ok-macros.macros.items) m c.in_ok-macros.ensures (c.in_ok-built.ensures.cyclic m is)
