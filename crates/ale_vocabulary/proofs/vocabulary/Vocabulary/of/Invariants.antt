use Rattle.std.proofs.Common.{◌≡◌, drop, map, []}
use Rattle.ale_declared.specs.Names.{numbered}
use Rattle.ale_declaration.specs.Declarations.{declaration_data}
use Rattle.ale_vocabulary.specs.Vocabularies.{keys_by, macro_key, predicate_key}
use Rattle.ale_vocabulary.proofs.vocabulary.Vocabulary.of.Given as goal

abbrev pub invariant-loop-declaration : goal.invariant-loop-declaration
invariant-loop-declaration l = record {
  macros : numbered l.macros (keys_by macro_key (map declaration_data (drop l.declaration-index l.decls))) ≡ numbered [] (keys_by macro_key (map declaration_data l.decls));
  predicates : numbered l.predicates (keys_by predicate_key (map declaration_data (drop l.declaration-index l.decls))) ≡ numbered [] (keys_by predicate_key (map declaration_data l.decls));
}
