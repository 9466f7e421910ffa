use Rattle.std.proofs.Common.{◌≡◌, ◌++◌, [], length, map, drop}
use Rattle.ale_declaration.specs.Declarations.{declaration_data}
use Rattle.ale_macro.specs.Templates.{macro_data}
use Rattle.ale_describe.specs.Macros.{macros_after}
use Rattle.ale_describe.specs.Declaring.{AreKnownDeclarations}
use Rattle.ale_describe.proofs.Declaring.{macros_left}
use Rattle.ale_describe.proofs.grammar.macros.Given as goal

abbrev pub invariant-loop-decl : goal.invariant-loop-decl
invariant-loop-decl l = record {
  so_far : map macro_data l.made.items ++ macros_left l.sig l.vocabulary l.decls l.decl-index (length l.made.items) ≡ macros_after l.sig l.vocabulary [] (map declaration_data l.decls);
  known : AreKnownDeclarations l.sig l.vocabulary (map declaration_data (drop l.decl-index l.decls));
}
