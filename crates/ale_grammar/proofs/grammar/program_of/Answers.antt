use Rattle.std.proofs.Common.{map, ap, sym, subst, ◌∙◌}
use Rattle.ale_declaration.specs.Declarations.{declaration_data}
use Rattle.ale_describe.specs.Declaring.{AreKnownDeclarations}
use Rattle.ale_describe.specs.Laws.{FitsNames}
use Rattle.ale_describe.specs.Names.{NamesData}
use Rattle.ale_program.specs.Views.{program}
use Rattle.ale_program.specs.declared.parts.Parts.{Parts}
use Rattle.ale_grammar.proofs.Keeping.{known, kept}
use Rattle.ale_grammar.proofs.grammar.program_of.Goals as goal

pub assembled-requires : goal.assembled-requires
assembled-requires c = record {
  own = c.requires.own;
  known = subst (λ (n : NamesData). AreKnownDeclarations c.args.signature n.vocabulary (map declaration_data c.args.decls.now)) (sym c.requires.own)
      (known c.args.signature (map declaration_data c.args.decls.now) c.requires.right);
}

pub of-requires : goal.of-requires
of-requires c =
    kept c.args.signature (map declaration_data c.args.decls.now) c.in_ok-parts.parts c.built_law.ensures.lawful
    (subst (λ (n : NamesData). FitsNames c.args.signature n) c.requires.own c.requires.fits) c.requires.right c.requires.bound c.in_ok-parts.ensures

pub returns-clause-program : goal.returns-clause-program
returns-clause-program c = ap program c.of.ensures ∙ c.in_ok-parts.ensures.program

pub returns-clause-signature : goal.returns-clause-signature
returns-clause-signature c = ap (λ (p : Parts). p.signature) c.of.ensures ∙ c.in_ok-parts.ensures.signature
