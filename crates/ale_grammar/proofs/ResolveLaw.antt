-- The defined function answers what declarations are resolved to, by the law of names.
use Rattle.std.proofs.Common.{◌≡◌, ◌↔◌, Result, Err, List, refl, ap, subst}
use Rattle.ale_declared.specs.Declarations.{Declared}
use Rattle.ale_declaration.specs.Declarations.{DeclarationData}
use Rattle.ale_describe.specs.Names.{NamesData}
use Rattle.ale_naming.specs.Faults.{Fault}
use Rattle.ale_naming.specs.Naming as naming
use Rattle.ale_naming.specs.Naming.{AreNamed}
use Rattle.ale_naming.specs.Rounds.{named_of}
use Rattle.ale_naming.specs.Laws.{NamingLaw}
use Rattle.ale_grammar.specs.Resolving.{ResolvedData, IsResolved, refused, resolved}
use Rattle.ale_grammar.specs.Laws.{with_program, resolved_by, ResolveLaw}

module _ (law : NamingLaw) (d : Declared) (ds : List DeclarationData) where
  to : (r : Result ResolvedData Fault) → IsResolved d ds r → resolved_by d ds ≡ r
  to _ (refused f is) = ap (with_program d ds) ((law d ds (Err f)).0 (naming.refused f is))
  to _ (resolved all) = ap (with_program d ds) ((law d ds _).0 (naming.named all))

  from : (n : Result NamesData Fault) → AreNamed d ds n → IsResolved d ds (with_program d ds n)
  from _ (naming.refused f is) = refused f is
  from _ (naming.named all) = resolved all

  pub both : (r : Result ResolvedData Fault) → IsResolved d ds r ↔ resolved_by d ds ≡ r
  both r = (to r, λ e. subst (IsResolved d ds) e (from (named_of d ds) ((law d ds (named_of d ds)).1 refl)))

pub resolve_law : NamingLaw → ResolveLaw
resolve_law law d ds r = both law d ds r
