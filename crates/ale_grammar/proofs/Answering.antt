-- The clauses of the call, from what its parts give.
use Rattle.std.proofs.Common.{◌≡◌, Result, Ok, Err, List, refl, sym, ap, ◌∙◌, subst}
use Rattle.std.specs.Prelude.{MatchResult}
use Rattle.ale_declared.specs.Declarations.{Declared}
use Rattle.ale_declaration.specs.Declarations.{DeclarationData}
use Rattle.ale_describe.specs.Names.{NamesData}
use Rattle.ale_describe.specs.Macros.{names_of}
use Rattle.ale_naming.specs.declared.fault.NameFault.{NameFault}
use Rattle.ale_naming.specs.declared.fault.NameFault.TheVariants.{At, NoMemory}
use Rattle.ale_naming.specs.Faults.{Fault, AreRight}
use Rattle.ale_naming.specs.Naming.{AreNamed, refused, named}
use Rattle.ale_naming.specs.Answers.{NamesGive}
use Rattle.ale_naming.specs.Rounds.{named_of}
use Rattle.ale_grammar.specs.Answers.{IsTold, ResolvedGives, resolved_data}
use Rattle.ale_grammar.specs.declared.grammar.Resolved.{Resolved}
use Rattle.ale_grammar.specs.Laws.{ResolveLaw, resolved_by, with_program}
use Rattle.ale_grammar.specs.Resolving.{IsResolved, ResolvedData, resolved_of}

-- names that declarations give are those of declarations that are right
abbrev RightNames : Declared → List DeclarationData → Result NamesData Fault → Type 0
RightNames d ds (Ok names) = AreRight d ds × (names ≡ names_of d ds)
RightNames d ds (Err f) = Unit {0}

right_names : (d : Declared) (ds : List DeclarationData) (r : Result NamesData Fault) → AreNamed d ds r → RightNames d ds r
right_names d ds _ (refused f is) = tt
right_names d ds _ (named all) = (all, refl)

pub right : (d : Declared) (ds : List DeclarationData) (names : NamesData) → AreNamed d ds (Ok names) → AreRight d ds
right d ds names is = (right_names d ds (Ok names) is).0

pub own : (d : Declared) (ds : List DeclarationData) (names : NamesData) → AreNamed d ds (Ok names) → names ≡ names_of d ds
own d ds names is = (right_names d ds (Ok names) is).1

-- an answer by what names mean
pub goes : (d : Declared) (ds : List DeclarationData) (names : NamesData) (r : Result Resolved NameFault) → AreNamed d ds (Ok names) → named_of d ds ≡ Ok names →
    ResolvedGives r (Ok (resolved_of d ds)) → ResolvedGives r (resolved_by d ds)
goes d ds names r is e gives =
    subst (ResolvedGives r) (sym (ap (with_program d ds) (e ∙ ap Ok (own d ds names is)))) gives

pub stops : (d : Declared) (ds : List DeclarationData) (fault : NameFault) → NamesGive (Err fault) (named_of d ds) → ResolvedGives (Err fault) (resolved_by d ds)
stops d ds NoMemory gives = tt
stops d ds (At k e) gives = ap (with_program d ds) gives

-- what the function gives is what is answered, and nothing else
pub found : ResolveLaw → (d : Declared) (ds : List DeclarationData) (r : Result Resolved NameFault) → ResolvedGives r (resolved_by d ds) →
    MatchResult r (λ a. IsResolved d ds (Ok (resolved_data a))) (λ e. IsTold (IsResolved d ds) e)
found law d ds (Ok a) gives = (law d ds (Ok (resolved_data a))).1 gives
found law d ds (Err NoMemory) gives = tt
found law d ds (Err (At k e)) gives = (law d ds (Err (k, e))).1 gives

pub only : ResolveLaw → (d : Declared) (ds : List DeclarationData) (r : Result Resolved NameFault) → ResolvedGives r (resolved_by d ds) →
    (answer : Result ResolvedData Fault) → IsResolved d ds answer → ResolvedGives r answer
only law d ds r gives answer is = subst (ResolvedGives r) ((law d ds answer).0 is) gives
