-- Grammars and commands are what the relations say, which the functions give.
use Rattle.std.proofs.Common.{◌≡◌, ◌↔◌, ℕ, List, [], Option, Some, None, Result, Ok, Err, refl, ap, ◌∙◌, subst}
use Rattle.ale_term.specs.declared.lexeme.Lexeme.{Lexeme}
use Rattle.ale_hierarchy.specs.declared.fault.Fault.{Fault}
use Rattle.ale_signature.specs.Deciding.{FaultsDecide}
use Rattle.ale_hierarchy.specs.Accepted.{IsAccepted}
use Rattle.ale_hierarchy.specs.Hierarchy.{IsLawful}
use Rattle.ale_hierarchy.specs.Order.{hierarchy}
use Rattle.ale_signature.specs.Laws.{SignatureLaw}
use Rattle.ale_declared.specs.Numbering.{AreDistinct, NamesAreDistinct, DeclaredIsNumbered}
use Rattle.ale_hierarchy.specs.Faults.{fault_of}
use Rattle.ale_load.specs.declared.file_error.FileError.{FileError}
use Rattle.ale_load.specs.Files.{IsCut, cut_of}
use Rattle.ale_load.specs.Reading.{Refusal, AreRead, each_read, first_without}
use Rattle.ale_load.proofs.Cutting.{cut_given, cut_made}
use Rattle.ale_load.proofs.Parts.{Carries, read_given, read_made}
use Rattle.ale_load.proofs.Plain.{plain_macros}
use Rattle.ale_declaration.specs.Declarations.{DeclarationData}
use Rattle.ale_declaration.specs.Answers.{DeclarationAnswers}
use Rattle.ale_declaration.specs.Reading.{declaration_of}
use Rattle.ale_stage.specs.Stages.{declaration_is_built}
use Rattle.ale_vocabulary.specs.Vocabularies.{vocabulary_of}
use Rattle.ale_describe.specs.Names.{NamesData}
use Rattle.ale_describe.specs.Macros.{names_of}
use Rattle.ale_naming.specs.Faults as naming
use Rattle.ale_naming.specs.Naming.{AreNamed, refused, named}
use Rattle.ale_naming.specs.Rounds.{named_of}
use Rattle.ale_naming.specs.Laws.{NamingLaw, NamesFit}
use Rattle.ale_load.specs.declared.grammar_error.GrammarError.{GrammarError}
use Rattle.ale_load.specs.Grammars.{declaration_in, types_of, declared_by, loaded_of, LoadedData, FitsLoaded, IsLoaded, not_cut, not_read, not_built, not_accepted, not_named, is_loaded, after_names, after_signature, after_built, formed, after_forms, after_cut, load_of}

pub read_in : Carries DeclarationAnswers declaration_of → Carries DeclarationAnswers declaration_in
unfolding declaration_in
read_in carries = carries

module _ (carries : Carries DeclarationAnswers declaration_in) (decides : FaultsDecide) (names : NamingLaw) (g : List ℕ) where
  cut_is : (r : Result (List (List Lexeme)) FileError) → IsCut g r → load_of g ≡ after_cut r
  cut_is r is = ap after_cut (cut_given g r is)

  read_is : (ps : List (List Lexeme)) (r : Result (List DeclarationData) Refusal) → IsCut g (Ok ps) → AreRead DeclarationAnswers 1 ps r →
      load_of g ≡ after_forms (formed r)
  read_is ps r is read = cut_is (Ok ps) is ∙ ap (λ z. after_forms (formed z)) (read_given DeclarationAnswers declaration_in carries read)

  -- what the relation says is what the function gives
  pub load_given : (r : Result LoadedData GrammarError) → IsLoaded g r → load_of g ≡ r
  load_given r (not_cut e is) = cut_is (Err e) is
  load_given r (not_read ps x is read) = read_is ps (Err x) is read
  load_given r (not_built ps ds k is read e) = read_is ps (Ok ds) is read ∙ ap (after_built ds) e
  load_given r (not_accepted ps ds f is read e fault) =
      read_is ps (Ok ds) is read ∙ ap (after_built ds) e ∙ ap (after_signature ds) (((decides (types_of ds)).some f).1 fault)
  load_given r (not_named ps ds f is read e accepted fault) =
      read_is ps (Ok ds) is read ∙ ap (after_built ds) e ∙ ap (after_signature ds) ((decides (types_of ds)).none.1 accepted)
      ∙ ap (after_names ds) ((names (declared_by ds) ds (Err f)).0 (refused f fault))
  load_given r (is_loaded ps ds is read e accepted right) =
      read_is ps (Ok ds) is read ∙ ap (after_built ds) e ∙ ap (after_signature ds) ((decides (types_of ds)).none.1 accepted)
      ∙ ap (after_names ds) ((names (declared_by ds) ds (Ok (names_of (declared_by ds) ds))).0 (named right))

  made_names : (ps : List (List Lexeme)) (ds : List DeclarationData) → IsCut g (Ok ps) → AreRead DeclarationAnswers 1 ps (Ok ds) →
      first_without declaration_is_built 1 ds ≡ None → IsAccepted (declared_by ds) → (r : Result NamesData naming.Fault) → AreNamed (declared_by ds) ds r →
      IsLoaded g (after_names ds r)
  made_names ps ds is read e accepted r (refused f fault) = not_named ps ds f is read e accepted fault
  made_names ps ds is read e accepted r (named right) = is_loaded ps ds is read e accepted right

  made_signature : (ps : List (List Lexeme)) (ds : List DeclarationData) → IsCut g (Ok ps) → AreRead DeclarationAnswers 1 ps (Ok ds) →
      first_without declaration_is_built 1 ds ≡ None → (o : Option Fault) → fault_of (declared_by ds) ≡ o → IsLoaded g (after_signature ds o)
  made_signature ps ds is read e None f =
      made_names ps ds is read e ((decides (types_of ds)).none.0 f) (named_of (declared_by ds) ds)
      ((names (declared_by ds) ds (named_of (declared_by ds) ds)).1 refl)
  made_signature ps ds is read e (Some x) f = not_accepted ps ds x is read e (((decides (types_of ds)).some x).0 f)

  made_built : (ps : List (List Lexeme)) (ds : List DeclarationData) → IsCut g (Ok ps) → AreRead DeclarationAnswers 1 ps (Ok ds) →
      (o : Option ℕ) → first_without declaration_is_built 1 ds ≡ o → IsLoaded g (after_built ds o)
  made_built ps ds is read None e = made_signature ps ds is read e (fault_of (declared_by ds)) refl
  made_built ps ds is read (Some k) e = not_built ps ds k is read e

  made_forms : (ps : List (List Lexeme)) → IsCut g (Ok ps) → (r : Result (List DeclarationData) Refusal) → AreRead DeclarationAnswers 1 ps r →
      IsLoaded g (after_forms (formed r))
  made_forms ps is (Ok ds) read = made_built ps ds is read (first_without declaration_is_built 1 ds) refl
  made_forms ps is (Err x) read = not_read ps x is read

  made_cut : (r : Result (List (List Lexeme)) FileError) → IsCut g r → IsLoaded g (after_cut r)
  made_cut (Ok ps) is = made_forms ps is (each_read declaration_in 1 ps) (read_made DeclarationAnswers declaration_in carries 1 ps)
  made_cut (Err e) is = not_cut e is

  pub load_made : IsLoaded g (load_of g)
  load_made = made_cut (cut_of g) (cut_made g)

  pub load_is : (r : Result LoadedData GrammarError) → IsLoaded g r ↔ load_of g ≡ r
  load_is r = (load_given r, λ e. subst (IsLoaded g) e load_made)

-- what is loaded is accepted, so that its signature obeys the laws
pub loaded_lawful : SignatureLaw → DeclaredIsNumbered → (g : List ℕ) (r : Result LoadedData GrammarError) (l : LoadedData) → IsLoaded g r → r ≡ Ok l →
    IsLawful (hierarchy l.signature_of)
loaded_lawful lawful numbered g r l (not_cut e is) same = absurd cc
loaded_lawful lawful numbered g r l (not_read ps x is read) same = absurd cc
loaded_lawful lawful numbered g r l (not_built ps ds k is read e) same = absurd cc
loaded_lawful lawful numbered g r l (not_accepted ps ds f is read e fault) same = absurd cc
loaded_lawful lawful numbered g r l (not_named ps ds f is read e accepted fault) same = absurd cc
loaded_lawful lawful numbered g r l (is_loaded ps ds is read e accepted right) same =
    let this : loaded_of ds ≡ l = cc in
    subst (λ (z : LoadedData). IsLawful (hierarchy z.signature_of)) this (lawful (declared_by ds) (numbered (types_of ds)) accepted)

-- and no two of its types have one name
pub loaded_distinct : NamesAreDistinct → (g : List ℕ) (r : Result LoadedData GrammarError) (l : LoadedData) → IsLoaded g r → r ≡ Ok l → AreDistinct l.signature_of.types
loaded_distinct distinct g r l (not_cut e is) same = absurd cc
loaded_distinct distinct g r l (not_read ps x is read) same = absurd cc
loaded_distinct distinct g r l (not_built ps ds k is read e) same = absurd cc
loaded_distinct distinct g r l (not_accepted ps ds f is read e fault) same = absurd cc
loaded_distinct distinct g r l (not_named ps ds f is read e accepted fault) same = absurd cc
loaded_distinct distinct g r l (is_loaded ps ds is read e accepted right) same =
    let this : loaded_of ds ≡ l = cc in
    subst (λ (z : LoadedData). AreDistinct z.signature_of.types) this (distinct (types_of ds)).0

-- and its names fit it
pub loaded_fits : NamesFit → SignatureLaw → DeclaredIsNumbered → (g : List ℕ) (r : Result LoadedData GrammarError) (l : LoadedData) → IsLoaded g r → r ≡ Ok l → FitsLoaded l
loaded_fits fit lawful numbered g r l (not_cut e is) same = absurd cc
loaded_fits fit lawful numbered g r l (not_read ps x is read) same = absurd cc
loaded_fits fit lawful numbered g r l (not_built ps ds k is read e) same = absurd cc
loaded_fits fit lawful numbered g r l (not_accepted ps ds f is read e fault) same = absurd cc
loaded_fits fit lawful numbered g r l (not_named ps ds f is read e accepted fault) same = absurd cc
loaded_fits fit lawful numbered g r l (is_loaded ps ds is read e accepted right) same =
    let this : loaded_of ds ≡ l = cc in
    subst (λ (z : LoadedData). FitsLoaded z) this
    (record {
      names = fit (declared_by ds) ds (names_of (declared_by ds) ds) (lawful (declared_by ds) (numbered (types_of ds)) accepted) (named right);
      plain = plain_macros (declared_by ds) (vocabulary_of ds) [] 1 ds e;
    })
