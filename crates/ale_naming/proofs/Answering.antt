-- What a call that carries out the rounds has answered, in the words of the relations.
use Rattle.std.proofs.Common.{◌≡◌, ℕ, ◌<◌, ◌≤◌, Option, Some, None, Result, Ok, Err, List, [], length, sym, ap, ◌∙◌, subst, arith}
use Rattle.std.specs.Prelude.{MatchResult, IfOk}
use Rattle.ale_declared.specs.Declarations.{Declared}
use Rattle.ale_hierarchy.specs.Hierarchy.{IsLawful}
use Rattle.ale_hierarchy.specs.Order.{hierarchy}
use Rattle.ale_logic.specs.Programs.{ListTypes}
use Rattle.ale_list.specs.Lists.{lists_or_none}
use Rattle.ale_declaration.specs.Declarations.{DeclarationData}
use Rattle.ale_order.specs.Orders.{IsFirstCyclic}
use Rattle.ale_vocabulary.specs.Vocabularies.{VocabularyData, vocabulary_of}
use Rattle.ale_macro.specs.Templates.{MacroData}
use Rattle.ale_macro.specs.Expanding.{LibraryData}
use Rattle.ale_macro.specs.Calls.{BodiesKnown, IsLibrary, calls_of}
use Rattle.ale_describe.specs.Names.{NamesData, HaveKeys}
use Rattle.ale_describe.specs.Macros.{macros_after, names_of}
use Rattle.ale_describe.specs.Declaring.{AreKnownDeclarations}
use Rattle.ale_describe.specs.Laws.{FitsNames}
use Rattle.ale_describe.proofs.MacroLaws.{macros_law}
use Rattle.ale_naming.specs.declared.fault.NameFault.{NameFault}
use Rattle.ale_naming.specs.declared.fault.NameFault.TheVariants.{At, NoMemory}
use Rattle.ale_naming.specs.Faults.{Fault}
use Rattle.ale_naming.specs.Known.{HaveKnownParts}
use Rattle.ale_naming.specs.Naming.{AreNamed}
use Rattle.ale_naming.specs.Answers.{IsFound, NamesGive, IsToldFault}
use Rattle.ale_naming.specs.Laws.{NamingLaw, NamesFit}
use Rattle.ale_naming.specs.Rounds.{round_one, round_two, round_three, nothing_earlier, first_cyclic, unless_fault, named_of}
use Rattle.ale_naming.proofs.Cycles.{cyclic_below, cyclic_is_first, library_first}
use Rattle.ale_naming.proofs.Unknowing.{all_mentions, all_known}
use Rattle.ale_naming.proofs.Misplacing.{two_over, at_first, first_not_yet}
use Rattle.ale_naming.proofs.Libraries.{as_many}

pub names_as : NamingLaw → (d : Declared) (ds : List DeclarationData) (r : Result NamesData NameFault) → NamesGive r (named_of d ds) → (answer : Result NamesData Fault) → AreNamed d ds answer → NamesGive r answer
names_as law d ds r gives answer is = subst (NamesGive r) ((law d ds answer).0 is) gives

pub names_found : NamingLaw → (d : Declared) (ds : List DeclarationData) (r : Result NamesData NameFault) → NamesGive r (named_of d ds) →
    MatchResult r (λ n. AreNamed d ds (Ok n)) (λ e. IsToldFault (AreNamed d ds) e)
names_found law d ds (Ok n) gives = (law d ds (Ok n)).1 gives
names_found law d ds (Err NoMemory) gives = tt
names_found law d ds (Err (At k e)) gives = (law d ds (Err (k, e))).1 gives

-- the macros
module _ (d : Declared) (v : VocabularyData) (ds : List DeclarationData) (own : v ≡ vocabulary_of ds) (known : round_one d v 1 ds ≡ None) where
  all_known_own : AreKnownDeclarations d (vocabulary_of ds) ds
  all_known_own = all_mentions d (vocabulary_of ds) 1 ds (subst (λ z. round_one d z 1 ds ≡ None) own known)

  same_macros : (ms : List MacroData) → ms ≡ macros_after d v [] ds → ms ≡ (names_of d ds).library.macros
  same_macros ms e = e ∙ ap (λ z. macros_after d z [] ds) own

  pub bodies_known : (ms : List MacroData) → ms ≡ macros_after d v [] ds → BodiesKnown ms ms
  bodies_known ms e = subst (λ z. BodiesKnown z z) (sym (same_macros ms e)) (macros_law d ds all_known_own).known

  pub library_is : (ms : List MacroData) (l : ListTypes) (library : LibraryData) → ms ≡ macros_after d v [] ds → l ≡ lists_or_none d → library ≡ record { lists = l; macros = ms } → library ≡ (names_of d ds).library
  library_is ms l library e f g = g ∙ (ap (λ z. record { lists = z; macros = ms }) f ∙ ap (λ z. record { lists = lists_or_none d; macros = z }) (same_macros ms e))

  pub first_cyclic_is : (ms : List MacroData) (m : ℕ) → ms ≡ macros_after d v [] ds → IsFirstCyclic (calls_of ms) m → first_cyclic (names_of d ds).library.macros ≡ Some m
  first_cyclic_is ms m e is = ap first_cyclic (sym (same_macros ms e)) ∙ cyclic_is_first ms m is

  pub cyclic_is_below : (ms : List MacroData) (m : ℕ) → ms ≡ macros_after d v [] ds → IsFirstCyclic (calls_of ms) m → m < length v.macros
  cyclic_is_below ms m e is =
      let low : m < length ms = cyclic_below ms m is.cyclic in
      let same : length ms ≡ length (names_of d ds).library.macros = ap length (same_macros ms e) in
      let count : length (vocabulary_of ds).macros ≡ length (names_of d ds).library.macros = as_many d ds all_known_own in
      let mine : length v.macros ≡ length (vocabulary_of ds).macros = ap (λ (z : VocabularyData). length z.macros) own in
      omega arith

-- where a macro leads back to itself the second round finds a fault
pub finds_some : (v : VocabularyData) (c : ℕ) (ds : List DeclarationData) → v ≡ vocabulary_of ds → c < length v.macros → round_two v (Some c) 1 nothing_earlier ds ≡ None → ⊥
finds_some v c ds own low none =
    let over : length (vocabulary_of ds).macros ≤ c = two_over (vocabulary_of ds) c 1 [] ds nothing_earlier (at_first ds) (first_not_yet (Some c)) (subst (λ z. round_two z (Some c) 1 nothing_earlier ds ≡ None) own none) in
    let mine : length v.macros ≡ length (vocabulary_of ds).macros = ap (λ (z : VocabularyData). length z.macros) own in
    absurd (omega arith)

-- what the rounds find is what is told
module _ (d : Declared) (ds : List DeclarationData) where
  abbrev whole : Option Fault → Option Fault → Option Fault → Result NamesData Fault
  whole a b c = unless_fault a (unless_fault b (unless_fault c (Ok (names_of d ds))))

  abbrev two_with : Option ℕ → Option Fault
  two_with cyclic = round_two (vocabulary_of ds) cyclic 1 nothing_earlier ds

  at_one : (e : NameFault) (a b c : Option Fault) → IsFound e a → NamesGive (Err e) (whole a b c)
  at_one NoMemory a b c is = tt
  at_one (At k x) a b c is = ap (λ z. whole z b c) is

  at_two : (e : NameFault) (a b c : Option Fault) → a ≡ None → IsFound e b → NamesGive (Err e) (whole a b c)
  at_two NoMemory a b c none is = tt
  at_two (At k x) a b c none is = ap (λ z. whole z b c) none ∙ ap (λ z. whole None z c) is

  at_three : (e : NameFault) (a b c : Option Fault) → a ≡ None → b ≡ None → IsFound e c → NamesGive (Err e) (whole a b c)
  at_three NoMemory a b c none clear is = tt
  at_three (At k x) a b c none clear is = ap (λ z. whole z b c) none ∙ (ap (λ z. whole None z c) clear ∙ ap (λ z. whole None None z) is)

  pub stops_one : (e : NameFault) (v : VocabularyData) → v ≡ vocabulary_of ds → IsFound e (round_one d v 1 ds) → NamesGive (Err e) (named_of d ds)
  stops_one e v own is =
      at_one e (round_one d (vocabulary_of ds) 1 ds) (two_with (first_cyclic (names_of d ds).library.macros)) (round_three d (names_of d ds) 1 0 ds) (subst (λ z. IsFound e (round_one d z 1 ds)) own is)

  pub stops_two : (e : NameFault) (v : VocabularyData) (cyclic : Option ℕ) → v ≡ vocabulary_of ds → round_one d v 1 ds ≡ None → first_cyclic (names_of d ds).library.macros ≡ cyclic →
      IsFound e (round_two v cyclic 1 nothing_earlier ds) → NamesGive (Err e) (named_of d ds)
  stops_two e v cyclic own known first is =
      at_two e (round_one d (vocabulary_of ds) 1 ds) (two_with (first_cyclic (names_of d ds).library.macros)) (round_three d (names_of d ds) 1 0 ds)
      (subst (λ z. round_one d z 1 ds ≡ None) own known)
      (subst (λ z. IsFound e (two_with z)) (sym first) (subst (λ z. IsFound e (round_two z cyclic 1 nothing_earlier ds)) own is))

  -- by a library, none leads back to itself
  first_none : (library : LibraryData) → library ≡ (names_of d ds).library → IsLibrary library → first_cyclic (names_of d ds).library.macros ≡ None
  first_none library e is = library_first (names_of d ds).library (subst IsLibrary e is)

  pub library_stops_two : (e : NameFault) (v : VocabularyData) (library : LibraryData) → v ≡ vocabulary_of ds → round_one d v 1 ds ≡ None → library ≡ (names_of d ds).library → IsLibrary library →
      IsFound e (round_two v None 1 nothing_earlier ds) → NamesGive (Err e) (named_of d ds)
  library_stops_two e v library own known same is found = stops_two e v None own known (first_none library same is) found

  same_names : (names : NamesData) (v : VocabularyData) (library : LibraryData) → names ≡ record { vocabulary = v; library = library } → v ≡ vocabulary_of ds → library ≡ (names_of d ds).library → names ≡ names_of d ds
  same_names names v library e own same = e ∙ (ap (λ z. record { vocabulary = z; library = library }) own ∙ ap (λ z. record { vocabulary = vocabulary_of ds; library = z }) same)

  pub library_stops_three : (e : NameFault) (v : VocabularyData) (library : LibraryData) (names : NamesData) → v ≡ vocabulary_of ds → round_one d v 1 ds ≡ None → library ≡ (names_of d ds).library → IsLibrary library →
      round_two v None 1 nothing_earlier ds ≡ None → names ≡ record { vocabulary = v; library = library } → IsFound e (round_three d names 1 0 ds) → NamesGive (Err e) (named_of d ds)
  library_stops_three e v library names own known same is two made found =
      at_three e (round_one d (vocabulary_of ds) 1 ds) (two_with (first_cyclic (names_of d ds).library.macros)) (round_three d (names_of d ds) 1 0 ds)
      (subst (λ z. round_one d z 1 ds ≡ None) own known)
      (ap two_with (first_none library same is) ∙ subst (λ z. round_two z None 1 nothing_earlier ds ≡ None) own two)
      (subst (λ z. IsFound e (round_three d z 1 0 ds)) (same_names names v library made own same) found)

  pub library_goes : (v : VocabularyData) (library : LibraryData) (names : NamesData) → v ≡ vocabulary_of ds → round_one d v 1 ds ≡ None → library ≡ (names_of d ds).library → IsLibrary library →
      round_two v None 1 nothing_earlier ds ≡ None → names ≡ record { vocabulary = v; library = library } → round_three d names 1 0 ds ≡ None → named_of d ds ≡ Ok names
  library_goes v library names own known same is two made three =
      ap (λ z. whole z (two_with (first_cyclic (names_of d ds).library.macros)) (round_three d (names_of d ds) 1 0 ds)) (subst (λ z. round_one d z 1 ds ≡ None) own known)
      ∙ (ap (λ z. whole None z (round_three d (names_of d ds) 1 0 ds)) (ap two_with (first_none library same is) ∙ subst (λ z. round_two z None 1 nothing_earlier ds ≡ None) own two)
      ∙ (ap (λ z. whole None None z) (subst (λ z. round_three d z 1 0 ds ≡ None) (same_names names v library made own same) three)
      ∙ ap Ok (sym (same_names names v library made own same))))

  pub library_keys : (v : VocabularyData) (library : LibraryData) → v ≡ vocabulary_of ds → round_one d v 1 ds ≡ None → library ≡ (names_of d ds).library → HaveKeys v.macros library.macros
  library_keys v library own known same =
      subst (λ (z : VocabularyData). HaveKeys z.macros library.macros) (sym own) (subst (λ (z : LibraryData). HaveKeys (vocabulary_of ds).macros z.macros) (sym same) (macros_law d ds (all_known_own d v ds own known)).keys)

  pub library_known : (v : VocabularyData) (library : LibraryData) (names : NamesData) → round_one d v 1 ds ≡ None → names ≡ record { vocabulary = v; library = library } → HaveKnownParts d names.vocabulary ds
  library_known v library names known made = subst (λ (z : NamesData). HaveKnownParts d z.vocabulary ds) (sym made) (all_known d v 1 ds known)

-- what is found fits
pub names_fitting : NamingLaw → NamesFit → (d : Declared) (ds : List DeclarationData) → IsLawful (hierarchy d) → (r : Result NamesData NameFault) → NamesGive r (named_of d ds) → IfOk r (λ n. FitsNames d n)
names_fitting law fit d ds lawful (Ok n) gives = fit d ds n lawful ((law d ds (Ok n)).1 gives)
names_fitting law fit d ds lawful (Err e) gives = tt
