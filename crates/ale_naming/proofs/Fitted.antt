-- What names mean fits a signature that is lawful.
use Rattle.std.proofs.Common.{◌≡◌, ℕ, ◌<◌, Option, Some, None, Result, Ok, List, [], length, refl, sym, subst, arith}
use Rattle.std.specs.Prelude.{is_some, true}
use Rattle.ale_relation.proofs.Paths.{has_below}
use Rattle.ale_declared.specs.Declarations.{Declared}
use Rattle.ale_hierarchy.specs.Hierarchy.{IsLawful}
use Rattle.ale_hierarchy.specs.Order.{hierarchy}
use Rattle.ale_logic.specs.Programs.{ListTypes}
use Rattle.ale_logic.specs.Fitting.{FitLists}
use Rattle.ale_list.specs.Lists.{lists_in, lists_or_none, or_none}
use Rattle.ale_list.proofs.ListNames.{lists_fit}
use Rattle.ale_declaration.specs.Declarations.{DeclarationData}
use Rattle.ale_order.specs.Orders.{IsCyclic, IsOrder}
use Rattle.ale_vocabulary.specs.Vocabularies.{vocabulary_of}
use Rattle.ale_macro.specs.Templates.{MacroData}
use Rattle.ale_macro.specs.Calls.{BodiesKnown, calls_of, IsLibrary}
use Rattle.ale_macro.proofs.Ends.{ends_are_below}
use Rattle.ale_describe.specs.Known.{HasLists}
use Rattle.ale_describe.specs.Names.{NamesData}
use Rattle.ale_describe.specs.Macros.{names_of}
use Rattle.ale_describe.specs.Declaring.{AreKnownDeclarations}
use Rattle.ale_describe.specs.Laws.{FitsNames}
use Rattle.ale_describe.proofs.MacroLaws.{macros_law}
use Rattle.ale_naming.specs.Faults.{Fault, AreRight}
use Rattle.ale_naming.specs.Naming.{AreNamed, refused, named}
use Rattle.ale_naming.specs.Rounds.{round_two, nothing_earlier, first_cyclic}
use Rattle.ale_naming.specs.Laws.{NamesFit}
use Rattle.ale_naming.proofs.Cycles.{IsTheFirst, first_is, cyclic_below}
use Rattle.ale_naming.proofs.Ordering.{order_is}
use Rattle.ale_naming.proofs.Unknowing.{one_finds, all_mentions}
use Rattle.ale_naming.proofs.Answering.{finds_some}
use Rattle.ale_naming.proofs.Law.{two_is}
use Rattle.ale_naming.proofs.Libraries.{as_many, fits_names}

-- macros without cycles are a library
library_of : (ms : List MacroData) → BodiesKnown ms ms → ((m : ℕ) → IsCyclic (calls_of ms) m → ⊥) → (order : List ℕ) × IsOrder (calls_of ms) (length ms) order
library_of ms known free = order_is (calls_of ms) (length ms) (λ a b h. has_below (length ms) (calls_of ms) (a, b) (ends_are_below ms known) h) free

module _ (d : Declared) (ds : List DeclarationData) where
  abbrev macros : List MacroData
  macros = (names_of d ds).library.macros

  all_right : AreRight d ds → AreKnownDeclarations d (vocabulary_of ds) ds
  all_right all = all_mentions d (vocabulary_of ds) 1 ds ((one_finds d (vocabulary_of ds) 1 [] ds).none.1 all.known)

  none_cyclic : AreRight d ds → (m : ℕ) → IsCyclic (calls_of macros) m → ⊥
  none_cyclic all = go (first_cyclic macros) refl (first_is macros)
    where
      over : round_two (vocabulary_of ds) (first_cyclic macros) 1 nothing_earlier ds ≡ None
      over = (two_is d ds).none.1 all.placed

      go : (o : Option ℕ) → first_cyclic macros ≡ o → IsTheFirst (calls_of macros) o → (m : ℕ) → IsCyclic (calls_of macros) m → ⊥
      go None e first = first
      go (Some c) e first = λ m cyclic.
          let low : c < length macros = cyclic_below macros c first.cyclic in
          let count : length (vocabulary_of ds).macros ≡ length macros = as_many d ds (all_right all) in
          finds_some (vocabulary_of ds) c ds refl (omega arith) (subst (λ o. round_two (vocabulary_of ds) o 1 nothing_earlier ds ≡ None) e over)

  is_library : AreRight d ds → IsLibrary (names_of d ds).library
  is_library all =
      let known : BodiesKnown macros macros = (macros_law d ds (all_right all)).known in
      let order : (order : List ℕ) × IsOrder (calls_of macros) (length macros) order = library_of macros known (none_cyclic all) in
      record { known = known; order = order.0; in_order = order.1 }

  fit : IsLawful (hierarchy d) → (r : Result NamesData Fault) → AreNamed d ds r → (names : NamesData) → r ≡ Ok names → FitsNames d names
  fit lawful _ (refused f is) names e = absurd cc
  fit lawful _ (named all) names e =
      let same : names_of d ds ≡ names = cc in
      subst (FitsNames d) same (fits_names d ds lists (all_right all) (is_library all))
    where
      lists : HasLists d → FitLists (hierarchy d) (lists_or_none d)
      lists has = go (lists_in d) refl
        where
          go : (o : Option ListTypes) → lists_in d ≡ o → FitLists (hierarchy d) (lists_or_none d)
          go None q = absurd (missing (lists_in d) q has)
            where
              missing : (o : Option ListTypes) → o ≡ None → is_some o ≡ true → ⊥
              missing None e z = absurd cc
              missing (Some l) e z = absurd cc
          go (Some l) q = subst (λ o. FitLists (hierarchy d) (or_none o)) (sym q) (lists_fit d l lawful q)

pub names_fit : NamesFit
names_fit d ds names lawful is = fit d ds lawful (Ok names) is names refl
