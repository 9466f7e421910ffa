-- The macros of declarations all of whose mentions are known: there are as many as keys, and what names mean fits.
use Rattle.std.proofs.Common.{◌≡◌, ℕ, suc, List, [], ◌∷◌, length, refl, ap}
use Rattle.ale_declared.specs.Declarations.{Declared}
use Rattle.ale_hierarchy.specs.Order.{hierarchy}
use Rattle.ale_logic.specs.Fitting.{FitLists}
use Rattle.ale_list.specs.Lists.{lists_or_none}
use Rattle.ale_declaration.specs.Declarations.{DeclarationData}
use Rattle.ale_vocabulary.specs.Vocabularies.{vocabulary_of}
use Rattle.ale_macro.specs.Templates.{MacroData}
use Rattle.ale_macro.specs.Calls.{IsLibrary}
use Rattle.ale_describe.specs.Known.{HasLists}
use Rattle.ale_describe.specs.Names.{HaveKeys}
use Rattle.ale_describe.specs.Macros.{names_of}
use Rattle.ale_describe.specs.Declaring.{AreKnownDeclarations, MacrosFit}
use Rattle.ale_describe.specs.Laws.{FitsNames}
use Rattle.ale_describe.proofs.MacroLaws.{macros_law}

pub keys_count : (ks : List (List ℕ)) (ms : List MacroData) → HaveKeys ks ms → length ks ≡ length ms
keys_count [] [] h = refl
keys_count [] (m ∷ ms) h = absurd h
keys_count (k ∷ ks) [] h = absurd h
keys_count (k ∷ ks) (m ∷ ms) h = ap suc (keys_count ks ms h.1)

pub as_many : (d : Declared) (ds : List DeclarationData) → AreKnownDeclarations d (vocabulary_of ds) ds → length (vocabulary_of ds).macros ≡ length (names_of d ds).library.macros
as_many d ds known = keys_count (vocabulary_of ds).macros (names_of d ds).library.macros (macros_law d ds known).keys

pub fits_names : (d : Declared) (ds : List DeclarationData) → (HasLists d → FitLists (hierarchy d) (lists_or_none d)) → AreKnownDeclarations d (vocabulary_of ds) ds → IsLibrary (names_of d ds).library → FitsNames d (names_of d ds)
fits_names d ds lists known library = let fit : MacrosFit d ds = macros_law d ds known in record {
  library = library;
  keys = fit.keys;
  bodies = fit.fit (lists_or_none d) lists;
  lists = lists;
}
