-- What names mean, and scopes, have codes, since what they are made of has. Source: this project's own.
use Rattle.std.specs.Prelude.{ℕ, refl, List}
use Rattle.std.specs.Coded.{Coded, code_by, coded×, coded_ℕ, coded_list}
use Rattle.ale_vocabulary.specs.Vocabularies.{VocabularyData}
use Rattle.ale_macro.specs.Codes.{library_code}
use Rattle.ale_macro.specs.Expanding.{LibraryData}
use Rattle.ale_macro.specs.Expansions.{Origin}
use Rattle.ale_describe.specs.Names.{NamesData}
use Rattle.ale_describe.specs.Scopes.{ScopeData}

abbrev pub texts_code : Coded (List (List ℕ))
texts_code = coded_list (coded_list coded_ℕ)

abbrev pub vocabulary_code : Coded VocabularyData
vocabulary_code =
    code_by (List (List ℕ) × List (List ℕ)) (coded× texts_code texts_code) (λ v. (v.macros, v.predicates)) (λ p. record { macros = p.0; predicates = p.1 }) (λ _. refl)

abbrev pub names_code : Coded NamesData
names_code =
    code_by (VocabularyData × LibraryData) (coded× vocabulary_code library_code) (λ n. (n.vocabulary, n.library)) (λ p. record { vocabulary = p.0; library = p.1 }) (λ _. refl)

abbrev pub scope_code : Coded ScopeData
scope_code =
    code_by (List (List ℕ) × List Origin) (coded× texts_code (coded_list (coded× (coded_list coded_ℕ) coded_ℕ))) (λ s. (s.written, s.slots)) (λ p. record { written = p.0; slots = p.1 }) (λ _. refl)
