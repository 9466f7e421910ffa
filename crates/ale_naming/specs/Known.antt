-- Declarations all of whose mentions are known, part by part. Source: this project's own.
use Rattle.std.specs.Prelude.{Option, Some, None, List, [], ◌∷◌}
use Rattle.ale_declared.specs.Declarations.{Declared}
use Rattle.ale_term.specs.Terms.{TermData}
use Rattle.ale_term.specs.Goals.{GoalData}
use Rattle.ale_declaration.specs.Declarations.{DeclarationData, signature, constraint, macro, clause, word, empty, lex_rule, rule, semantics, lex_depth, chain_length, passed_over, Element, daughter, daughters, condition, head}
use Rattle.ale_vocabulary.specs.First.{AllRight}
use Rattle.ale_vocabulary.specs.Vocabularies.{VocabularyData}
use Rattle.ale_vocabulary.specs.Mentions.{mentions, mentions_of_goal}
use Rattle.ale_vocabulary.specs.Knowing.{IsUnknown}

abbrev pub AreKnown : Declared → VocabularyData → List TermData → Type 0
AreKnown d v [] = Unit {0}
AreKnown d v (t ∷ ts) = AllRight (IsUnknown d v) (mentions t) × AreKnown d v ts

abbrev pub IsKnownSome : Declared → VocabularyData → Option GoalData → Type 0
IsKnownSome d v None = Unit {0}
IsKnownSome d v (Some g) = AllRight (IsUnknown d v) (mentions_of_goal g)

abbrev pub IsKnownElement : Declared → VocabularyData → Element → Type 0
IsKnownElement d v (daughter t) = AllRight (IsUnknown d v) (mentions t)
IsKnownElement d v (daughters t) = AllRight (IsUnknown d v) (mentions t)
IsKnownElement d v (condition g) = AllRight (IsUnknown d v) (mentions_of_goal g)
IsKnownElement d v (head t) = AllRight (IsUnknown d v) (mentions t)

abbrev pub AreKnownElements : Declared → VocabularyData → List Element → Type 0
AreKnownElements d v [] = Unit {0}
AreKnownElements d v (e ∷ es) = IsKnownElement d v e × AreKnownElements d v es

abbrev pub HasKnownParts : Declared → VocabularyData → DeclarationData → Type 0
HasKnownParts d v (signature s) = Unit {0}
HasKnownParts d v (constraint n t g) = AreKnown d v (t ∷ []) × IsKnownSome d v g
HasKnownParts d v (macro m ps t) = AreKnown d v (t ∷ [])
HasKnownParts d v (clause p ts g) = AreKnown d v ts × IsKnownSome d v (Some g)
HasKnownParts d v (word w t) = AreKnown d v (t ∷ [])
HasKnownParts d v (empty t) = AreKnown d v (t ∷ [])
HasKnownParts d v (lex_rule n t u g ls) = AreKnown d v (t ∷ []) × AreKnown d v (u ∷ []) × IsKnownSome d v g
HasKnownParts d v (rule n t es) = AreKnown d v (t ∷ []) × AreKnownElements d v es
HasKnownParts d v (semantics p) = Unit {0}
HasKnownParts d v (lex_depth n) = Unit {0}
HasKnownParts d v (chain_length n) = Unit {0}
HasKnownParts d v (passed_over n) = Unit {0}

abbrev pub HaveKnownParts : Declared → VocabularyData → List DeclarationData → Type 0
HaveKnownParts d v [] = Unit {0}
HaveKnownParts d v (x ∷ xs) = HasKnownParts d v x × HaveKnownParts d v xs
