-- Descriptions and macros that are built have no inequation.
use Rattle.std.proofs.Common.{◌≡◌, ℕ, suc, Bool, true, false, Some, None, List, [], ◌∷◌, ◌++◌, length, refl}
use Rattle.std.specs.Prelude.{◌&&◌, if◌then◌else◌}
use Rattle.ale_declared.specs.Declarations.{Declared}
use Rattle.ale_declared.specs.Names.{is_named}
use Rattle.ale_term.specs.Terms as term
use Rattle.ale_term.specs.Terms.{TermData, TermsData}
use Rattle.ale_declaration.specs.Declarations.{DeclarationData, signature, constraint, macro, clause, word, empty, lex_rule, rule, semantics, lex_depth, chain_length, passed_over}
use Rattle.ale_stage.specs.Stages.{stage, since, is_built, are_built, declaration_is_built}
use Rattle.ale_vocabulary.specs.Keys.{key}
use Rattle.ale_vocabulary.specs.Vocabularies.{VocabularyData}
use Rattle.ale_macro.specs.Templates.{MacroData}
use Rattle.ale_macro.specs.Calls.{IsPlainTemplate, BodiesArePlain}
use Rattle.ale_describe.specs.Macros.{macro_of, unless_named, macros_after}
use Rattle.ale_describe.specs.Plain.{IsPlainTerm, ArePlainTerms}
use Rattle.ale_describe.proofs.PlainDescriptions.{plain_template}
use Rattle.ale_load.specs.Reading.{first_without}

pub both_of : (a b : Bool) → (a && b) ≡ true → (a ≡ true) × (b ≡ true)
both_of true b h = (refl, h)
both_of false b h = absurd cc

never_true : false ≡ true → ⊥
never_true h = absurd cc

-- inequations are built at a later stage
no_inequation_yet : since 6 ≡ true → ⊥
unfolding stage
no_inequation_yet h = never_true h

mutual
  pub plain_term : (t : TermData) → is_built t ≡ true → IsPlainTerm t
  plain_term (term.name n) h = tt
  plain_term (term.slot x) h = tt
  plain_term (term.at f t) h = plain_term t (both_of (is_built t) (since 2) h).0
  plain_term (term.all ts) h = plain_terms ts (both_of (are_built ts) (since 2) h).0
  plain_term (term.any ts) h = plain_terms ts (both_of (are_built ts) (since 2) h).0
  plain_term (term.differs t) h = no_inequation_yet (both_of (is_built t) (since 6) h).1
  plain_term (term.meet p q) h = tt
  plain_term (term.macro m ts) h = plain_terms ts (both_of (are_built ts) (since 4) h).0
  plain_term (term.list ts) h = plain_terms ts (both_of (are_built ts) (since 4) h).0
  plain_term (term.list_with ts t) h =
      let b = both_of (are_built ts && is_built t) (since 4) h in
      let c = both_of (are_built ts) (is_built t) b.0 in
      (plain_terms ts c.0, plain_term t c.1)

  pub plain_terms : (ts : TermsData) → are_built ts ≡ true → ArePlainTerms ts
  plain_terms term.none h = tt
  plain_terms (term.more t ts) h = let b = both_of (is_built t) (are_built ts) h in (plain_term t b.0, plain_terms ts b.1)

-- the first is, and so are all others
pub all_with : {A : Type 0} (test : A → Bool) (k : ℕ) (x : A) (xs : List A) → first_without test k (x ∷ xs) ≡ None → (test x ≡ true) × (first_without test (suc k) xs ≡ None)
all_with test k x xs h = go (test x) refl h
  where
    go : (b : Bool) → test x ≡ b → (if b then first_without test (suc k) xs else Some k) ≡ None → (test x ≡ true) × (first_without test (suc k) xs ≡ None)
    go true e h = (e, h)
    go false e h = absurd cc

plain_unless : (k : List ℕ) (seen : List (List ℕ)) (x : MacroData) (xs : List MacroData) → IsPlainTemplate x.body → BodiesArePlain xs → BodiesArePlain (unless_named k seen (x ∷ []) ++ xs)
plain_unless k seen x xs first others = go (is_named k seen)
  where
    chosen : Bool → List MacroData
    chosen b = if b then [] else x ∷ []

    go : (b : Bool) → BodiesArePlain (chosen b ++ xs)
    go true = others
    go false = (first, others)

-- the macros of declarations that are built
pub plain_macros : (d : Declared) (v : VocabularyData) (seen : List (List ℕ)) (k : ℕ) (ds : List DeclarationData) → first_without declaration_is_built k ds ≡ None → BodiesArePlain (macros_after d v seen ds)
plain_macros d v seen k [] h = tt
plain_macros d v seen k (macro m ps t ∷ ds) h =
    let a = all_with declaration_is_built k (macro m ps t) ds h in
    plain_unless (key m (length ps)) seen (macro_of d v ps t) (macros_after d v (seen ++ key m (length ps) ∷ []) ds)
    (plain_template d v ps t (plain_term t (both_of (is_built t) (since 4) a.0).0))
    (plain_macros d v (seen ++ key m (length ps) ∷ []) (suc k) ds a.1)
plain_macros d v seen k (signature s ∷ ds) h = plain_macros d v seen (suc k) ds (all_with declaration_is_built k (signature s) ds h).1
plain_macros d v seen k (constraint n t g ∷ ds) h = plain_macros d v seen (suc k) ds (all_with declaration_is_built k (constraint n t g) ds h).1
plain_macros d v seen k (clause p ts g ∷ ds) h = plain_macros d v seen (suc k) ds (all_with declaration_is_built k (clause p ts g) ds h).1
plain_macros d v seen k (word w t ∷ ds) h = plain_macros d v seen (suc k) ds (all_with declaration_is_built k (word w t) ds h).1
plain_macros d v seen k (empty t ∷ ds) h = plain_macros d v seen (suc k) ds (all_with declaration_is_built k (empty t) ds h).1
plain_macros d v seen k (lex_rule n t u g ls ∷ ds) h = plain_macros d v seen (suc k) ds (all_with declaration_is_built k (lex_rule n t u g ls) ds h).1
plain_macros d v seen k (rule n t es ∷ ds) h = plain_macros d v seen (suc k) ds (all_with declaration_is_built k (rule n t es) ds h).1
plain_macros d v seen k (semantics p ∷ ds) h = plain_macros d v seen (suc k) ds (all_with declaration_is_built k (semantics p) ds h).1
plain_macros d v seen k (lex_depth n ∷ ds) h = plain_macros d v seen (suc k) ds (all_with declaration_is_built k (lex_depth n) ds h).1
plain_macros d v seen k (chain_length n ∷ ds) h = plain_macros d v seen (suc k) ds (all_with declaration_is_built k (chain_length n) ds h).1
plain_macros d v seen k (passed_over n ∷ ds) h = plain_macros d v seen (suc k) ds (all_with declaration_is_built k (passed_over n) ds h).1
