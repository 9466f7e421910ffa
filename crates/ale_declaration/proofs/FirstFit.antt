-- The first form that fits is the first whose reader reads, and what is answered is what the function of declarations
-- gives.
use Rattle.std.proofs.Common.{◌≡◌, inl, inr, Option, Some, None, List, [], ◌∷◌, refl, sym, subst, ◌∙◌}
use Rattle.ale_term.specs.declared.lexeme.Lexeme.{Lexeme}
use Rattle.ale_term.proofs.Fronts.{choose_some}
use Rattle.ale_declaration.specs.declared.form.Form.{Form}
use Rattle.ale_declaration.specs.declared.form.Form.TheVariants.{Types, Extensional, Constraints, Macros, Clauses, Words, Empties, LexicalRules, Rules, Semantic}
use Rattle.ale_declaration.specs.Declarations.{DeclarationData}
use Rattle.ale_declaration.specs.Forms.{Fits, IsFirstFit, here, later}
use Rattle.ale_declaration.specs.Reading.{reading_of, first_of}
use Rattle.ale_declaration.proofs.TypesForm.{full_types, sound_types, full_extensional, sound_extensional}
use Rattle.ale_declaration.proofs.ClausesForm.{full_constraint, sound_constraint, full_macro, sound_macro, full_clause, sound_clause, full_word, sound_word, full_empty, sound_empty, full_semantics, sound_semantics}
use Rattle.ale_declaration.proofs.RulesForm.{full_lexical_rule, sound_lexical_rule, full_rule, sound_rule}

pub full_form : (f : Form) (ls : List Lexeme) (d : DeclarationData) → Fits f ls d → reading_of f ls ≡ Some d
unfolding reading_of
full_form Types ls d e = full_types ls d e
full_form Extensional ls d e = full_extensional ls d e
full_form Constraints ls d e = full_constraint ls d e
full_form Macros ls d e = full_macro ls d e
full_form Clauses ls d e = full_clause ls d e
full_form Words ls d e = full_word ls d e
full_form Empties ls d e = full_empty ls d e
full_form LexicalRules ls d e = full_lexical_rule ls d e
full_form Rules ls d e = full_rule ls d e
full_form Semantic ls d e = full_semantics ls d e

pub sound_form : (f : Form) (ls : List Lexeme) (d : DeclarationData) → reading_of f ls ≡ Some d → Fits f ls d
unfolding reading_of
sound_form Types ls d e = sound_types ls d e
sound_form Extensional ls d e = sound_extensional ls d e
sound_form Constraints ls d e = sound_constraint ls d e
sound_form Macros ls d e = sound_macro ls d e
sound_form Clauses ls d e = sound_clause ls d e
sound_form Words ls d e = sound_word ls d e
sound_form Empties ls d e = sound_empty ls d e
sound_form LexicalRules ls d e = sound_lexical_rule ls d e
sound_form Rules ls d e = sound_rule ls d e
sound_form Semantic ls d e = sound_semantics ls d e

-- where the reader of a form reads nothing, the form fits nothing
fits_none : (f : Form) (ls : List Lexeme) (o : Option DeclarationData) → reading_of f ls ≡ o → ((d : DeclarationData) → Fits f ls d → ⊥) → o ≡ None
fits_none f ls None e none = refl
fits_none f ls (Some d) e none = absurd (none d (sound_form f ls d e))

none_fits : (f : Form) (ls : List Lexeme) → reading_of f ls ≡ None → (d : DeclarationData) → Fits f ls d → ⊥
none_fits f ls e d fit = let q : None ≡ Some d = sym e ∙ full_form f ls d fit in cc

pub first_fits : (fs : List Form) (ls : List Lexeme) (d : DeclarationData) → IsFirstFit fs ls d → first_of fs ls ≡ Some d
first_fits _ ls d (here f fs _ _ fit) = rw (full_form f ls d fit) refl
first_fits _ ls d (later f fs _ _ none first) =
    rw (fits_none f ls (reading_of f ls) refl none) (first_fits fs ls d first)

pub fits_first : (fs : List Form) (ls : List Lexeme) (d : DeclarationData) → first_of fs ls ≡ Some d → IsFirstFit fs ls d
fits_first [] ls d e = cc
fits_first (f ∷ fs) ls d e =
    elim (choose_some (reading_of f ls) (first_of fs ls) (λ x. Some x) d e) [
      | inl h ↦ later f fs ls d (none_fits f ls (h.0)) (fits_first fs ls d (h.1))
      | inr h ↦
          let q : h.0 ≡ d = cc (h.2) in
          subst (IsFirstFit (f ∷ fs) ls) q (here f fs ls (h.0) (sound_form f ls (h.0) (h.1)))
    ]
