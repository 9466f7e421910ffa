-- Descriptions as they are written, as plain data; and the conjunction and the disjunction of several.
-- Source of the forms: the description language of the ALE 3.2 User's Guide.
use Rattle.std.specs.Prelude.{ℕ, Option, Some, None, List, [], ◌∷◌}
use Rattle.ale_term.specs.declared.term.Term.{Term, fold-Term}
use Rattle.ale_term.specs.declared.term.Term.TheOpen.{Term-F}

-- names are lists of characters, and paths are lists of names
mutual
  pub data TermData : Type 0 where
    name : List ℕ → TermData
    slot : List ℕ → TermData
    at : List ℕ → TermData → TermData
    all : TermsData → TermData
    any : TermsData → TermData
    differs : TermData → TermData
    meet : List (List ℕ) → List (List ℕ) → TermData
    macro : List ℕ → TermsData → TermData
    list : TermsData → TermData
    list_with : TermsData → TermData → TermData

  pub data TermsData : Type 0 where
    none : TermsData
    more : TermData → TermsData → TermsData

abbrev pub terms_of : List TermData → TermsData
terms_of [] = none
terms_of (t ∷ ts) = more t (terms_of ts)

-- a list of these, and the rest where there is one
abbrev pub list_of : TermsData → Option TermData → TermData
list_of ts None = list ts
list_of ts (Some t) = list_with ts t

abbrev pub term_step : Term-F TermData → TermData
term_step (Term-F.Name n) = name n
term_step (Term-F.Slot n) = slot n
term_step (Term-F.At f t) = at f t
term_step (Term-F.All ts) = all (terms_of ts)
term_step (Term-F.Any ts) = any (terms_of ts)
term_step (Term-F.Differs t) = differs t
term_step (Term-F.Meet p q) = meet p q
term_step (Term-F.Macro n ts) = macro n (terms_of ts)
term_step (Term-F.List ts t) = list_of (terms_of ts) t

-- the plain data of a description of the program
abbrev pub term_data : Term → TermData
term_data = fold-Term TermData term_step

-- several descriptions that all hold; a single one is nothing of its own
abbrev pub all_of : List TermData → TermData
all_of [] = all none
all_of (t ∷ []) = t
all_of (t ∷ u ∷ us) = all (terms_of (t ∷ u ∷ us))

-- several descriptions of which one holds; a single one is nothing of its own
abbrev pub any_of : List TermData → TermData
any_of [] = any none
any_of (t ∷ []) = t
any_of (t ∷ u ∷ us) = any (terms_of (t ∷ u ∷ us))
