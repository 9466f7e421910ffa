-- The template that a written description is: its names are looked up among the declared types, features and macros, and its
-- variables and macro calls have numbers in the scope of their declaration, in order of first occurrence from left to right.
-- Source: the description language, Carpenter 1992, chapter 4, and macros and lists in the ALE 3.2 User's Guide.
use Rattle.std.specs.Prelude.{ℕ, List, [], ◌∷◌, ◌++◌, map, length, codes}
use Rattle.ale_declared.specs.Declarations.{Declared}
use Rattle.ale_declared.specs.Names.{number}
use Rattle.ale_term.specs.Terms as term
use Rattle.ale_term.specs.Terms.{TermData, TermsData}
use Rattle.ale_vocabulary.specs.Keys.{key}
use Rattle.ale_vocabulary.specs.Mentions.{how_many}
use Rattle.ale_vocabulary.specs.Vocabularies.{VocabularyData}
use Rattle.ale_macro.specs.Templates.{TemplateData, TemplatesData, of_type, variable, at, all, any, differs, path_equation, call, cells, none, more}
use Rattle.ale_describe.specs.Variables.{anonymous, slot_of, with_variable}

abbrev pub e_list : Declared → ℕ
e_list d = number d.types (codes "e_list")

abbrev pub path_of : Declared → List (List ℕ) → List ℕ
path_of d fs = map (number d.features) fs

-- The scope's variables before it are vs. A call takes a number as a variable `_` does; a list without a rest ends in the
-- empty list.
abbrev mutual
  pub templated : Declared → VocabularyData → List (List ℕ) → TermData → TemplateData × List (List ℕ)
  templated d v vs (term.name n) = (of_type (number d.types n), vs)
  templated d v vs (term.slot x) = (variable (slot_of vs x), with_variable vs x)
  templated d v vs (term.at f t) = (at (number d.features f) (templated d v vs t).0, (templated d v vs t).1)
  templated d v vs (term.all ts) = (all (all_templated d v vs ts).0, (all_templated d v vs ts).1)
  templated d v vs (term.any ts) = (any (all_templated d v vs ts).0, (all_templated d v vs ts).1)
  templated d v vs (term.differs t) = (differs (templated d v vs t).0, (templated d v vs t).1)
  templated d v vs (term.meet p q) = (path_equation (path_of d p) (path_of d q), vs)
  templated d v vs (term.macro m ts) = (
    call (length vs) (number v.macros (key m (how_many ts))) (all_templated d v (vs ++ anonymous ∷ []) ts).0,
    (all_templated d v (vs ++ anonymous ∷ []) ts).1,
  )
  templated d v vs (term.list ts) = (cells (all_templated d v vs ts).0 (of_type (e_list d)), (all_templated d v vs ts).1)
  templated d v vs (term.list_with ts t) =
      (cells (all_templated d v vs ts).0 (templated d v (all_templated d v vs ts).1 t).0, (templated d v (all_templated d v vs ts).1 t).1)

  pub all_templated : Declared → VocabularyData → List (List ℕ) → TermsData → TemplatesData × List (List ℕ)
  all_templated d v vs term.none = (none, vs)
  all_templated d v vs (term.more t ts) =
      (more (templated d v vs t).0 (all_templated d v (templated d v vs t).1 ts).0, (all_templated d v (templated d v vs t).1 ts).1)
