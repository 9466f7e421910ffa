-- What a template stands for: each macro call is replaced by the macro's body with the arguments put in, and each list by its
-- cells. Source: macros and lists in the ALE 3.2 User's Guide; that a macro's own variables are fresh for each call, and that a
-- variable in an argument is one wherever the call puts it, is this project's own profile.
use Rattle.std.specs.Prelude.{◌≡◌, ℕ, zero, suc, ◌<◌, List, [], ◌∷◌, get_or, length}
use Rattle.ale_logic.specs.Programs.{ListTypes}
use Rattle.ale_macro.specs.Templates as template
use Rattle.ale_macro.specs.Templates.{TemplateData, TemplatesData, MacroData, macro_at}
use Rattle.ale_macro.specs.Expansions.{Expansion, of_type, variable, at, all, any, differs, path_equation, expansions_of}

-- the list of these members, and then this
abbrev pub list_of : ListTypes → List Expansion → Expansion → Expansion
list_of l [] end = end
list_of l (e ∷ es) end = all (expansions_of (of_type l.ne_list ∷ at l.hd e ∷ at l.tl (list_of l es end) ∷ []))

-- what a call stands for, by the macro's number, the calls that lead into its body, and the arguments
abbrev pub Meaning : Type 0
Meaning = ℕ → List ℕ → List Expansion → Expansion

-- what a template stands for in a scope to which these calls lead, with these arguments for its first variables
abbrev mutual
  pub expanded : ListTypes → Meaning → List ℕ → List Expansion → TemplateData → Expansion
  expanded l calls path args (template.of_type t) = of_type t
  expanded l calls path args (template.variable v) = get_or args v (variable (path, v))
  expanded l calls path args (template.at f t) = at f (expanded l calls path args t)
  expanded l calls path args (template.all ts) = all (expansions_of (all_expanded l calls path args ts))
  expanded l calls path args (template.any ts) = any (expansions_of (all_expanded l calls path args ts))
  expanded l calls path args (template.differs t) = differs (expanded l calls path args t)
  expanded l calls path args (template.path_equation p q) = path_equation p q
  expanded l calls path args (template.call k m ts) = calls m (k ∷ path) (all_expanded l calls path args ts)
  expanded l calls path args (template.cells ts t) = list_of l (all_expanded l calls path args ts) (expanded l calls path args t)

  pub all_expanded : ListTypes → Meaning → List ℕ → List Expansion → TemplatesData → List Expansion
  all_expanded l calls path args template.none = []
  all_expanded l calls path args (template.more t ts) = expanded l calls path args t ∷ all_expanded l calls path args ts

-- what a call stands for where at most so many calls lead on from one to the next
abbrev pub called : ListTypes → List MacroData → ℕ → Meaning
called l ms zero m path args = of_type 0
called l ms (suc n) m path args = expanded l (called l ms n) path args (macro_at ms m).body

-- no macro leads back to itself, so no more calls lead on than there are macros
abbrev pub meaning : ListTypes → List MacroData → Meaning
meaning l ms = called l ms (length ms)

-- macros by their numbers, and the types of lists
pub record LibraryData : Type 0 where
  pub lists : ListTypes
  pub macros : List MacroData

-- what a template of a declaration that is no macro stands for
abbrev pub expansion : LibraryData → TemplateData → Expansion
expansion library t = expanded library.lists (meaning library.lists library.macros) [] [] t

-- each call of the macro stands for this one of its arguments
pub record IsProjection (library : LibraryData) (m j : ℕ) : Type 0 where
  pub within : j < (macro_at library.macros m).parameters
  pub same : (path : List ℕ) (args : List Expansion) (other : Expansion) → length args ≡ (macro_at library.macros m).parameters → meaning library.lists library.macros m path args ≡ get_or args j other
