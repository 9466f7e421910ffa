-- Macros that stand for one of their parameters and nothing else, also by calls of such macros.
-- Source: this project's own.
use Rattle.std.specs.Prelude.{◌≡◌, ℕ, zero, suc, nat_lt, if◌then◌else◌, Option, Some, None, List, get_or}
use Rattle.ale_macro.specs.Templates.{TemplateData, TemplatesData, MacroData, macro_at, of_type, variable, at, all, any, differs, path_equation, call, cells, none, more}

-- the parameter for which a template with so many of them stands, by what the macros that it calls stand for
abbrev mutual
  pub projected : (ℕ → Option ℕ) → ℕ → TemplateData → Option ℕ
  projected known n (of_type t) = None
  projected known n (variable v) = if nat_lt v n then Some v else None
  projected known n (at f t) = None
  projected known n (all ts) = None
  projected known n (any ts) = None
  projected known n (differs t) = None
  projected known n (path_equation p q) = None
  projected known n (call k m ts) = projected_arg known n ts (known m)
  projected known n (cells ts t) = None

  -- of the argument at this place
  pub projected_arg : (ℕ → Option ℕ) → ℕ → TemplatesData → Option ℕ → Option ℕ
  projected_arg known n none place = None
  projected_arg known n (more t ts) None = None
  projected_arg known n (more t ts) (Some zero) = projected known n t
  projected_arg known n (more t ts) (Some (suc j)) = projected_arg known n ts (Some j)

-- an entry of a table
abbrev pub entry : Option (Option ℕ) → Option ℕ
entry None = None
entry (Some o) = o

abbrev pub entry_at : List (Option (Option ℕ)) → ℕ → Option ℕ
entry_at table m = entry (get_or table m None)

-- what a table's entry for a macro is
abbrev pub IsEntry : List MacroData → ℕ → List (Option (Option ℕ)) → Option ℕ → Type 0
IsEntry ms m table e = e ≡ projected (entry_at table) (macro_at ms m).parameters (macro_at ms m).body
