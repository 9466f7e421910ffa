-- Descriptions whose names were looked up, as plain data. Their macro calls and lists still stand.
-- Source of the forms: macros and lists in the ALE 3.2 User's Guide.
use Rattle.std.specs.Prelude.{ℕ, suc, List, [], ◌∷◌, get_or}
use Rattle.ale_macro.specs.declared.template.Template.{Template, fold-Template}
use Rattle.ale_macro.specs.declared.template.Template.TheOpen.{Template-F}
use Rattle.ale_macro.specs.declared.macros.Macro.{Macro}

-- A variable has a number in its scope, which is the declaration in which it is written; those of a macro's
-- parameters come first. A call has such a number too, before the number of its macro. A list has what follows its members.
mutual
  pub data TemplateData : Type 0 where
    of_type : ℕ → TemplateData
    variable : ℕ → TemplateData
    at : ℕ → TemplateData → TemplateData
    all : TemplatesData → TemplateData
    any : TemplatesData → TemplateData
    differs : TemplateData → TemplateData
    path_equation : List ℕ → List ℕ → TemplateData
    call : ℕ → ℕ → TemplatesData → TemplateData
    cells : TemplatesData → TemplateData → TemplateData

  pub data TemplatesData : Type 0 where
    none : TemplatesData
    more : TemplateData → TemplatesData → TemplatesData

abbrev pub templates_of : List TemplateData → TemplatesData
templates_of [] = none
templates_of (t ∷ ts) = more t (templates_of ts)

abbrev pub how_many : TemplatesData → ℕ
how_many none = 0
how_many (more t ts) = suc (how_many ts)

abbrev pub template_step : Template-F TemplateData → TemplateData
template_step (Template-F.OfType t) = of_type t
template_step (Template-F.Variable v) = variable v
template_step (Template-F.At f t) = at f t
template_step (Template-F.All ts) = all (templates_of ts)
template_step (Template-F.Any ts) = any (templates_of ts)
template_step (Template-F.Differs t) = differs t
template_step (Template-F.Meet p q) = path_equation p q
template_step (Template-F.Call k m ts) = call k m (templates_of ts)
template_step (Template-F.Cells ts t) = cells (templates_of ts) t

-- the plain data of a template of the program
abbrev pub template_data : Template → TemplateData
template_data = fold-Template TemplateData template_step

-- what a macro's calls are replaced by: its parameters are the first variables of its body
pub record MacroData : Type 0 where
  pub parameters : ℕ
  pub body : TemplateData

abbrev pub no_macro : MacroData
no_macro = record { parameters = 0; body = of_type 0 }

-- the macro with this number
abbrev pub macro_at : List MacroData → ℕ → MacroData
macro_at ms m = get_or ms m no_macro

-- the plain data of a macro of the program
abbrev pub macro_data : Macro → MacroData
macro_data m = record { parameters = m.parameters; body = template_data m.body }
