-- Templates, macros and libraries as plain data go one to one with values of the program, so they have codes.
-- Source: this project's own.
use Rattle.std.specs.Prelude.{◌≡◌, ℕ, refl, List, [], ◌∷◌, map}
use Rattle.std.proofs.Common.{sym, ap, ◌∙◌}
use Rattle.std.specs.Coded.{Coded, code_by, coded×, coded_ℕ, coded_list}
use Rattle.ale_logic.specs.Programs.{ListTypes}
use Rattle.ale_macro.specs.declared.template.Template.{Template, fold-roll-Template}
use Rattle.ale_macro.specs.declared.template.Template.TheOpen.{Template-F}
use Rattle.ale_macro.specs.declared.template.Template.TheVariants as of
use Rattle.ale_macro.specs.contracts.template.Template as stored
use Rattle.ale_macro.specs.Templates.{TemplateData, TemplatesData, MacroData, of_type, variable, at, all, any, differs, path_equation, call, cells, none, more, templates_of, template_step, template_data}
use Rattle.ale_macro.specs.Expanding.{LibraryData}

-- the plain data of each kind of template
pub data_type : (t : ℕ) → template_data (of.OfType t) ≡ of_type t
data_type t = ap template_data (sym (of.rolls-OfType t)) ∙ fold-roll-Template TemplateData template_step (Template-F.OfType t)

pub data_variable : (v : ℕ) → template_data (of.Variable v) ≡ variable v
data_variable v = ap template_data (sym (of.rolls-Variable v)) ∙ fold-roll-Template TemplateData template_step (Template-F.Variable v)

pub data_at : (f : ℕ) (t : Template) → template_data (of.At f t) ≡ at f (template_data t)
data_at f t = ap template_data (sym (of.rolls-At f t)) ∙ fold-roll-Template TemplateData template_step (Template-F.At f t)

pub data_all : (ts : List Template) → template_data (of.All ts) ≡ all (templates_of (map template_data ts))
data_all ts = ap template_data (sym (of.rolls-All ts)) ∙ fold-roll-Template TemplateData template_step (Template-F.All ts)

pub data_any : (ts : List Template) → template_data (of.Any ts) ≡ any (templates_of (map template_data ts))
data_any ts = ap template_data (sym (of.rolls-Any ts)) ∙ fold-roll-Template TemplateData template_step (Template-F.Any ts)

pub data_differs : (t : Template) → template_data (of.Differs t) ≡ differs (template_data t)
data_differs t = ap template_data (sym (of.rolls-Differs t)) ∙ fold-roll-Template TemplateData template_step (Template-F.Differs t)

pub data_meet : (p q : List ℕ) → template_data (of.Meet p q) ≡ path_equation p q
data_meet p q = ap template_data (sym (of.rolls-Meet p q)) ∙ fold-roll-Template TemplateData template_step (Template-F.Meet p q)

pub data_call : (k m : ℕ) (ts : List Template) → template_data (of.Call k m ts) ≡ call k m (templates_of (map template_data ts))
data_call k m ts = ap template_data (sym (of.rolls-Call k m ts)) ∙ fold-roll-Template TemplateData template_step (Template-F.Call k m ts)

pub data_cells : (ts : List Template) (t : Template) → template_data (of.Cells ts t) ≡ cells (templates_of (map template_data ts)) (template_data t)
data_cells ts t = ap template_data (sym (of.rolls-Cells ts t)) ∙ fold-roll-Template TemplateData template_step (Template-F.Cells ts t)

-- the template of the program with this plain data
abbrev mutual
  pub template_of : TemplateData → Template
  template_of (of_type t) = of.OfType t
  template_of (variable v) = of.Variable v
  template_of (at f t) = of.At f (template_of t)
  template_of (all ts) = of.All (list_of ts)
  template_of (any ts) = of.Any (list_of ts)
  template_of (differs t) = of.Differs (template_of t)
  template_of (path_equation p q) = of.Meet p q
  template_of (call k m ts) = of.Call k m (list_of ts)
  template_of (cells ts t) = of.Cells (list_of ts) (template_of t)

  pub list_of : TemplatesData → List Template
  list_of none = []
  list_of (more t ts) = template_of t ∷ list_of ts

mutual
  pub same_template : (t : TemplateData) → template_data (template_of t) ≡ t
  same_template (of_type t) = data_type t
  same_template (variable v) = data_variable v
  same_template (at f t) = data_at f (template_of t) ∙ ap (at f) (same_template t)
  same_template (all ts) = data_all (list_of ts) ∙ ap all (same_list ts)
  same_template (any ts) = data_any (list_of ts) ∙ ap any (same_list ts)
  same_template (differs t) = data_differs (template_of t) ∙ ap differs (same_template t)
  same_template (path_equation p q) = data_meet p q
  same_template (call k m ts) = data_call k m (list_of ts) ∙ ap (call k m) (same_list ts)
  same_template (cells ts t) =
      data_cells (list_of ts) (template_of t) ∙ (ap (λ xs. cells xs (template_data (template_of t))) (same_list ts) ∙ ap (cells ts) (same_template t))

  pub same_list : (ts : TemplatesData) → templates_of (map template_data (list_of ts)) ≡ ts
  same_list none = refl
  same_list (more t ts) =
      ap (λ x. more x (templates_of (map template_data (list_of ts)))) (same_template t) ∙ ap (more t) (same_list ts)

abbrev pub template_code : Coded TemplateData
template_code = code_by Template stored.the_row.coded template_of template_data same_template

abbrev pub macro_code : Coded MacroData
macro_code =
    code_by (ℕ × TemplateData) (coded× coded_ℕ template_code) (λ m. (m.parameters, m.body)) (λ p. record { parameters = p.0; body = p.1 }) (λ _. refl)

abbrev pub lists_code : Coded ListTypes
lists_code =
    code_by (ℕ × (ℕ × (ℕ × ℕ))) (coded× coded_ℕ (coded× coded_ℕ (coded× coded_ℕ coded_ℕ)))
    (λ l. (l.e_list, (l.ne_list, (l.hd, l.tl)))) (λ p. record { e_list = p.0; ne_list = p.1.0; hd = p.1.1.0; tl = p.1.1.1 }) (λ _. refl)

abbrev pub library_code : Coded LibraryData
library_code =
    code_by (ListTypes × List MacroData) (coded× lists_code (coded_list macro_code)) (λ l. (l.lists, l.macros)) (λ p. record { lists = p.0; macros = p.1 }) (λ _. refl)
