-- Which macros are called in the bodies of macros, and what is asked of a library: each call is of a macro that is there, with
-- an argument for each parameter, and no macro leads back to itself.
-- Source: macros in the ALE 3.2 User's Guide.
use Rattle.std.specs.Prelude.{◌≡◌, ℕ, suc, ◌<◌, List, [], ◌∷◌, ◌++◌, length}
use Rattle.ale_order.specs.Orders.{IsOrder}
use Rattle.ale_hierarchy.specs.Hierarchy.{Hierarchy}
use Rattle.ale_logic.specs.Descriptions.{FitsPath}
use Rattle.ale_logic.specs.Fitting.{FitLists}
use Rattle.ale_logic.specs.Programs.{ListTypes}
use Rattle.ale_macro.specs.Templates.{TemplateData, TemplatesData, MacroData, macro_at, how_many, of_type, variable, at, all, any, differs, path_equation, call, cells, none, more}
use Rattle.ale_macro.specs.Expanding.{LibraryData}

-- the macros called in a template, also in arguments that the called macro drops
abbrev mutual
  pub calls_in : TemplateData → List ℕ
  calls_in (of_type t) = []
  calls_in (variable v) = []
  calls_in (at f t) = calls_in t
  calls_in (all ts) = calls_in_all ts
  calls_in (any ts) = calls_in_all ts
  calls_in (differs t) = calls_in t
  calls_in (path_equation p q) = []
  calls_in (call k m ts) = m ∷ calls_in_all ts
  calls_in (cells ts t) = calls_in_all ts ++ calls_in t

  pub calls_in_all : TemplatesData → List ℕ
  calls_in_all none = []
  calls_in_all (more t ts) = calls_in t ++ calls_in_all ts

-- the pairs of a number and each of these
abbrev pub pairs : ℕ → List ℕ → List (ℕ × ℕ)
pairs m [] = []
pairs m (k ∷ ks) = (m, k) ∷ pairs m ks

-- the pairs of a macro and one that is called in its body, of the macros from a number on
abbrev pub calls_from : ℕ → List MacroData → List (ℕ × ℕ)
calls_from m [] = []
calls_from m (x ∷ xs) = pairs m (calls_in x.body) ++ calls_from (suc m) xs

abbrev pub calls_of : List MacroData → List (ℕ × ℕ)
calls_of ms = calls_from 0 ms

-- each call in it is of one of these macros, with an argument for each parameter
abbrev mutual
  pub CallsKnown : List MacroData → TemplateData → Type 0
  CallsKnown ms (of_type t) = Unit {0}
  CallsKnown ms (variable v) = Unit {0}
  CallsKnown ms (at f t) = CallsKnown ms t
  CallsKnown ms (all ts) = AllCallsKnown ms ts
  CallsKnown ms (any ts) = AllCallsKnown ms ts
  CallsKnown ms (differs t) = CallsKnown ms t
  CallsKnown ms (path_equation p q) = Unit {0}
  CallsKnown ms (call k m ts) = (m < length ms) × (how_many ts ≡ (macro_at ms m).parameters) × AllCallsKnown ms ts
  CallsKnown ms (cells ts t) = AllCallsKnown ms ts × CallsKnown ms t

  pub AllCallsKnown : List MacroData → TemplatesData → Type 0
  AllCallsKnown ms none = Unit {0}
  AllCallsKnown ms (more t ts) = CallsKnown ms t × AllCallsKnown ms ts

-- so it is of each body of these
abbrev pub BodiesKnown : List MacroData → List MacroData → Type 0
BodiesKnown ms [] = Unit {0}
BodiesKnown ms (x ∷ xs) = CallsKnown ms x.body × BodiesKnown ms xs

-- a library whose calls can be replaced: its macros stand in an order in which each calls only those before it
pub record IsLibrary (library : LibraryData) : Type 0 where
  pub known : BodiesKnown library.macros library.macros
  pub order : List ℕ
  pub in_order : IsOrder (calls_of library.macros) (length library.macros) order

-- its types and features are ones of the signature, and where a list stands in it, so are those of lists
abbrev mutual
  pub FitsTemplate : Hierarchy → ListTypes → TemplateData → Type 0
  FitsTemplate h l (of_type t) = t < h.types
  FitsTemplate h l (variable v) = Unit {0}
  FitsTemplate h l (at f t) = (f < h.features) × FitsTemplate h l t
  FitsTemplate h l (all ts) = FitTemplates h l ts
  FitsTemplate h l (any ts) = FitTemplates h l ts
  FitsTemplate h l (differs t) = FitsTemplate h l t
  FitsTemplate h l (path_equation p q) = FitsPath h p × FitsPath h q
  FitsTemplate h l (call k m ts) = FitTemplates h l ts
  FitsTemplate h l (cells ts t) = FitLists h l × FitTemplates h l ts × FitsTemplate h l t

  pub FitTemplates : Hierarchy → ListTypes → TemplatesData → Type 0
  FitTemplates h l none = Unit {0}
  FitTemplates h l (more t ts) = FitsTemplate h l t × FitTemplates h l ts

abbrev pub BodiesFit : Hierarchy → ListTypes → List MacroData → Type 0
BodiesFit h l [] = Unit {0}
BodiesFit h l (x ∷ xs) = FitsTemplate h l x.body × BodiesFit h l xs

-- no inequation stands in it
abbrev mutual
  pub IsPlainTemplate : TemplateData → Type 0
  IsPlainTemplate (of_type t) = Unit {0}
  IsPlainTemplate (variable v) = Unit {0}
  IsPlainTemplate (at f t) = IsPlainTemplate t
  IsPlainTemplate (all ts) = ArePlainTemplates ts
  IsPlainTemplate (any ts) = ArePlainTemplates ts
  IsPlainTemplate (differs t) = ⊥
  IsPlainTemplate (path_equation p q) = Unit {0}
  IsPlainTemplate (call k m ts) = ArePlainTemplates ts
  IsPlainTemplate (cells ts t) = ArePlainTemplates ts × IsPlainTemplate t

  pub ArePlainTemplates : TemplatesData → Type 0
  ArePlainTemplates none = Unit {0}
  ArePlainTemplates (more t ts) = IsPlainTemplate t × ArePlainTemplates ts

abbrev pub BodiesArePlain : List MacroData → Type 0
BodiesArePlain [] = Unit {0}
BodiesArePlain (x ∷ xs) = IsPlainTemplate x.body × BodiesArePlain xs
