-- The argument of a call by its place, among templates of the program.
use Rattle.std.proofs.Common.{◌≡◌, ℕ, zero, suc, ◌<◌, ◌≤◌, Option, Some, None, List, [], ◌∷◌, length, map, get_or, refl, sym, ap, ◌∙◌, arith}
use Rattle.ale_macro.specs.declared.template.Template.{Template}
use Rattle.ale_macro.specs.Templates.{TemplatesData, template_data, templates_of, call, none, more}
use Rattle.ale_macro.specs.Projections.{projected, projected_arg}

arg_none : (known : ℕ → Option ℕ) (n : ℕ) (ts : TemplatesData) → projected_arg known n ts None ≡ None
arg_none known n none = refl
arg_none known n (more t ts) = refl

arg_past : (known : ℕ → Option ℕ) (n : ℕ) (ts : List Template) (i : ℕ) → length ts ≤ i → projected_arg known n (templates_of (map template_data ts)) (Some i) ≡ None
arg_past known n [] i past = refl
arg_past known n (t ∷ ts) zero past = absurd (omega arith)
arg_past known n (t ∷ ts) (suc i) past = arg_past known n ts i (omega arith)

arg_at : (known : ℕ → Option ℕ) (n : ℕ) (ts : List Template) (i : ℕ) (x : Template) → i < length ts →
    projected_arg known n (templates_of (map template_data ts)) (Some i) ≡ projected known n (template_data (get_or ts i x))
arg_at known n [] i x low = absurd (omega arith)
arg_at known n (t ∷ ts) zero x low = refl
arg_at known n (t ∷ ts) (suc i) x low = arg_at known n ts i x (omega arith)

pub no_place : (known : ℕ → Option ℕ) (n k m : ℕ) (ts : List Template) → None ≡ known m → None ≡ projected known n (call k m (templates_of (map template_data ts)))
no_place known n k m ts e = sym (ap (projected_arg known n (templates_of (map template_data ts))) (sym e) ∙ arg_none known n (templates_of (map template_data ts)))

pub no_argument : (known : ℕ → Option ℕ) (n k m i : ℕ) (ts : List Template) → Some i ≡ known m → length ts ≤ i → None ≡ projected known n (call k m (templates_of (map template_data ts)))
no_argument known n k m i ts e past =
    sym (ap (projected_arg known n (templates_of (map template_data ts))) (sym e) ∙ arg_past known n ts i past)

pub an_argument : (known : ℕ → Option ℕ) (n k m i : ℕ) (ts : List Template) (x : Template) → Some i ≡ known m → i < length ts → x ≡ get_or ts i x →
    projected known n (template_data x) ≡ projected known n (call k m (templates_of (map template_data ts)))
an_argument known n k m i ts x e low is =
    sym (ap (projected_arg known n (templates_of (map template_data ts))) (sym e) ∙ (arg_at known n ts i x low ∙ ap (λ t. projected known n (template_data t)) (sym is)))
