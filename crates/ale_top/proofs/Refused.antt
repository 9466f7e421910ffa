-- A grammar that is refused is not accepted, and its output is that of its refusal.
use Rattle.std.proofs.Common.{◌≡◌, ◌∙◌, ℕ, sym, ap, subst, refl, List, Result, Ok, Err, IfOk, OnOk}
use Rattle.ale_load.specs.declared.grammar_error.GrammarError.{GrammarError}
use Rattle.ale_load.specs.declared.grammar_error.GrammarError.TheVariants as grammar
use Rattle.ale_load.specs.Grammars.{LoadedData, load_of}
use Rattle.ale_load.specs.Results.{GrammarFails}
use Rattle.ale_top.specs.declared.report.Report.{Report}
use Rattle.ale_top.specs.declared.status.Status.TheVariants.{Grammar}
use Rattle.ale_top.specs.Lines.{grammar_line}
use Rattle.ale_top.specs.Output.{Ending, after_grammar, outcome}
use Rattle.ale_top.specs.Reports.{report_of, AreCountedIn}
use Rattle.ale_top.specs.Runs.{IsReported}

no_ok : {A E : Type 0} {a : A} {e : E} → Ok a ≡ Err e → ⊥
no_ok e = absurd cc

pub not_loaded : (e : GrammarError) (r : Result LoadedData GrammarError) → GrammarFails e r → (e ≡ grammar.NoMemory → ⊥) → (l : LoadedData) → r ≡ Ok l → ⊥
not_loaded grammar.NoMemory r f some l is = some refl
not_loaded grammar.TooLong r f some l is = no_ok (sym is ∙ f)
not_loaded (grammar.NotText p) r f some l is = no_ok (sym is ∙ f)
not_loaded (grammar.Token e) r f some l is = no_ok (sym is ∙ f)
not_loaded (grammar.Form k e) r f some l is = no_ok (sym is ∙ f)
not_loaded (grammar.NotBuilt k) r f some l is = no_ok (sym is ∙ f)
not_loaded (grammar.Signature e) r f some l is = no_ok (sym is ∙ f)
not_loaded (grammar.Names k e) r f some l is = no_ok (sym is ∙ f)

-- the output that is defined of a grammar that is refused
refused_outcome : (e : GrammarError) (g c : List ℕ) (budget : ℕ) → GrammarFails e (load_of g) → (e ≡ grammar.NoMemory → ⊥) → ◌≡◌ {A = Ending} (Grammar, grammar_line e) (outcome g c budget)
refused_outcome grammar.NoMemory g c budget f some = absurd (some refl)
refused_outcome grammar.TooLong g c budget f some = sym (ap (after_grammar c budget) f)
refused_outcome (grammar.NotText p) g c budget f some = sym (ap (after_grammar c budget) f)
refused_outcome (grammar.Token e) g c budget f some = sym (ap (after_grammar c budget) f)
refused_outcome (grammar.Form k e) g c budget f some = sym (ap (after_grammar c budget) f)
refused_outcome (grammar.NotBuilt k) g c budget f some = sym (ap (after_grammar c budget) f)
refused_outcome (grammar.Signature e) g c budget f some = sym (ap (after_grammar c budget) f)
refused_outcome (grammar.Names k e) g c budget f some = sym (ap (after_grammar c budget) f)

pub refused_report : {E : Type 0} (r : Result Report E) (e : GrammarError) (g c : List ℕ) (budget : ℕ) → OnOk r (e ≡ grammar.NoMemory → ⊥)
    → IfOk r (λ x. ◌≡◌ {A = Ending} (report_of x) (Grammar, grammar_line e)) → GrammarFails e (load_of g) → IfOk r (λ x. ◌≡◌ {A = Ending} (report_of x) (outcome g c budget))
refused_report (Ok x) e g c budget some is f = is ∙ refused_outcome e g c budget f some
refused_report (Err x) e g c budget some is f = tt

pub refused_kind : {E : Type 0} (r : Result Report E) → IfOk r (λ x. x.status ≡ Grammar) → IfOk r (λ x. IsReported x.status)
refused_kind (Ok x) e = subst IsReported (sym e) tt
refused_kind (Err x) e = tt

pub refused_counted : {E : Type 0} (r : Result Report E) (e : GrammarError) (g c : List ℕ) (budget : ℕ) → OnOk r (e ≡ grammar.NoMemory → ⊥)
    → GrammarFails e (load_of g) → OnOk r (AreCountedIn g c budget)
refused_counted (Ok x) e g c budget some f = λ l is. absurd (not_loaded e (load_of g) f some l is)
refused_counted (Err x) e g c budget some f = tt
