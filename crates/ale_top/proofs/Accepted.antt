-- The output of a grammar that is accepted is that of its commands.
use Rattle.std.proofs.Common.{◌≡◌, ◌∙◌, ℕ, sym, subst, List, Result, Ok, Err, IfOk, OnOk}
use Rattle.ale_load.specs.Grammars.{LoadedData, load_of}
use Rattle.ale_load.specs.Commands.{commands_of}
use Rattle.ale_top.specs.declared.report.Report.{Report}
use Rattle.ale_top.specs.Output.{Ending, after_grammar, after_commands, outcome}
use Rattle.ale_top.specs.Reports.{report_of, AreCountedFor, AreCountedIn}

pub accepted_report : {E : Type 0} (r : Result Report E) (g c : List ℕ) (budget : ℕ) (l : LoadedData) → load_of g ≡ Ok l
    → IfOk r (λ x. ◌≡◌ {A = Ending} (report_of x) (after_commands l budget (commands_of l c))) → IfOk r (λ x. ◌≡◌ {A = Ending} (report_of x) (outcome g c budget))
accepted_report r g c budget l e is = subst (λ z. IfOk r (λ x. ◌≡◌ {A = Ending} (report_of x) (after_grammar c budget z))) (sym e) is

pub accepted_counted : {E : Type 0} (r : Result Report E) (g c : List ℕ) (budget : ℕ) (l : LoadedData) → load_of g ≡ Ok l → OnOk r (AreCountedFor l c budget) → OnOk r (AreCountedIn g c budget)
accepted_counted (Ok x) g c budget l e are = λ m is. let f : Ok l ≡ Ok m = sym e ∙ is in let same : l ≡ m = cc in subst (λ (z : LoadedData). AreCountedFor z c budget) same are
accepted_counted (Err x) g c budget l e are = tt
