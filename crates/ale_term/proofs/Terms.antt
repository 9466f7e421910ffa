-- The plain data of descriptions and goals, variant by variant.
use Rattle.std.proofs.Common.{◌≡◌, ℕ, List, Some, None, sym, ap, ◌∙◌, map}
use Rattle.ale_term.specs.declared.term.Term.{Term, fold-roll-Term}
use Rattle.ale_term.specs.declared.term.Term.TheOpen.{Term-F}
use Rattle.ale_term.specs.declared.term.Term.TheVariants as v
use Rattle.ale_term.specs.Terms.{TermData, name, slot, at, all, any, differs, meet, macro, list, list_with, terms_of, term_step, term_data}
use Rattle.ale_term.specs.declared.goal_term.GoalTerm.{GoalTerm, fold-roll-GoalTerm}
use Rattle.ale_term.specs.declared.goal_term.GoalTerm.TheOpen.{GoalTerm-F}
use Rattle.ale_term.specs.declared.goal_term.GoalTerm.TheVariants as w
use Rattle.ale_term.specs.Goals.{GoalData, holds, cut, each, either, equal, call, not_proved, if_else, once, goals_of, goal_step, goal_data}

pub term_name : (n : List ℕ) → term_data (v.Name n) ≡ name n
term_name n = ap term_data (sym (v.rolls-Name n)) ∙ fold-roll-Term TermData term_step (Term-F.Name n)

pub term_slot : (n : List ℕ) → term_data (v.Slot n) ≡ slot n
term_slot n = ap term_data (sym (v.rolls-Slot n)) ∙ fold-roll-Term TermData term_step (Term-F.Slot n)

pub term_at : (f : List ℕ) (t : Term) → term_data (v.At f t) ≡ at f (term_data t)
term_at f t = ap term_data (sym (v.rolls-At f t)) ∙ fold-roll-Term TermData term_step (Term-F.At f t)

pub term_all : (ts : List Term) → term_data (v.All ts) ≡ all (terms_of (map term_data ts))
term_all ts = ap term_data (sym (v.rolls-All ts)) ∙ fold-roll-Term TermData term_step (Term-F.All ts)

pub term_any : (ts : List Term) → term_data (v.Any ts) ≡ any (terms_of (map term_data ts))
term_any ts = ap term_data (sym (v.rolls-Any ts)) ∙ fold-roll-Term TermData term_step (Term-F.Any ts)

pub term_differs : (t : Term) → term_data (v.Differs t) ≡ differs (term_data t)
term_differs t = ap term_data (sym (v.rolls-Differs t)) ∙ fold-roll-Term TermData term_step (Term-F.Differs t)

pub term_meet : (p q : List (List ℕ)) → term_data (v.Meet p q) ≡ meet p q
term_meet p q = ap term_data (sym (v.rolls-Meet p q)) ∙ fold-roll-Term TermData term_step (Term-F.Meet p q)

pub term_macro : (n : List ℕ) (ts : List Term) → term_data (v.Macro n ts) ≡ macro n (terms_of (map term_data ts))
term_macro n ts = ap term_data (sym (v.rolls-Macro n ts)) ∙ fold-roll-Term TermData term_step (Term-F.Macro n ts)

pub term_list : (ts : List Term) → term_data (v.List ts None) ≡ list (terms_of (map term_data ts))
term_list ts = ap term_data (sym (v.rolls-List ts None)) ∙ fold-roll-Term TermData term_step (Term-F.List ts None)

pub term_list_with : (ts : List Term) (t : Term) → term_data (v.List ts (Some t)) ≡ list_with (terms_of (map term_data ts)) (term_data t)
term_list_with ts t = ap term_data (sym (v.rolls-List ts (Some t))) ∙ fold-roll-Term TermData term_step (Term-F.List ts (Some t))

pub ruleset term_rules = (term_name, term_slot, term_at, term_all, term_any, term_differs, term_meet, term_macro, term_list, term_list_with)

pub goal_yes : goal_data w.Yes ≡ holds
goal_yes = ap goal_data (sym (w.rolls-Yes)) ∙ fold-roll-GoalTerm GoalData goal_step GoalTerm-F.Yes

pub goal_cut : goal_data w.Cut ≡ cut
goal_cut = ap goal_data (sym (w.rolls-Cut)) ∙ fold-roll-GoalTerm GoalData goal_step GoalTerm-F.Cut

pub goal_all : (gs : List GoalTerm) → goal_data (w.All gs) ≡ each (goals_of (map goal_data gs))
goal_all gs = ap goal_data (sym (w.rolls-All gs)) ∙ fold-roll-GoalTerm GoalData goal_step (GoalTerm-F.All gs)

pub goal_any : (gs : List GoalTerm) → goal_data (w.Any gs) ≡ either (goals_of (map goal_data gs))
goal_any gs = ap goal_data (sym (w.rolls-Any gs)) ∙ fold-roll-GoalTerm GoalData goal_step (GoalTerm-F.Any gs)

pub goal_equal : (t u : Term) → goal_data (w.Equal t u) ≡ equal (term_data t) (term_data u)
goal_equal t u = ap goal_data (sym (w.rolls-Equal t u)) ∙ fold-roll-GoalTerm GoalData goal_step (GoalTerm-F.Equal t u)

pub goal_call : (p : List ℕ) (ts : List Term) → goal_data (w.Call p ts) ≡ call p (map term_data ts)
goal_call p ts = ap goal_data (sym (w.rolls-Call p ts)) ∙ fold-roll-GoalTerm GoalData goal_step (GoalTerm-F.Call p ts)

pub goal_not : (g : GoalTerm) → goal_data (w.Not g) ≡ not_proved (goal_data g)
goal_not g = ap goal_data (sym (w.rolls-Not g)) ∙ fold-roll-GoalTerm GoalData goal_step (GoalTerm-F.Not g)

pub goal_if_else : (c g e : GoalTerm) → goal_data (w.IfElse c g e) ≡ if_else (goal_data c) (goal_data g) (goal_data e)
goal_if_else c g e = ap goal_data (sym (w.rolls-IfElse c g e)) ∙ fold-roll-GoalTerm GoalData goal_step (GoalTerm-F.IfElse c g e)

pub goal_once : (c g : GoalTerm) → goal_data (w.Once c g) ≡ once (goal_data c) (goal_data g)
goal_once c g = ap goal_data (sym (w.rolls-Once c g)) ∙ fold-roll-GoalTerm GoalData goal_step (GoalTerm-F.Once c g)

pub ruleset goal_rules = (goal_yes, goal_cut, goal_all, goal_any, goal_equal, goal_call, goal_not, goal_if_else, goal_once)
