-- What a visit is, from the parts that the program finds one after another.
use Rattle.std.proofs.Common.{◌≡◌, ℕ, zero, suc, List, [], ◌∷◌, ◌++◌, sym, ap, ◌∙◌, subst, Option, Some, None, ◌<◌, Result, Ok, Err, IfOk}
use Rattle.ale_hierarchy.specs.Hierarchy.{Hierarchy, IsLawful}
use Rattle.ale_graph.specs.declared.closed.Closed.{Closed}
use Rattle.ale_graph.specs.declared.fact.Fact.{Fact}
use Rattle.ale_graph.specs.Closure.{close, node_of}
use Rattle.ale_graph.specs.Facts.{Fits}
use Rattle.ale_graph.specs.Structures.{type_of}
use Rattle.ale_graph.specs.Universal.{IsClosure, ClosesTo, ClosureLaw}
use Rattle.ale_engine.specs.Engine.{Visit, goes}
use Rattle.ale_logic.specs.States as plain
use Rattle.ale_logic.specs.Words.{Grammar}
use Rattle.ale_logic.specs.WellFormed.{Scope, FitsDemand, FitItems}
use Rattle.ale_logic.specs.Visits.{Answer, Owed, owed, visit_owed, visit_of, visit}
use Rattle.ale_visit.specs.declared.items.Item.{Item}
use Rattle.ale_visit.specs.Owing.{GraphHasTypes}
use Rattle.ale_visit.specs.Views.{item_of, agenda_of, IsKnownDemand, IsKnown}
use Rattle.ale_visit.proofs.Turned.{turned_push}

known_demand : (h : Hierarchy) (c : Scope) (x : plain.Demand) → FitsDemand h c x → IsKnownDemand h c.envs x
known_demand h c (plain.holds e d) fit = fit
known_demand h c (plain.ends_with p b q) fit = (fit.0, fit.2)
known_demand h c (plain.leads q a) fit = fit.0
known_demand h c (plain.generates g) fit = tt
known_demand h c (plain.generates_all g) fit = tt

known : (h : Hierarchy) (c : Scope) (i : plain.Item) (is : List plain.Item) → FitItems h c (i ∷ is) → IsKnown h c.envs i
known h c (plain.on n x) is fit = known_demand h c x fit.0.1
known h c (plain.take n f x) is fit = tt
known h c (plain.derive e k g) is fit = tt
known h c (plain.called p ns) is fit = tt
known h c (plain.cuts k) is fit = tt
known h c plain.stop is fit = tt
known h c (plain.split n end) is fit = tt
known h c (plain.pivot s target) is fit = tt
known h c (plain.connect p us target) is fit = tt

-- the last item of the stack is known
pub known_last : (h : Hierarchy) (c : Scope) (items below : List Item) (item : Item) → items ≡ below ++ item ∷ [] → FitItems h c (agenda_of items) → IsKnown h c.envs (item_of item)
known_last h c items below item e fit =
    known h c (item_of item) (agenda_of below) (subst (FitItems h c) (ap agenda_of e ∙ turned_push item_of below item []) fit)

-- what follows of a value that is there
pub ok_at : {A E : Type 0} (r : Result A E) (P Q : A → Type 0) → ((a : A) → P a → Q a) → IfOk r P → IfOk r Q
ok_at (Ok a) P Q f p = f a p
ok_at (Err e) P Q f p = tt
