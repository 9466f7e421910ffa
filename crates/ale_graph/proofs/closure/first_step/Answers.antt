use Rattle.std.proofs.Common.{List, ℕ, length, subst, sym, ap, ◌∙◌}
use Rattle.ale_hierarchy.specs.Order.{hierarchy}
use Rattle.ale_graph.specs.declared.fact.Fact.{Fact}
use Rattle.ale_graph.specs.Types.{least_types}
use Rattle.ale_graph.specs.Drafts.{class_in}
use Rattle.ale_graph.specs.Working.{IsFirstDraft}
use Rattle.ale_graph.specs.Raising.{HasTypes}
use Rattle.ale_graph.proofs.ResultSteps.{first_none, first_draft}
use Rattle.ale_graph.proofs.closure.first_step.Goals as goal

pub returns-in-None : goal.returns-in-None
returns-in-None c =
    let none = rw c.in-None.is at c.in_ok-raise_all.ensures in
    first_none (hierarchy c.args.sig.now) c.args.facts.now c.args.next c.in_ok-class.field-0.class.items c.in_ok-class.field-0.values.items c.requires.fits c.in_ok-class.ensures
    (ap (λ (z : List ℕ). least_types (hierarchy c.args.sig.now) c.args.facts.now (length z) (class_in z)) (sym c.as_slice.ensures.value) ∙ none)

pub returns-in_ok-facts-in-Some : goal.returns-in_ok-facts-in-Some
returns-in_ok-facts-in-Some c =
    let some = rw c.in-Some.is at c.in_ok-raise_all.ensures in
    let typed = subst (λ (z : List ℕ). HasTypes (hierarchy c.args.sig.now) c.args.facts.now z c.in-Some.types.items) c.as_slice.ensures.value some in
    subst (λ (z : List Fact). IsFirstDraft (hierarchy c.args.sig.now) c.args.facts.now c.args.next (record { facts = z; class = c.in_ok-class.field-0.class.items; types = c.in-Some.types.items; values = c.in_ok-class.field-0.values.items })) (sym c.in_ok-facts-in-Some.ensures.items)
    (first_draft (hierarchy c.args.sig.now) c.args.facts.now c.args.next c.in_ok-class.field-0.class.items c.in-Some.types.items c.in_ok-class.field-0.values.items c.requires.fits c.in_ok-class.ensures typed)
