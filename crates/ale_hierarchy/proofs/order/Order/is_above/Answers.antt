use Rattle.std.proofs.Common.{ℕ, ◌<◌, eqb, length, subst}
use Rattle.std.proofs.lemmas.Bool.{eq-eqb}
use Rattle.ale_relation.specs.Paths.{here}
use Rattle.ale_relation.specs.Rows.{holds}
use Rattle.ale_hierarchy.specs.Order.{IsAbove}
use Rattle.ale_hierarchy.proofs.PathLemmas.{Leads_apart}
use Rattle.ale_relation.proofs.Paths.{reaches_from_leads}
use Rattle.ale_hierarchy.proofs.OrderLemmas.{is_above_is}
use Rattle.ale_hierarchy.proofs.order.Order.is_above.Goals as goal

pub returns-then-a-b-clause-value : goal.returns-then-a-b-clause-value
returns-then-a-b-clause-value c =
    let d = c.self.inside.outline in
    rw (← c.self.view_is) (is_above_is d c.args.a c.args.b (eqb c.args.a c.args.b) c.self.invariant.ordered.numbered
    (λ e. subst (λ (z : ℕ). IsAbove d c.args.a z) c.if-a-b.true (here c.args.a), λ r. eq-eqb c.args.a c.args.b c.if-a-b.true))

pub returns-else-a-b-clause-value : goal.returns-else-a-b-clause-value
returns-else-a-b-clause-value c =
    let d = c.self.inside.outline in
    let a_in : c.args.a < length d.types = rw (← c.self.view_is) at c.requires.a in
    let b_in : c.args.b < length d.types = rw (← c.self.view_is) at c.requires.b in
    let tells = c.self.invariant.tells.leads c.args.a c.args.b a_in b_in in
    rw (c.holds.ensures, ← c.self.view_is) (is_above_is d c.args.a c.args.b (holds c.self.inside.leads c.args.a c.args.b) c.self.invariant.ordered.numbered
    (λ e. reaches_from_leads d.edges c.args.a c.args.b (tells.0 e), λ r. tells.1 (Leads_apart d.edges c.args.a c.args.b r c.if-a-b.false)))
