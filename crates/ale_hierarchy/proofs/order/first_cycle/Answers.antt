use Rattle.std.proofs.Common.{◌∙◌, sym, arith}
use Rattle.ale_relation.specs.Rows.{holds}
use Rattle.ale_declared.proofs.ListLemmas.{first_upto, first_upto_none}
use Rattle.ale_hierarchy.proofs.order.first_cycle.Goals as goal

pub returns-then-holds : goal.returns-then-holds
returns-then-holds c =
    sym (first_upto (λ t. holds c.args.leads.now t t) c.args.leads.now.size c.loop-t.t (omega arith) (sym c.holds.ensures ∙ c.if-holds.true) c.loop-t.invariant)

pub returns : goal.returns
returns c = sym (first_upto_none (λ t. holds c.args.leads.now t t) c.args.leads.now.size (λ i h. c.loop-t.invariant i (omega arith)))
