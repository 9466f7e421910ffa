use Rattle.std.proofs.Common.{◌≡◌, sym, subst, IfOk}
use Rattle.std.specs.Prelude.{ℕ}
use Rattle.ale_graph.specs.declared.closed.Closed.{Closed}
use Rattle.ale_logic.specs.States.{on, numbered}
use Rattle.ale_logic.specs.Visits.{kids}
use Rattle.ale_visit.specs.Views.{grammar, demand_of, state_of, states_of}
use Rattle.ale_visit.proofs.visiting.demanded.Goals as goal

pub returns-in-Holds : goal.returns-in-Holds
returns-in-Holds c =
    subst (λ x. IfOk c.described.result (λ v. (waiting : ℕ) (d : Closed) → states_of v.items ≡ numbered 0 (kids (grammar c.args.program.now) waiting d (on c.args.node (demand_of x)) (state_of c.args.state))))
    (sym c.in-Holds.is) c.described.ensures
