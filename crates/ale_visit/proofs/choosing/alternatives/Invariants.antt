use Rattle.std.proofs.Common.{◌≡◌, take, map}
use Rattle.ale_logic.specs.States.{numbered}
use Rattle.ale_visit.specs.Views.{state_of, states_of}
use Rattle.ale_visit.proofs.Numbered.{by_desc}
use Rattle.ale_visit.proofs.choosing.alternatives.Given as goal

abbrev pub invariant-loop-number : goal.invariant-loop-number
invariant-loop-number l =
    states_of l.kids.items ≡ numbered 0 (map (by_desc (state_of l.state) l.env l.node) (take l.number l.others))
