use Rattle.std.proofs.Common.{◌≡◌, take}
use Rattle.ale_logic.specs.States.{numbered}
use Rattle.ale_search.specs.Views.{state_of, states_of}
use Rattle.ale_search.proofs.Numbered.{those}
use Rattle.ale_search.proofs.choosing.alternatives.Given as goal

abbrev pub invariant-loop-number : goal.invariant-loop-number
invariant-loop-number l =
    states_of l.kids.items ≡ numbered 0 (those (state_of l.state) l.env l.node (take l.number l.others))
