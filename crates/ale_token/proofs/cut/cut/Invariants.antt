-- The ranges so far, before what the rest is cut into, are what the whole is cut into.
use Rattle.std.proofs.Common.{◌≡◌, ◌-◌, ◌≤◌, take, drop}
use Rattle.ale_token.specs.Tokens.{with_front}
use Rattle.ale_token.specs.Declarations.{cut_on, declarations_of}
use Rattle.ale_token.proofs.cut.cut.Given as goal

abbrev pub invariant-loop-at : goal.invariant-loop-at
invariant-loop-at l = record {
  value : with_front l.ranges.items (cut_on l.from (take (l.at - l.from) (drop l.from l.list)) (drop l.at l.list)) ≡ declarations_of l.list;
  ordered : l.from ≤ l.at;
}
