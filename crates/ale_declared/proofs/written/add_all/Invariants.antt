use Rattle.std.proofs.Common.{◌≡◌, drop}
use Rattle.ale_declared.specs.Names.{numbered}
use Rattle.ale_declared.proofs.written.add_all.Given as goal

abbrev pub invariant-loop-name : goal.invariant-loop-name
invariant-loop-name l = numbered l.names (drop l.name-index l.added) ≡ numbered l.initial.names l.added
