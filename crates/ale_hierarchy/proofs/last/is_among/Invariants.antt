use Rattle.std.proofs.Common.{◌≡◌, drop}
use Rattle.ale_declared.specs.Lists.{is_among}
use Rattle.ale_hierarchy.proofs.last.is_among.Given as goal

abbrev pub invariant-loop-y : goal.invariant-loop-y
invariant-loop-y l = is_among l.x (drop l.y-index l.numbers) ≡ is_among l.x l.numbers
