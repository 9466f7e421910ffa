use Rattle.std.proofs.Common.{◌≡◌}
use Rattle.ale_hierarchy.specs.Stages.{tabulated, mentions_of}
use Rattle.ale_signature.proofs.witnesses.all_mentions.Given as goal

abbrev pub invariant-loop-f : goal.invariant-loop-f
invariant-loop-f l = l.rows.items ≡ tabulated (mentions_of l.order.mentions) l.f
