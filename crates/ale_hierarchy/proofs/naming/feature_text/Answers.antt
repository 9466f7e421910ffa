use Rattle.std.proofs.Common.{◌∙◌, sym, ap, [], arith}
use Rattle.std.specs.Str.{chars}
use Rattle.ale_hierarchy.proofs.HierarchyFaults.{get_or-beyond}
use Rattle.ale_hierarchy.proofs.naming.feature_text.Goals as goal

pub returns-then-f-feat_count : goal.returns-then-f-feat_count
unfolding chars
returns-then-f-feat_count c = c.of.ensures ∙ ap chars c.new.ensures.bytes ∙ sym (get_or-beyond c.args.outline.now.features c.args.f [] (omega arith))
