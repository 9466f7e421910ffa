use Rattle.std.proofs.Common.{◌∙◌, sym, ap, [], arith}
use Rattle.std.specs.Str.{chars}
use Rattle.ale_hierarchy.proofs.HierarchyFaults.{get_or-beyond}
use Rattle.ale_hierarchy.proofs.naming.type_text.Goals as goal

pub returns-then-t-type_count : goal.returns-then-t-type_count
unfolding chars
returns-then-t-type_count c = c.of.ensures ∙ ap chars c.new.ensures.bytes ∙ sym (get_or-beyond c.args.outline.now.types c.args.t [] (omega arith))
