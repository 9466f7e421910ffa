use Rattle.std.proofs.Common.{sym, arith}
use Rattle.ale_hierarchy.proofs.FaultLemmas.{limit_types, limit_features, limit_clear}
use Rattle.ale_hierarchy.proofs.order.past_limit.Goals as goal

pub returns-then-type_count-gt-MOST_TYPES : goal.returns-then-type_count-gt-MOST_TYPES
returns-then-type_count-gt-MOST_TYPES c = sym (limit_types c.args.outline.now (omega arith))

pub returns-then-feat_count-gt-MOST_FEATURES : goal.returns-then-feat_count-gt-MOST_FEATURES
returns-then-feat_count-gt-MOST_FEATURES c = sym (limit_features c.args.outline.now (omega arith) (omega arith))

pub returns : goal.returns
returns c = sym (limit_clear c.args.outline.now (record { few_types = omega arith; few_features = omega arith }))
