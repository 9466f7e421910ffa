use Rattle.std.specs.Str.{chars}
use Rattle.ale_vocabulary.proofs.Named.{told_named}
use Rattle.ale_vocabulary.proofs.knowing.has_feature.Goals as goal

pub returns : goal.returns
returns c = told_named c.args.sig.now.features (chars c.as_str.result.now) c.args.name.now c.feat_named.result c.is_some.result c.is_some.ensures c.feat_named.ensures.value c.as_str.ensures.value
